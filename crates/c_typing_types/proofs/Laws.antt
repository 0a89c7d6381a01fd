-- Each type of a source passes the tests.
use Rattle.std.proofs.Common.{◌∙◌, ℕ, length, refl, sym, le_refl}
use Rattle.c_operators.specs.Operators.{type_of, value_type}
use Rattle.c_rules.specs.Rules.{called_type}
use Rattle.c_typing_types.specs.Theorems.{BoundsAreGiven, FunctionsAreDeclarable, TypesAreWellMade, TypesNameStructs}
use Rattle.c_typing_types.proofs.Functions.{declarable, functions}
use Rattle.c_typing_types.proofs.Good.{Good, decay-fine}
use Rattle.c_typing_types.proofs.Known.{callee-fine}
use Rattle.c_typing_types.proofs.Sources.{source-passes}
use Rattle.c_typing_types.proofs.Tests.{bounds, names}
use Rattle.c_typing_types.proofs.Together.{together}
use Rattle.c_typing_types.proofs.Units.{members-bounded, units-positive}

pub structs-named : TypesNameStructs
structs-named = record {
  types = λ s t is. (source-passes (names (length t.structs)) s t is refl (le_refl (length t.structs))).items;
  few = λ s t is. (source-passes (names (length t.structs)) s t is refl (le_refl (length t.structs))).few;
}

pub functions-declarable : FunctionsAreDeclarable
unfolding called_type value_type
functions-declarable = record {
  types = λ s t is. (source-passes (functions (length t.structs)) s t is refl (le_refl (length t.structs))).items;
  function = λ f fits. declarable f (sym ((functions 0).as_type f) ∙ fits);
  callee = λ x f fits is. declarable f (callee-fine (functions 0) (value_type x) f (decay-fine (functions 0) (type_of x) fits) is);
}

pub bounds-given : BoundsAreGiven
bounds-given = record {
  types = λ s t is filled. (source-passes (bounds (length t.structs)) s t is filled (le_refl (length t.structs))).items;
  members = λ s t is filled. members-bounded (length t.structs) t.structs (source-passes (bounds (length t.structs)) s t is filled (le_refl (length t.structs))).structs;
  units = λ s t is filled u bounded. units-positive (length t.structs) t.structs (source-passes (bounds (length t.structs)) s t is filled (le_refl (length t.structs))).structs u bounded;
}

abbrev all_three : ℕ → Good
all_three n = together (names n) (together (functions n) (bounds n) refl) refl

pub types-well_made : TypesAreWellMade
types-well_made s t is filled = (source-passes (all_three (length t.structs)) s t is filled (le_refl (length t.structs))).items

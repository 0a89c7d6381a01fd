-- The test that each type of a source passes tells what elaboration asks of types.
use Rattle.std.proofs.Common.{◌≡◌, Bool, true, false, ◌&&◌, IsTrue, length, refl}
use Rattle.c_tree.specs.declared.statement.Unit.{Unit as Source}
use Rattle.c_types.specs.declared.ty.Ty.{Ty}
use Rattle.c_types.specs.declared.ty.Ty.TheVariants as ty
use Rattle.c_types.specs.Sound.{IsSound, names_below}
use Rattle.c_typed.specs.declared.unit.Typed.{Typed}
use Rattle.c_operators.specs.Operators.{type_of}
use Rattle.c_typing.specs.Theorems.{HasForm}
use Rattle.c_typing_types.specs.Filled.{is_filled}
use Rattle.c_typing_types.specs.Theorems.{BoundsAreGiven, FunctionsAreDeclarable, TypesAreWellMade, TypesNameStructs}
use Rattle.c_typing_types.specs.Types.{functions_fit, has_bounds, is_well_made}
use Rattle.elab_valid.specs.Sources.{TypesFit}
use Rattle.elab_valid.specs.Types.{TellsTypes}

first : (a b : Bool) → (a && b) ≡ true → a ≡ true
first true b h = refl
first false b h = cc

second : (a b : Bool) → (a && b) ≡ true → b ≡ true
second true b h = h
second false b h = cc

-- what is known of the types in typed forms
pub record TypeLaws : Type 0 where
  pub names : TypesNameStructs
  pub functions : FunctionsAreDeclarable
  pub bounds : BoundsAreGiven
  pub all : TypesAreWellMade

module _ (laws : TypeLaws) (s : Source) (t : Typed) (form : HasForm s t) (filled : IsTrue (is_filled s)) where
  abbrev test : Ty → Bool
  test = is_well_made (length t.structs)

  functions-test : (u : Ty) → test u ≡ true → functions_fit u ≡ true
  functions-test u h = first (functions_fit u) (has_bounds u) (second (names_below (length t.structs) u) (functions_fit u && has_bounds u) h)

  bounds-test : (u : Ty) → test u ≡ true → has_bounds u ≡ true
  bounds-test u h = second (functions_fit u) (has_bounds u) (second (names_below (length t.structs) u) (functions_fit u && has_bounds u) h)

  tells : TellsTypes t.structs test
  tells = record {
    named = λ u h. first (names_below (length t.structs) u) (functions_fit u && has_bounds u) h;
    called = λ x f h is.
        let d = laws.functions.callee x f (functions-test (type_of x) h) is in
        record { params = d.params; result = d.result };
    few = λ f h. (laws.functions.function f (functions-test (ty.Function f) h)).few;
    some = λ u h. laws.bounds.units s t form filled u (bounds-test u h);
  }

  pub types-fit : IsSound t.structs → TypesFit t test
  types-fit sound = record {
    sound = sound;
    few = laws.names.few s t form;
    tells = tells;
    types = laws.all s t form filled;
  }

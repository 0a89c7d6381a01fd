-- What holds of the types in the typed form of a source.
use Rattle.std.specs.Prelude.{◌≡◌, ◌≤◌, ℕ, IsTrue, List, length, Some}
use Rattle.std.specs.List.{AllByRecursion}
use Rattle.c_tree.specs.declared.statement.Unit.{Unit as Source}
use Rattle.c_tree.specs.Marks.{Kinds}
use Rattle.c_tree.specs.Statements.{SourceReads}
use Rattle.c_types.specs.declared.structs.Member.{Member}
use Rattle.c_types.specs.declared.ty.FnTy.{FnTy}
use Rattle.c_types.specs.declared.ty.Ty.{Ty}
use Rattle.c_types.specs.declared.ty.Ty.TheVariants as ty
use Rattle.c_types.specs.Sound.{names_below}
use Rattle.c_types.specs.Structs.{body_of}
use Rattle.c_types.specs.Units.{exact_units}
use Rattle.c_typed.specs.declared.expression.TypedExpr.{TypedExpr}
use Rattle.c_typed.specs.declared.unit.Typed.{Typed}
use Rattle.c_scope.specs.Scopes.{most_tags}
use Rattle.c_operators.specs.Operators.{type_of}
use Rattle.c_rules.specs.Rules.{called_type}
use Rattle.c_typing.specs.Theorems.{HasForm}
use Rattle.c_typing_types.specs.Filled.{is_filled}
use Rattle.c_typed_rows.specs.Types.{SourceTypes}
use Rattle.c_typing_types.specs.Types.{IsDeclarable, functions_fit, has_bounds, is_well_made}

-- each type in the typed form of a source names structs of its table alone, of which there are at most so many as tags may be
pub record TypesNameStructs : Type 0 where
  pub types : (s : Source) (t : Typed) → HasForm s t → SourceTypes (names_below (length t.structs)) t
  pub few : (s : Source) (t : Typed) → HasForm s t → length t.structs ≤ most_tags

-- each function in a type of it, declared, called or pointed to, takes at most eight scalars and gives a scalar or nothing
pub record FunctionsAreDeclarable : Type 0 where
  pub types : (s : Source) (t : Typed) → HasForm s t → SourceTypes functions_fit t
  -- what that says of a function's type, and of what is called
  pub function : (f : FnTy) → IsTrue (functions_fit (ty.Function f)) → IsDeclarable f
  pub callee : (x : TypedExpr) (f : FnTy) → IsTrue (functions_fit (type_of x)) → called_type x ≡ Some f → IsDeclarable f

-- a source that the grammar derives has no empty braces
abbrev pub DerivedSourcesAreFilled : Type 0
DerivedSourcesAreFilled = (ts : Kinds) (s : Source) → SourceReads ts s → IsTrue (is_filled s)

-- where no braces of the source are empty, each bound in a type of it, and in its table of structs, is at least 1, and so are the units
-- of such a type
pub record BoundsAreGiven : Type 0 where
  pub types : (s : Source) (t : Typed) → HasForm s t → IsTrue (is_filled s) → SourceTypes has_bounds t
  pub members :
      (s : Source) (t : Typed)
      → HasForm s t
      → IsTrue (is_filled s)
      → (n : ℕ) (ms : List Member)
      → body_of t.structs n ≡ Some ms
      → AllByRecursion (λ m. IsTrue (has_bounds m.ty)) ms
  pub units :
      (s : Source) (t : Typed)
      → HasForm s t
      → IsTrue (is_filled s)
      → (u : Ty)
      → IsTrue (has_bounds u)
      → (n : ℕ)
      → exact_units t.structs u ≡ Some n
      → 1 ≤ n

-- where no braces of a source are empty, each type in its typed form names structs of its table, has functions that declarators
-- make, and bounds that are at least 1
abbrev pub TypesAreWellMade : Type 0
TypesAreWellMade = (s : Source) (t : Typed) → HasForm s t → IsTrue (is_filled s) → SourceTypes (is_well_made (length t.structs)) t

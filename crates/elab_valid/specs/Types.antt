-- What a test of types is to tell of those that stand in a typed source.
use Rattle.std.specs.Prelude.{◌≡◌, ◌≤◌, ℕ, Bool, List, length, IsTrue, Some}
use Rattle.c_types.specs.declared.structs.StructDef.{StructDef}
use Rattle.c_types.specs.declared.ty.FnTy.{FnTy, out-FnTy}
use Rattle.c_types.specs.declared.ty.Ty.{Ty}
use Rattle.c_types.specs.declared.ty.Ty.TheVariants as ty
use Rattle.c_types.specs.Sound.{names_below}
use Rattle.c_types.specs.Units.{exact_units}
use Rattle.c_typed.specs.declared.expression.TypedExpr.{TypedExpr}
use Rattle.c_operators.specs.Operators.{type_of}
use Rattle.c_rules.specs.Rules.{called_type}
use Rattle.c_typed_rows.specs.Sources.{IsFunctionType}
use Rattle.core_ir.specs.Valid.{most_parameters}

pub record TellsTypes (defs : List StructDef) (fits : Ty → Bool) : Type 0 where
  -- types name structs of the table
  pub named : (t : Ty) → IsTrue (fits t) → IsTrue (names_below (length defs) t)
  -- what is called takes scalars, and gives a scalar or nothing
  pub called : (x : TypedExpr) (f : FnTy) → IsTrue (fits (type_of x)) → called_type x ≡ Some f → IsFunctionType f
  -- functions have few parameters
  pub few : (f : FnTy) → IsTrue (fits (ty.Function f)) → length (out-FnTy f).params ≤ most_parameters
  -- what has units has at least one
  pub some : (t : Ty) → IsTrue (fits t) → (n : ℕ) → exact_units defs t ≡ Some n → 1 ≤ n

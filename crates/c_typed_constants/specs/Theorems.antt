-- What holds of the constants in typed expressions.
use Rattle.std.specs.Prelude.{◌≡◌, ◌↔◌, ℕ, ℤ, List, Ok, Err}
use Rattle.c_types.specs.declared.ty.Ty.{Ty}
use Rattle.c_const.specs.declared.error.ConstRefusal.TheVariants.{Divide}
use Rattle.c_const.specs.Constant.{constant_value}
use Rattle.c_typed.specs.declared.entity.Constant.TheVariants as constant
use Rattle.c_typed.specs.declared.expression.TypedExpr.{TypedExpr}
use Rattle.c_typed.specs.Erased.{erased_expr}
use Rattle.c_operators.specs.Operators.{constant_of}
use Rattle.c_typed_rows.specs.Contexts.{Context}
use Rattle.c_typed_rows.specs.Expressions.{IsTypedExpr}
use Rattle.c_typed_constants.specs.Words.{WordsAreRead}

-- Of an expression each of whose levels meets its row, and each of whose type words is read as its type: its constant is the
-- value of the expression without its types, exactly where that has one; and where a zero divisor is evaluated, it is that.
pub record ConstantsAgree : Type 0 where
  pub value :
      (k : Context) (names : List (List ℕ × Ty)) (x : TypedExpr)
      → IsTypedExpr k x
      → WordsAreRead k.structs names x
      → (v : ℤ)
      → (constant_of x ≡ constant.Value v) ↔ (constant_value k.structs names (erased_expr x) ≡ Ok v)
  pub divides :
      (k : Context) (names : List (List ℕ × Ty)) (x : TypedExpr)
      → IsTypedExpr k x
      → WordsAreRead k.structs names x
      → constant_of x ≡ constant.Divides
      → constant_value k.structs names (erased_expr x) ≡ Err Divide

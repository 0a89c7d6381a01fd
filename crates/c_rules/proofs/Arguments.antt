-- Arguments, as far as there are parameters.
use Rattle.std.proofs.Common.{◌≡◌, true, List, [], ◌∷◌, refl}
use Rattle.c_typed.specs.declared.expression.TypedExpr.{TypedExpr}
use Rattle.c_types.specs.declared.ty.Ty.{Ty}
use Rattle.c_rules.specs.Rules.{all_convert}

-- where no parameter is left nothing is asked
pub no-parameters : (es : List TypedExpr) → all_convert es [] ≡ true
no-parameters [] = refl
no-parameters (e ∷ es) = refl

pub ruleset arguments = (no-parameters)

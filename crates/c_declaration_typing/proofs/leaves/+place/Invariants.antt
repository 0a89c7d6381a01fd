use Rattle.std.proofs.Common.{◌+◌, ◌*◌}
use Rattle.c_typed.specs.declared.expression.TypedExpr.{size-TypedExpr}
use Rattle.c_declaration_typing.proofs.leaves.+place.Given as goal

abbrev pub decreases-is_place : goal.decreases-is_place
decreases-is_place l = 2 * size-TypedExpr l.e.now + 1

abbrev pub decreases-is_place_form : goal.decreases-is_place_form
decreases-is_place_form l = 2 * size-TypedExpr l.e.now

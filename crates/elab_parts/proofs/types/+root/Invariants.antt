use Rattle.std.proofs.Common.{◌+◌, ◌*◌}
use Rattle.c_typed.specs.declared.expression.TypedExpr.{size-TypedExpr}
use Rattle.elab_parts.proofs.types.+root.Given as goal

abbrev pub decreases-root : goal.decreases-root
decreases-root l = 2 * size-TypedExpr l.expr.now + 1

abbrev pub decreases-form_root : goal.decreases-form_root
decreases-form_root l = 2 * size-TypedExpr l.expr.now

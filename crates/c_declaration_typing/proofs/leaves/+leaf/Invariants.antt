use Rattle.std.proofs.Common.{◌+◌, ◌*◌}
use Rattle.c_typed.specs.declared.expression.TypedExpr.{size-TypedExpr}
use Rattle.c_declaration_typing.proofs.leaves.+leaf.Given as goal

abbrev pub decreases-is_leaf : goal.decreases-is_leaf
decreases-is_leaf l = 2 * size-TypedExpr l.e.now + 1

abbrev pub decreases-is_leaf_form : goal.decreases-is_leaf_form
decreases-is_leaf_form l = 2 * size-TypedExpr l.e.now

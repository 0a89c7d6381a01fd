use Rattle.c_expr.proofs.completeness.ReadersAreComplete.{one_tree}
use Rattle.c_expr.proofs.theorems.expressions_have_one_tree.Goals as goal

pub returns : goal.returns
returns c = one_tree

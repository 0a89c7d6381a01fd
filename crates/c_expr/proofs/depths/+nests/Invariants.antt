use Rattle.c_expr.proofs.depths.+nests.Given as goal

abbrev pub decreases-boxed_expr : goal.decreases-boxed_expr
decreases-boxed_expr l = l.depth

abbrev pub decreases-params : goal.decreases-params
decreases-params l = l.depth

use Rattle.elab_expr.proofs.values.+nests.Given as goal

abbrev pub decreases-nested_value : goal.decreases-nested_value
decreases-nested_value l = l.depth

abbrev pub decreases-nested_address : goal.decreases-nested_address
decreases-nested_address l = l.depth

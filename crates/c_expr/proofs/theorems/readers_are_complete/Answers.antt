use Rattle.c_expr.proofs.completeness.ReadersAreComplete as complete
use Rattle.c_expr.proofs.theorems.readers_are_complete.Goals as goal

pub returns : goal.returns
returns c = complete.readers_are_complete

use Rattle.c_types.proofs.SameTypes as types
use Rattle.c_types.proofs.theorems.same_is_equality.Goals as goal

pub returns : goal.returns
returns c = types.same_is_equality

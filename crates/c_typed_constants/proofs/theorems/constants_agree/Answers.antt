use Rattle.c_typed_constants.proofs.Agreement.{agree}
use Rattle.c_typed_constants.proofs.theorems.constants_agree.Goals as goal

pub returns : goal.returns
returns c = agree

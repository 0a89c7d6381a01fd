use Rattle.icode.proofs.StandingLocals.{standing_locals}
use Rattle.icode.proofs.theorems.standing_locals_are_locals.Goals as goal

pub returns : goal.returns
returns c = standing_locals

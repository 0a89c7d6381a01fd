use Rattle.sensitivity.proofs.ClassLaws.{pointers_hold}
use Rattle.sensitivity.proofs.theorems.pointers_hold.Goals as goal

pub returns : goal.returns
returns c = pointers_hold

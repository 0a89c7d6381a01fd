use Rattle.based_laws.proofs.Known.{values_are_kept}
use Rattle.based_laws.proofs.theorems.values_stay_known.Goals as goal

pub returns : goal.returns
returns c = values_are_kept

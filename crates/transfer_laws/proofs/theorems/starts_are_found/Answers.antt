use Rattle.transfer_laws.proofs.Starts.{starts_are_found}
use Rattle.transfer_laws.proofs.theorems.starts_are_found.Goals as goal

pub returns : goal.returns
returns c = starts_are_found

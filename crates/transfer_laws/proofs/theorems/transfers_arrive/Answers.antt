use Rattle.transfer_laws.proofs.Arrivals.{transfers_arrive}
use Rattle.transfer_laws.proofs.theorems.transfers_arrive.Goals as goal

pub returns : goal.returns
returns c = transfers_arrive

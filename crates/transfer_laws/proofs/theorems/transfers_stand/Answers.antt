use Rattle.transfer_laws.proofs.Arrivals.{transfers_stand}
use Rattle.transfer_laws.proofs.theorems.transfers_stand.Goals as goal

pub returns : goal.returns
returns c = transfers_stand

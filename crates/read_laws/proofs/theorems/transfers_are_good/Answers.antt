use Rattle.transfer_laws.proofs.Arrivals.{transfers_arrive, transfers_stand}
use Rattle.transfer_laws.proofs.OpenCalls.{run_is_bracketed}
use Rattle.read_laws.proofs.ReadRuns.{run_reads}
use Rattle.transfer_laws.proofs.Starts.{starts_are_found}
use Rattle.read_laws.proofs.theorems.transfers_are_good.Goals as goal

pub returns : goal.returns
returns c setting threads events valid few = record {
  reads = run_reads setting threads events valid few;
  starts = starts_are_found setting threads events;
  bracketed = run_is_bracketed setting threads events;
  places = transfers_stand setting threads events;
  arrivals = transfers_arrive setting threads events;
}

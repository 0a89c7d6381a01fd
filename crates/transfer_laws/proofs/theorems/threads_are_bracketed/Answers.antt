use Rattle.transfer_laws.proofs.OpenCalls.{run_is_bracketed}
use Rattle.transfer_laws.proofs.theorems.threads_are_bracketed.Goals as goal

pub returns : goal.returns
returns c = run_is_bracketed

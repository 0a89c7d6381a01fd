use Rattle.machine_laws.proofs.History.{run_is_legal}
use Rattle.machine_laws.proofs.theorems.runs_are_legal.Goals as goal

pub returns : goal.returns
returns c = run_is_legal

use Rattle.based_laws.proofs.Accesses.{run_is_based}
use Rattle.based_laws.proofs.theorems.runs_are_based.Goals as goal

pub returns : goal.returns
returns c = run_is_based

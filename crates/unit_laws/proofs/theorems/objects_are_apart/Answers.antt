use Rattle.unit_laws.proofs.OwnRuns.{run_is_apart}
use Rattle.unit_laws.proofs.theorems.objects_are_apart.Goals as goal

pub returns : goal.returns
returns c = run_is_apart

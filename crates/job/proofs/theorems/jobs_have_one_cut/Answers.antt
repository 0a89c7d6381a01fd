use Rattle.job.proofs.OneCut.{cut_is_one, cut_has_mark}
use Rattle.job.proofs.theorems.jobs_have_one_cut.Goals as goal

pub returns-clause-one : goal.returns-clause-one
returns-clause-one c = cut_is_one

pub returns-clause-marked : goal.returns-clause-marked
returns-clause-marked c = cut_has_mark

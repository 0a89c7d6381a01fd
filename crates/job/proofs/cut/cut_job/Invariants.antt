-- No line before `start` ends the source, and the measure is how much is left.
use Rattle.std.proofs.Common.{◌-◌, length}
use Rattle.job.proofs.CutIsFound.{Passed}
use Rattle.job.proofs.cut.cut_job.Given as goal

abbrev pub invariant-loop-start : goal.invariant-loop-start
invariant-loop-start l = Passed l.bytes l.start

abbrev pub decreases-loop-start : goal.decreases-loop-start
decreases-loop-start l = length l.bytes - l.start

-- The lines before `rest` are read, and the measure is how much is left.
use Rattle.std.proofs.Common.{length}
use Rattle.script.proofs.LinesAreRead.{ReadInputs}
use Rattle.script.proofs.read.collect_inputs.Given as goal

abbrev pub invariant-loop-rest : goal.invariant-loop-rest
invariant-loop-rest l = ReadInputs l.bytes l.rest l.number l.inputs

abbrev pub decreases-loop-rest : goal.decreases-loop-rest
decreases-loop-rest l = length l.rest

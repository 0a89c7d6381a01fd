-- The lines before `rest` are read, and the measure is how much is left.
use Rattle.std.proofs.Common.{length}
use Rattle.script.proofs.LinesAreRead.{ReadScript}
use Rattle.script.proofs.read.read_lines.Given as goal

abbrev pub invariant-loop-rest : goal.invariant-loop-rest
invariant-loop-rest l = ReadScript l.bytes l.rest l.number l.lines.inputs l.lines.events l.lines.turns

abbrev pub decreases-loop-rest : goal.decreases-loop-rest
decreases-loop-rest l = length l.rest

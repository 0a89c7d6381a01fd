use Rattle.std.proofs.Common.{take}
use Rattle.std.specs.List.{All}
use Rattle.machine.specs.ValidCode.{CodeFits}
use Rattle.icode.proofs.range.are_in_range.Given as goal

abbrev pub invariant-loop-instr : goal.invariant-loop-instr
invariant-loop-instr l = All (CodeFits l.code l.function) (take l.instr-index l.instr-items)

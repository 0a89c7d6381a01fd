use Rattle.std.proofs.Common.{take}
use Rattle.std.specs.List.{All}
use Rattle.core_ir.specs.Valid.{IsInRange}
use Rattle.core_ir.proofs.range.are_in_range.Given as goal

abbrev pub invariant-loop-instr : goal.invariant-loop-instr
invariant-loop-instr l = All (IsInRange l.program l.function) (take l.instr-index l.instr-items)

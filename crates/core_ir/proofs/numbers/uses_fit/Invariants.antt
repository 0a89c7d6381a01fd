use Rattle.std.proofs.Common.{◌≡◌, ℕ, ◌<◌, Some, slice_get}
use Rattle.core_ir.proofs.numbers.uses_fit.Given as goal

abbrev pub invariant-loop-operand : goal.invariant-loop-operand
invariant-loop-operand g l =
    (k r : ℕ) → k < l.operand → slice_get (g.I.HasOutline.outline l.instr).used k ≡ Some r → r < l.registers

use Rattle.std.proofs.Common.{◌≡◌, ℕ, ◌<◌, Some, map, slice_get}
use Rattle.core_ir.specs.Order.{Served}
use Rattle.core_ir.proofs.order.are_served.Given as goal

abbrev pub invariant-loop-operand : goal.invariant-loop-operand
invariant-loop-operand g l =
    (k r : ℕ) → k < l.operand → slice_get (g.I.HasOutline.outline l.instr).used k ≡ Some r → Served (map g.I.HasOutline.outline l.code) l.place r

use Rattle.std.proofs.Common.{ℕ, ◌<◌, map}
use Rattle.core_ir.specs.Outline.{Outline}
use Rattle.core_ir.specs.Flow.{Stands}
use Rattle.core_ir.specs.Order.{IsOutsideFrames}
use Rattle.core_ir.proofs.frame.is_frameless.Given as goal

abbrev pub invariant-loop-instr : goal.invariant-loop-instr
invariant-loop-instr g l =
    (u : ℕ) (i : Outline) → u < l.instr-index → Stands (map g.I.HasOutline.outline l.code) 0 u i → IsOutsideFrames i.role

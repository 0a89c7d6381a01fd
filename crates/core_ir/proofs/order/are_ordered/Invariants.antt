use Rattle.std.proofs.Common.{ℕ, ◌<◌, map}
use Rattle.core_ir.specs.Outline.{Outline}
use Rattle.core_ir.specs.Flow.{Stands}
use Rattle.core_ir.specs.Order.{IsOrderedAt}
use Rattle.core_ir.specs.inner.Registers.{AreKnown}
use Rattle.core_ir.proofs.order.are_ordered.Given as goal

abbrev pub invariant-loop-place : goal.invariant-loop-place
invariant-loop-place g l = record {
  known : AreKnown (map g.I.HasOutline.outline l.code) l.place l.registers;
  ordered : (u : ℕ) (i : Outline) → u < l.place → Stands (map g.I.HasOutline.outline l.code) 0 u i → IsOrderedAt (map g.I.HasOutline.outline l.code) u i;
}

use Rattle.std.proofs.Common.{ℕ, ◌<◌, map}
use Rattle.core_ir.specs.Outline.{Outline}
use Rattle.core_ir.specs.Flow.{Stands}
use Rattle.core_ir.specs.Order.{FrameFits}
use Rattle.core_ir.proofs.frame.fit_frame.Given as goal

abbrev pub invariant-loop-place : goal.invariant-loop-place
invariant-loop-place g l =
    (u : ℕ) (i : Outline) → u < l.place → Stands (map g.I.HasOutline.outline l.code) 0 u i → FrameFits (map g.I.HasOutline.outline l.code) u i.role

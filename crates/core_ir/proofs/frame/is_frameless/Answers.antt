use Rattle.std.proofs.Common.{◌∙◌, refl, sym, subst}
use Rattle.core_ir.specs.Order.{IsOutsideFrames}
use Rattle.core_ir.proofs.EachPlace.{each_all, each_more, here}
use Rattle.core_ir.proofs.frame.is_frameless.Goals as goal

pub returns-then-not-is_outside_frames : goal.returns-then-not-is_outside_frames
returns-then-not-is_outside_frames g c =
    let there = here g.I.HasOutline.outline c.args.code.now c.loop-instr.instr-index c.instr-item.result c.loop-instr-test.true c.instr-item.is in (
      λ is. absurd (cc),
      λ all. sym c.if-not-is_outside_frames.true ∙ c.is_outside_frames.ensures.1 (subst IsOutsideFrames (sym c.role.ensures) (all c.loop-instr.instr-index _ there)),
    )

pub loop-instr-preserved : goal.loop-instr-preserved
loop-instr-preserved g c =
    each_more g.I.HasOutline.outline c.args.code.now c.loop-instr.instr-index c.instr-item.result c.loop-instr-test.true c.instr-item.is
    (λ u i. IsOutsideFrames i.role) (subst IsOutsideFrames c.role.ensures (c.is_outside_frames.ensures.0 c.if-not-is_outside_frames.false)) c.loop-instr.invariant

pub returns : goal.returns
returns g c =
    (λ is. each_all g.I.HasOutline.outline c.args.code.now c.loop-instr.instr-index c.loop-instr-test.false (λ u i. IsOutsideFrames i.role) c.loop-instr.invariant, λ all. refl)

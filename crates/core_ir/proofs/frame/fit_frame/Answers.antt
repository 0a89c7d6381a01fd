use Rattle.std.proofs.Common.{◌∙◌, map, refl, sym, subst}
use Rattle.core_ir.specs.Order.{FrameFits}
use Rattle.core_ir.proofs.EachPlace.{each_all, each_more, here}
use Rattle.core_ir.proofs.frame.fit_frame.Goals as goal

pub returns-then-not-fits_frame : goal.returns-then-not-fits_frame
returns-then-not-fits_frame g c =
    let code = map g.I.HasOutline.outline c.args.code.now in
    let there = here g.I.HasOutline.outline c.args.code.now c.loop-place.place c.index-code-place.result c.loop-place-test.true c.index-code-place.is in (
      λ is. absurd (cc),
      λ all. sym c.if-not-fits_frame.true ∙ c.fits_frame.ensures.1 (subst (λ r. FrameFits code c.loop-place.place r) (sym c.role.ensures) (all c.loop-place.place _ there)),
    )

pub loop-place-preserved : goal.loop-place-preserved
loop-place-preserved g c =
    let code = map g.I.HasOutline.outline c.args.code.now in
    each_more g.I.HasOutline.outline c.args.code.now c.loop-place.place c.index-code-place.result c.loop-place-test.true c.index-code-place.is
    (λ u i. FrameFits code u i.role) (subst (λ r. FrameFits code c.loop-place.place r) c.role.ensures (c.fits_frame.ensures.0 c.if-not-fits_frame.false)) c.loop-place.invariant

pub returns : goal.returns
returns g c =
    let code = map g.I.HasOutline.outline c.args.code.now in
    (λ is. each_all g.I.HasOutline.outline c.args.code.now c.loop-place.place c.loop-place-test.false (λ u i. FrameFits code u i.role) c.loop-place.invariant, λ all. refl)

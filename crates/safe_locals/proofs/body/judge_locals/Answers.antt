use Rattle.std.proofs.Common.{◌≡◌, ◌∙◌, true, Bool, length, map, replicate, sym, ap, subst, arith}
use Rattle.std.proofs.lemmas.List.{length-map}
use Rattle.safe_locals.specs.inner.Marks.{AreJudged}
use Rattle.safe_locals.proofs.Serving.{here}
use Rattle.safe_locals.proofs.Judging.{judged_all, judged_first}
use Rattle.safe_locals.proofs.body.judge_locals.Goals as goal

pub loop-place-init : goal.loop-place-init
loop-place-init g c =
    let code = map g.I.HasOutline.outline c.args.code.now in
    let all : c.fill.new.self ≡ replicate (length c.args.safe.now) true = c.fill.ensures.after (λ y e. e) in
    record {
      marks = c.new-marks.ensures code;
      judged = subst (AreJudged code c.args.units.now 0 0) (sym (all ∙ ap (λ n. replicate n true) c.requires.each)) (judged_first c.args.units.now);
    }

pub judge-requires-clause-here : goal.judge-requires-clause-here
judge-requires-clause-here g c = here g.I.HasOutline.outline c.args.code.now c.loop-place.place c.index-code-place.result c.loop-place-test.true c.index-code-place.is

pub pass-requires-clause-here : goal.pass-requires-clause-here
pass-requires-clause-here g c = here g.I.HasOutline.outline c.args.code.now c.loop-place.place c.index-code-place.result c.loop-place-test.true c.index-code-place.is

pub pass-requires-clause-defined : goal.pass-requires-clause-defined
pass-requires-clause-defined g c =
    c.requires.defined c.loop-place.place _ (here g.I.HasOutline.outline c.args.code.now c.loop-place.place c.index-code-place.result c.loop-place-test.true c.index-code-place.is)

pub returns : goal.returns
returns g c =
    judged_all c.loop-place.place c.args.units.now c.loop-place.safe (omega (arith, c.loop-place-test.false, length-map c.args.code.now g.I.HasOutline.outline)) c.loop-place.invariant.judged

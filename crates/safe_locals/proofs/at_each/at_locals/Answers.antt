use Rattle.std.proofs.Common.{◌∙◌, ◌<◌, IfSome, map, sym, subst, arith}
use Rattle.std.proofs.lemmas.List.{length-map}
use Rattle.safe_locals.specs.inner.Marks.{AreAtUntil}
use Rattle.safe_locals.proofs.AtEach.{at_all, at_first, at_pushed}
use Rattle.safe_locals.proofs.Serving.{here}
use Rattle.safe_locals.proofs.at_each.at_locals.Goals as goal

pub loop-place-init : goal.loop-place-init
loop-place-init g c =
    let code = map g.I.HasOutline.outline c.args.code.now in
    record {
      marks = c.new-marks.ensures code;
      answers = subst (AreAtUntil code c.args.locals.now 0) (sym c.new-at.ensures) (at_first code c.args.locals.now);
    }

pub is_at-requires-clause-here : goal.is_at-requires-clause-here
is_at-requires-clause-here g c = here g.I.HasOutline.outline c.args.code.now c.loop-place.place c.index-code-place.result c.loop-place-test.true c.index-code-place.is

pub pass-requires-clause-here : goal.pass-requires-clause-here
pass-requires-clause-here g c = here g.I.HasOutline.outline c.args.code.now c.loop-place.place c.index-code-place.result c.loop-place-test.true c.index-code-place.is

pub pass-requires-clause-defined : goal.pass-requires-clause-defined
pass-requires-clause-defined g c =
    c.requires.defined c.loop-place.place _ (here g.I.HasOutline.outline c.args.code.now c.loop-place.place c.index-code-place.result c.loop-place-test.true c.index-code-place.is)

pub loop-place-preserved : goal.loop-place-preserved
loop-place-preserved g c = record {
  marks = c.pass.ensures;
  answers = at_pushed (map g.I.HasOutline.outline c.args.code.now) c.args.locals.now c.loop-place.place c.loop-place.at c.push.new.self c.is_at.result c.in_ok-push.ensures.ok c.loop-place.invariant.answers c.is_at.ensures;
}

pub returns : goal.returns
returns g c =
    at_all (map g.I.HasOutline.outline c.args.code.now) c.args.locals.now c.loop-place.place c.loop-place.at
    (omega (arith, c.loop-place-test.false, c.loop-place.auto.place-end, length-map c.args.code.now g.I.HasOutline.outline)) c.loop-place.invariant.answers

use Rattle.std.proofs.Common.{◌∙◌, map, refl, sym, arith}
use Rattle.core_ir.specs.Order.{IsOrderedAt}
use Rattle.core_ir.proofs.EachPlace.{each_all, each_more, here}
use Rattle.core_ir.proofs.RegistersAreKnown.{known_none}
use Rattle.core_ir.proofs.order.are_ordered.Goals as goal

pub loop-place-init : goal.loop-place-init
loop-place-init g c = record {
  known = known_none _ _ c.new-registers.ensures.last c.new-registers.ensures.chain c.new-registers.ensures.started;
  ordered = λ u i low there. absurd (omega arith);
}

pub returns-then-not-is_ordered_at : goal.returns-then-not-is_ordered_at
returns-then-not-is_ordered_at g c =
    let there = here g.I.HasOutline.outline c.args.code.now c.loop-place.place c.index-code-place.result c.loop-place-test.true c.index-code-place.is in
    (λ is. absurd (cc), λ all. sym c.if-not-is_ordered_at.true ∙ c.is_ordered_at.ensures.1 (all c.loop-place.place _ there))

pub pass-requires-clause-here : goal.pass-requires-clause-here
pass-requires-clause-here g c = here g.I.HasOutline.outline c.args.code.now c.loop-place.place c.index-code-place.result c.loop-place-test.true c.index-code-place.is

pub pass-requires-clause-defined : goal.pass-requires-clause-defined
pass-requires-clause-defined g c =
    c.requires.defined c.loop-place.place _ (here g.I.HasOutline.outline c.args.code.now c.loop-place.place c.index-code-place.result c.loop-place-test.true c.index-code-place.is)

pub loop-place-preserved : goal.loop-place-preserved
loop-place-preserved g c = record {
  known = c.pass.ensures;
  ordered = each_more g.I.HasOutline.outline c.args.code.now c.loop-place.place c.index-code-place.result c.loop-place-test.true c.index-code-place.is
      (IsOrderedAt (map g.I.HasOutline.outline c.args.code.now)) (c.is_ordered_at.ensures.0 c.if-not-is_ordered_at.false) c.loop-place.invariant.ordered;
}

pub returns : goal.returns
returns g c = (
  λ is. each_all g.I.HasOutline.outline c.args.code.now c.loop-place.place c.loop-place-test.false (IsOrderedAt (map g.I.HasOutline.outline c.args.code.now)) c.loop-place.invariant.ordered,
  λ all. refl,
)

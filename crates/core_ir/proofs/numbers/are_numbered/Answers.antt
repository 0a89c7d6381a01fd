use Rattle.std.proofs.Common.{◌∙◌, length, map, refl, sym, subst}
use Rattle.std.proofs.lemmas.List.{length-map}
use Rattle.core_ir.specs.Order.{NumbersFit}
use Rattle.core_ir.proofs.EachPlace.{each_all, each_more, here}
use Rattle.core_ir.proofs.numbers.are_numbered.Goals as goal

pub returns-then-not-numbers_fit : goal.returns-then-not-numbers_fit
returns-then-not-numbers_fit g c =
    let outline = g.I.HasOutline.outline in
    let there = here outline c.args.code.now c.loop-instr.instr-index c.instr-item.result c.loop-instr-test.true c.instr-item.is in (
      λ is. absurd (cc),
      λ all. sym c.if-not-numbers_fit.true ∙ c.numbers_fit.ensures.1
          (subst (λ n. NumbersFit c.args.registers c.args.slots n (outline c.instr-item.result)) (length-map c.args.code.now outline) (all c.loop-instr.instr-index _ there)),
    )

pub loop-instr-preserved : goal.loop-instr-preserved
loop-instr-preserved g c =
    let outline = g.I.HasOutline.outline in
    each_more outline c.args.code.now c.loop-instr.instr-index c.instr-item.result c.loop-instr-test.true c.instr-item.is
    (λ u i. NumbersFit c.args.registers c.args.slots (length (map outline c.args.code.now)) i)
    (subst (λ n. NumbersFit c.args.registers c.args.slots n (outline c.instr-item.result)) (sym (length-map c.args.code.now outline)) (c.numbers_fit.ensures.0 c.if-not-numbers_fit.false))
    c.loop-instr.invariant

pub returns : goal.returns
returns g c =
    let outline = g.I.HasOutline.outline in (
      λ is. each_all outline c.args.code.now c.loop-instr.instr-index c.loop-instr-test.false
          (λ u i. NumbersFit c.args.registers c.args.slots (length (map outline c.args.code.now)) i) c.loop-instr.invariant,
      λ all. refl,
    )

use Rattle.std.proofs.Common.{take, refl, sym, subst}
use Rattle.std.specs.List.{All}
use Rattle.std.proofs.lemmas.List.{take_all}
use Rattle.std.proofs.lemmas.List.Elements.{All-more, All-same}
use Rattle.machine.specs.ValidCode.{CodeFits}
use Rattle.icode.proofs.range.are_in_range.Goals as goal

pub loop-instr-preserved : goal.loop-instr-preserved
loop-instr-preserved c =
    let P = CodeFits c.args.code.now c.args.function.now in
    All-more P c.as_slice-instr-items.result.now c.loop-instr.instr-index c.instr-item.result c.loop-instr-test.true c.loop-instr.invariant
    (subst P c.instr-item.is (c.fits.ensures.0 c.if-not-fits.false))

pub returns : goal.returns
returns c =
    let P = CodeFits c.args.code.now c.args.function.now in
    let items = c.as_slice-instr-items.result.now in (
      λ is. subst (All P) c.as_slice-instr-items.ensures (All-same P items (take c.loop-instr.instr-index items) (sym (take_all c.loop-instr.instr-index items c.loop-instr-test.false)) c.loop-instr.invariant),
      λ all. refl,
    )

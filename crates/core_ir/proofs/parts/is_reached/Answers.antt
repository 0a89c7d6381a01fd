use Rattle.std.proofs.Common.{refl, arith}
use Rattle.core_ir.proofs.PartsAreFound.{count_few, no_part, searched_more}
use Rattle.core_ir.proofs.parts.is_reached.Goals as goal

pub returns-in_default : goal.returns-in_default
returns-in_default c = (
  λ is. absurd (cc),
  λ part. absurd (no_part c.args.structs.now c.requires.few c.args.whole.now c.args.part.now c.loop-next.found c.loop-next.next c.loop-next.invariant (c.in_default.ensures.none refl) part),
)

pub loop-next-preserved : goal.loop-next-preserved
loop-next-preserved c =
    let some = c.in-Some.ensures.some in
    searched_more c.args.structs.now c.args.whole.now c.args.part.now c.loop-next.found c.scan_struct.new.found c.loop-next.next c.in-Some.number
    c.loop-next.invariant some.0 some.1 some.2 c.scan_struct.ensures.found c.scan_struct.ensures.grows (c.scan_struct.ensures.scanned c.if-scan_struct.false) c.scan_struct.ensures.others

pub returns : goal.returns
returns c =
    let few = count_few c.loop-next.found c.loop-next.invariant.are in (
      λ is. absurd (cc),
      λ part. absurd (no_part c.args.structs.now c.requires.few c.args.whole.now c.args.part.now c.loop-next.found c.loop-next.next c.loop-next.invariant (omega (arith, few)) part),
    )

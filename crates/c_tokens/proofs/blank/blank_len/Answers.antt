use Rattle.std.proofs.Common.{arith}
use Rattle.std.proofs.lemmas.List.{take_rest}
use Rattle.c_tokens.proofs.soundness.Blanks.{blank_more}
use Rattle.c_tokens.proofs.blank.blank_len.Goals as goal

pub loop-part-preserved : goal.loop-part-preserved
loop-part-preserved c =
    let bytes = c.args.bytes.now in
    let rest = take_rest bytes c.loop-part.len in
    record {
      inside = omega (arith, c.in-Some.ensures.inside);
      blank = blank_more bytes c.loop-part.len c.in-Some.part c.loop-part.invariant.blank (rw rest at c.in-Some.ensures.blank);
    }

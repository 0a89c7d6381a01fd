use Rattle.std.proofs.Common.{arith}
use Rattle.std.proofs.lemmas.List.{take_rest}
use Rattle.c_tokens.proofs.soundness.Tokens.{pieces_more}
use Rattle.c_tokens.proofs.quoted.pieces_of.Goals as goal

pub loop-byte-preserved : goal.loop-byte-preserved
loop-byte-preserved c =
    let bytes = c.args.bytes.now in
    let rest = take_rest bytes c.loop-byte.len in
    record {
      inside = omega (arith, c.in-Some.ensures.inside);
      pieces = rw c.in_ok-push.ensures.ok (pieces_more bytes c.loop-byte.spelling c.loop-byte.len c.in-Some.piece c.in-Some.byte c.loop-byte.invariant.pieces (rw rest at c.in-Some.ensures.piece));
    }

pub returns-clause-all : goal.returns-clause-all
returns-clause-all c = let rest = take_rest c.args.bytes.now c.loop-byte.len in rw rest at c.in_default.ensures.piece

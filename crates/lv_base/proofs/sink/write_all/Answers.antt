use Rattle.std.proofs.Common.{arith}
use Rattle.std.proofs.lemmas.Grind.{common_steps}
use Rattle.lv_base.proofs.WholeLemmas.{Appends-more, Appends-kept, AppendsPrefix-from_split, split-more}
use Rattle.lv_base.proofs.sink.write_all.Goals as goal

pub loop-rest-preserved : goal.loop-rest-preserved
loop-rest-preserved g c =
    record {
      written = (
        _,
        split-more _ _ _ _ c.in-Ok.n c.loop-rest.invariant.written.1 (grind (arith, common_steps)),
        Appends-more _ _ _ _ _ c.loop-rest.invariant.written.2 c.in-Ok.ensures.bytes,
      );
      counted = omega arith;
    }

pub returns-in-Err-Failed-clause-prefix : goal.returns-in-Err-Failed-clause-prefix
returns-in-Err-Failed-clause-prefix g c =
    AppendsPrefix-from_split _ _ _ _ _ c.loop-rest.invariant.written.1
    (Appends-kept _ _ _ _ c.loop-rest.invariant.written.2 c.in-Err-Failed.ensures.bytes)

pub returns-in-Err-Memory-clause-prefix : goal.returns-in-Err-Memory-clause-prefix
returns-in-Err-Memory-clause-prefix g c =
    AppendsPrefix-from_split _ _ _ _ _ c.loop-rest.invariant.written.1
    (Appends-kept _ _ _ _ c.loop-rest.invariant.written.2 c.in-Err-Memory.ensures.bytes)

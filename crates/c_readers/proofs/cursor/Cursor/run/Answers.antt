use Rattle.std.proofs.Common.{◌≡◌, false, true, ◌∙◌}
use Rattle.c_readers.specs.inner.Parser.{sees}
use Rattle.c_readers.proofs.Runs.{counted_mark, counted_stop, run_stop, after_seen}
use Rattle.c_readers.specs.inner.ParserLemmas.{after_other}
use Rattle.c_readers.proofs.cursor.Cursor.run.Goals as goal

pub returns-then-not-eat-clause-is : goal.returns-then-not-eat-clause-is
returns-then-not-eat-clause-is c =
    let other : sees c.args.mark c.loop-count.self ≡ false = cc in
    let whole = counted_stop c.loop-count.invariant (run_stop c.args.mark c.loop-count.self other) in
    let same : c.eat.new.self ≡ c.loop-count.self = c.eat.ensures.after ∙ after_other c.args.mark c.loop-count.self other in
    cc

pub loop-count-preserved : goal.loop-count-preserved
loop-count-preserved c =
    let seen : sees c.args.mark c.loop-count.self ≡ true = cc in
    counted_mark c.args.mark c.eat.new.self c.loop-count.invariant seen (c.eat.ensures.after ∙ after_seen c.args.mark c.loop-count.self seen)

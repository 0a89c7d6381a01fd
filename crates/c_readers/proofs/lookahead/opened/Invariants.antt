use Rattle.c_readers.specs.inner.Readers.{opened}
use Rattle.c_readers.proofs.Runs.{IsCounted}
use Rattle.c_readers.proofs.lookahead.opened.Given as goal

abbrev pub invariant-loop-count : goal.invariant-loop-count
invariant-loop-count l = IsCounted (opened l.names l.fn.tokens) l.count (opened l.names l.tokens) l.left l.tokens

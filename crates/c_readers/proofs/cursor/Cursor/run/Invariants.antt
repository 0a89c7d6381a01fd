use Rattle.c_readers.specs.inner.Parser.{run}
use Rattle.c_readers.proofs.Runs.{IsCounted}
use Rattle.c_readers.proofs.cursor.Cursor.run.Given as goal

abbrev pub invariant-loop-count : goal.invariant-loop-count
invariant-loop-count l = IsCounted (run l.mark l.fn.self) l.count (run l.mark l.self) l.left l.self

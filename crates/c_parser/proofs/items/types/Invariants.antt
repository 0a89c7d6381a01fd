use Rattle.std.proofs.Common.{◌≡◌, ◌-◌}
use Rattle.c_readers.specs.inner.Readers.{readers}
use Rattle.c_statements.specs.inner.Readers.{init, stmt, of_depth}
use Rattle.c_parser.specs.inner.Readers.{types, types_from}
use Rattle.c_parser.proofs.items.types.Given as goal

abbrev pub invariant-loop-turn : goal.invariant-loop-turn
invariant-loop-turn l =
    of_depth types l.names l.depth l.fn.tokens ≡ types_from l.names (readers l.names l.depth) (init l.names l.depth) (stmt l.names l.depth) (l._turn-end - l._turn) l.found l.tokens

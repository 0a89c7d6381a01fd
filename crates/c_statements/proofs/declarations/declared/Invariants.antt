use Rattle.std.proofs.Common.{◌≡◌, ◌≤◌, ◌-◌}
use Rattle.c_readers.specs.inner.Readers.{readers}
use Rattle.c_statements.specs.inner.Readers.{init, declared, declared_from}
use Rattle.c_statements.proofs.declarations.declared.Given as goal

abbrev pub invariant-loop-turn : goal.invariant-loop-turn
invariant-loop-turn l =
    let r = readers l.names l.depth in
    (declared l.names r (init l.names l.depth) l.fn.first l.fn.tokens ≡ declared_from l.names r (init l.names l.depth) (l._turn-end - l._turn) l.found l.height l.next l.tokens)
    × (l.height ≤ l.depth) × (l.next.1 ≤ l.depth)

use Rattle.std.proofs.Common.{◌≡◌, ◌≤◌, ◌-◌}
use Rattle.c_readers.specs.inner.Readers.{readers}
use Rattle.c_statements.specs.inner.Readers.{init, inits_from}
use Rattle.c_statements.proofs.ReadersLemmas.{braced}
use Rattle.c_statements.proofs.declarations.+init.Given as goal

abbrev pub decreases-init : goal.decreases-init
decreases-init l = l.depth

abbrev pub invariant-loop-turn : goal.invariant-loop-turn
invariant-loop-turn l =
    let below = l.depth - 1 in
    (init l.names l.depth l.fn.tokens ≡ braced (inits_from l.names (readers l.names below) (init l.names below) (l._turn-end - l._turn) l.parts l.height l.tokens)) × (l.height ≤ below)

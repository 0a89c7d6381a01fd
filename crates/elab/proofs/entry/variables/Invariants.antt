use Rattle.std.proofs.Common.{drop}
use Rattle.elab_pieces.specs.Entry.{globals_initialised}
use Rattle.elab_pieces.specs.Globals.{globals}
use Rattle.elab_statements.specs.inner.Pieces.{Reaches}
use Rattle.elab_statements.specs.Bodies.{piece_at}
use Rattle.elab.proofs.entry.variables.Given as goal

-- what is there and what is left are all initialisers
abbrev pub invariant-loop-item : goal.invariant-loop-item
invariant-loop-item l =
    Reaches l.initial.body (piece_at l.initial.body (globals_initialised l.scope 0 (globals l.items))) l.body
    (piece_at l.body (globals_initialised l.scope l.next (globals (drop l.item-index l.items))))

use Rattle.std.proofs.Common.{◌≡◌, ◌+◌, [], drop, length}
use Rattle.elab_pieces.specs.Entry.{globals_initialised}
use Rattle.elab_pieces.specs.Globals.{declared_globals}
use Rattle.elab_statements.specs.inner.Pieces.{Reaches}
use Rattle.elab_statements.specs.Bodies.{piece_at}
use Rattle.elab.proofs.entry.all_declared.Given as goal

-- what is there and what is left are all initialisers
abbrev pub invariant-loop-declarator : goal.invariant-loop-declarator
invariant-loop-declarator l = record {
  reaches : Reaches l.initial.body (piece_at l.initial.body (globals_initialised l.scope l.g (declared_globals l.declarators []))) l.body
      (piece_at l.body (globals_initialised l.scope l.next (declared_globals (drop l.declarator-index l.declarators) [])));
  number : l.next + length (declared_globals (drop l.declarator-index l.declarators) []) ≡ l.g + length (declared_globals l.declarators []);
}

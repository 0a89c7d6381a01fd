use Rattle.std.proofs.Common.{drop}
use Rattle.elab_pieces.specs.Entry.{strings_initialised}
use Rattle.elab_statements.specs.inner.Pieces.{Reaches}
use Rattle.elab_statements.specs.Bodies.{piece_at}
use Rattle.elab.proofs.entry.strings.Given as goal

-- what is there and what is left are all strings
abbrev pub invariant-loop-bytes : goal.invariant-loop-bytes
invariant-loop-bytes l =
    Reaches l.initial.body (piece_at l.initial.body (strings_initialised l.scope l.scope.first_string l.strings)) l.body
    (piece_at l.body (strings_initialised l.scope l.g (drop l.bytes-index l.strings)))

use Rattle.std.proofs.Common.{drop, map}
use Rattle.elab_pieces.specs.Lines.{all_joined}
use Rattle.elab_pieces.specs.Statements.{declarator_code}
use Rattle.elab_statements.specs.inner.Pieces.{Reaches}
use Rattle.elab_statements.specs.Bodies.{piece_at}
use Rattle.elab_statements.proofs.declarations.declaration.Given as goal

-- what is there and what is left are the whole list
abbrev pub invariant-loop-declarator : goal.invariant-loop-declarator
invariant-loop-declarator l =
    Reaches l.initial.body (piece_at l.initial.body (all_joined (map (declarator_code l.scope) l.declarator-items))) l.body
    (piece_at l.body (all_joined (map (declarator_code l.scope) (drop l.declarator-index l.declarator-items))))

use Rattle.std.proofs.Common.{[], ◌∷◌, ◌++◌, drop}
use Rattle.elab_statements.specs.inner.Pieces.{Reaches}
use Rattle.elab_statements.specs.Bodies.{piece_at}
use Rattle.elab_statements.specs.inner.Leaves.{text_lines}
use Rattle.elab_statements.proofs.texts.byte_leaves.Given as goal

-- what is there and what is left are the whole string
abbrev pub invariant-loop-byte : goal.invariant-loop-byte
invariant-loop-byte l =
    Reaches l.initial.body (piece_at l.initial.body (text_lines l.target (l.bytes ++ 0 ∷ []) l.scalars l.k))
    l.body (piece_at l.body (text_lines l.target (drop l.byte-index l.bytes ++ 0 ∷ []) l.left l.at))

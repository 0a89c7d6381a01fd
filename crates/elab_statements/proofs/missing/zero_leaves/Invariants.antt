use Rattle.std.proofs.Common.{drop}
use Rattle.elab_pieces.specs.Lines.{all_full}
use Rattle.elab_statements.specs.inner.Pieces.{Reaches}
use Rattle.elab_statements.specs.Bodies.{piece_at}
use Rattle.elab_statements.specs.inner.Leaves.{missing_codes}
use Rattle.elab_statements.proofs.missing.zero_leaves.Given as goal

-- what is there and what is left are all scalars
abbrev pub invariant-loop-ty : goal.invariant-loop-ty
invariant-loop-ty l =
    Reaches l.initial.body (piece_at l.initial.body (all_full (missing_codes l.target l.scalars l.k)))
    l.body (piece_at l.body (all_full (missing_codes l.target (drop l.ty-index l.scalars) l.at)))

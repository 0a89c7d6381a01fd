use Rattle.std.proofs.Common.{drop}
use Rattle.elab_pieces.specs.Functions.{parameter_copies}
use Rattle.elab_statements.specs.inner.Pieces.{Reaches}
use Rattle.elab_statements.specs.Bodies.{piece_at}
use Rattle.elab.proofs.functions.parameter_copies.Given as goal

-- what is there and what is left are all copies
abbrev pub invariant-loop-i : goal.invariant-loop-i
invariant-loop-i l =
    Reaches l.initial.body (piece_at l.initial.body (parameter_copies 0 l.params l.locals)) l.body
    (piece_at l.body (parameter_copies l.i (drop l.i l.params) (drop l.i l.locals)))

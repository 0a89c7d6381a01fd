use Rattle.std.proofs.Common.{sym, subst}
use Rattle.elab_pieces.specs.Statements.{first_code, step_code}
use Rattle.elab_statements.specs.inner.Expressions.{DoneOutcome, made_at}
use Rattle.elab_statements.specs.Bodies.{PieceOutcome, piece_at}
use Rattle.elab_statements.proofs.Settled.{expr_piece}
use Rattle.elab_statements.proofs.simple.first_part.Goals as goal

pub returns-in-Expr-clause-made : goal.returns-in-Expr-clause-made
returns-in-Expr-clause-made c =
    let start = c.args.body.now in
    let scope = c.args.scope.now in
    let r = c.expression.result in
    let new = c.expression.new.body in
    subst (λ i. PieceOutcome start (piece_at start (first_code scope i)) r new) (sym c.in-Expr.is)
    (expr_piece scope start new c.in-Expr.expr r
    (subst (λ o. DoneOutcome start (made_at start (step_code scope o)) r new) c.as_ref.ensures.value c.expression.ensures.made))

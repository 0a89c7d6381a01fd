use Rattle.std.proofs.Common.{sym, subst, None}
use Rattle.elab_pieces.specs.Initialisers.{ByExpr, leaf_assigned}
use Rattle.elab_statements.specs.Bodies.{PieceOutcome, piece_at}
use Rattle.elab_statements.specs.inner.Leaves.{lvalue_of}
use Rattle.elab_statements.proofs.InitRows.{whole_expr}
use Rattle.elab_statements.proofs.LeafLines.{one_full}
use Rattle.elab_statements.proofs.initialisers.initialise.Goals as goal

pub returns-in-Expr-clause-made : goal.returns-in-Expr-clause-made
returns-in-Expr-clause-made c =
    let start = c.args.body.now in
    let scope = c.args.scope.now in
    let x = c.args.target.now in
    let r = c.given.result in
    let new = c.given.new.body in
    subst (λ d. PieceOutcome start (piece_at start d) r new) (sym (whole_expr scope x c.args.init.now c.in-Expr.expr c.in-Expr.is))
    (one_full start new (leaf_assigned scope (lvalue_of x None x.ty) (ByExpr c.in-Expr.expr)) r c.given.ensures.made)

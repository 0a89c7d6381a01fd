use Rattle.std.proofs.Common.{sym, subst}
use Rattle.elab_rows.specs.Addresses.{slot_assigned}
use Rattle.elab_rows.specs.Values.{converted_code}
use Rattle.elab_pieces.specs.Lines.{all_full}
use Rattle.elab_statements.specs.Bodies.{PieceOutcome, piece_at}
use Rattle.elab_statements.proofs.InitRows.{slot_expr}
use Rattle.elab_statements.proofs.LeafLines.{one_full}
use Rattle.elab_statements.proofs.declarations.slot_local.Goals as goal

pub returns-in-Expr-clause-made : goal.returns-in-Expr-clause-made
returns-in-Expr-clause-made c =
    let start = c.args.body.now in
    let value = slot_assigned c.args.s (converted_code c.args.scope.now c.in-Expr.expr c.args.ty.now) in
    subst (λ cs. PieceOutcome start (piece_at start (all_full cs)) c.set_local.result c.set_local.new.body)
    (sym (slot_expr c.args.scope.now c.args.s c.args.ty.now c.args.init.now c.in-Expr.expr c.in-Expr.is))
    (one_full start c.set_local.new.body value c.set_local.result c.set_local.ensures.made)

use Rattle.std.proofs.Common.{sym, subst, None}
use Rattle.std.specs.Option.{option_copied}
use Rattle.elab_rows.specs.Values.{converted_code}
use Rattle.elab_pieces.specs.Statements.{leaving, return_code, returned}
use Rattle.elab_statements.specs.Bodies.{PieceOutcome, piece_at}
use Rattle.elab_statements.specs.inner.Pieces.{put_piece}
use Rattle.elab_statements.proofs.simple.return_value.Goals as goal

pub returns-in-None-clause-made : goal.returns-in-None-clause-made
returns-in-None-clause-made c =
    let start = c.args.body.now in
    subst (λ o. PieceOutcome start (piece_at start (return_code c.args.scope.now (option_copied o))) c.leave.result c.leave.new.body) (sym c.in-None.is)
    (put_piece start c.leave.new.body (leaving c.args.scope.now.has_frame None) c.leave.result c.leave.ensures.made)

pub returns-in-Some-clause-made : goal.returns-in-Some-clause-made
returns-in-Some-clause-made c =
    let start = c.args.body.now in
    let scope = c.args.scope.now in
    let r = c.return_expression.result in
    let new = c.return_expression.new.body in
    subst (λ o. PieceOutcome start (piece_at start (return_code scope (option_copied o))) r new) (sym c.in-Some.is)
    (subst (λ e. PieceOutcome start (piece_at start (returned scope.has_frame (converted_code scope e scope.result))) r new) c.get.ensures
    c.return_expression.ensures.made)

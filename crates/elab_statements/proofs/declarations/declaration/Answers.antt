use Rattle.std.proofs.lemmas.Result.{err_from_is_err_and}
use Rattle.std.proofs.Common.{map, subst, arith, Err}
use Rattle.elab_pieces.specs.Lines.{all_joined}
use Rattle.elab_pieces.specs.Statements.{declarator_code}
use Rattle.elab_statements.specs.Bodies.{PieceOutcome, piece_at}
use Rattle.elab_statements.proofs.Items.{item_stops}
use Rattle.elab_statements.proofs.declarations.declaration.Goals as goal

pub returns-in_err-declared-clause-made : goal.returns-in_err-declared-clause-made
returns-in_err-declared-clause-made c =
    let f = declarator_code c.args.scope.now in
    let xs = c.as_slice-declarator-items.result.now in
    let start = c.args.body.now in
    let now = c.loop-declarator.body in
    let next = c.declared.new.body in
    let e = c.in_err-declared.field-0.0 in
    let p = err_from_is_err_and c.from_residual.result c.from_residual.ensures.1 in
    rw (p.1, p.2)
    (subst (λ ys. PieceOutcome start (piece_at start (all_joined (map f ys))) (Err e) next) c.as_slice-declarator-items.ensures
    (item_stops f xs start (piece_at start (all_joined (map f xs))) now c.loop-declarator.declarator-index c.declarator-item.result (omega arith)
    c.loop-declarator.invariant e
    (subst (λ x. PieceOutcome now (piece_at now (f x)) (Err e) next) c.declarator-item.is c.in_err-declared.ensures.made)))

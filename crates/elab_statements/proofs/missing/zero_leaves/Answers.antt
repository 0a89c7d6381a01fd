use Rattle.std.proofs.lemmas.Result.{err_from_is_err_and}
use Rattle.std.proofs.Common.{subst, arith, Err}
use Rattle.elab_pieces.specs.Lines.{all_full}
use Rattle.elab_statements.specs.inner.Expressions.{DoneOutcome, made_at}
use Rattle.elab_statements.specs.Bodies.{piece_at}
use Rattle.elab_statements.specs.inner.Leaves.{missing_codes}
use Rattle.elab_statements.proofs.MissingLoops.{missing_stops, missing_value}
use Rattle.elab_statements.proofs.missing.zero_leaves.Goals as goal

pub returns-in_err-missing_leaf-clause-made : goal.returns-in_err-missing_leaf-clause-made
returns-in_err-missing_leaf-clause-made c =
    let x = c.args.target.now in
    let ts = c.args.scalars.now in
    let now = c.loop-ty.body in
    let e = c.in_err-missing_leaf.field-0.0 in
    let p = err_from_is_err_and c.from_residual.result c.from_residual.ensures.1 in
    rw (p.1, p.2)
    (missing_stops x ts c.args.body.now (piece_at c.args.body.now (all_full (missing_codes x ts c.args.k))) now c.loop-ty.ty-index c.loop-ty.at
    c.loop-ty.invariant c.ty-item.result (omega arith) c.missing_leaf.new.body e
    (subst (λ t. DoneOutcome now (made_at now (missing_value x c.loop-ty.at t)) (Err e) c.missing_leaf.new.body) c.ty-item.is
    c.in_err-missing_leaf.ensures.made))

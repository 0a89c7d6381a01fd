use Rattle.std.proofs.lemmas.Result.{err_from_is_err_and}
use Rattle.elab_rows.specs.Values.{converted_code}
use Rattle.elab_statements.specs.inner.Leaves.{lvalue_of}
use Rattle.elab_statements.proofs.FullRows.{assigned_row, assigned_stops}
use Rattle.elab_statements.proofs.leaves.give_scalar.Goals as goal

pub returns-in_err-a-clause-made : goal.returns-in_err-a-clause-made
unfolding converted_code
returns-in_err-a-clause-made c =
    let p = err_from_is_err_and c.from_residual.result c.from_residual.ensures.1 in
    rw (p.1, p.2)
    (assigned_stops c.args.out.now c.converted.new.out (lvalue_of c.args.target.now c.args.offset c.args.ty.now)
    (converted_code c.args.scope.now c.args.expr.now c.args.ty.now) c.in_err-a.field-0.0 c.in_err-a.ensures.made)

pub returns-clause-made : goal.returns-clause-made
unfolding converted_code
returns-clause-made c =
    assigned_row c.args.out.now c.converted.new.out (lvalue_of c.args.target.now c.args.offset c.args.ty.now)
    (converted_code c.args.scope.now c.args.expr.now c.args.ty.now) c.in_ok-a.a c.in_ok-a.ensures.made c.store_part.new.out c.store_part.result
    c.store_part.ensures.made

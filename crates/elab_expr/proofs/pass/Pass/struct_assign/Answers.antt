use Rattle.std.proofs.lemmas.Result.{err_from_is_err_and}
use Rattle.elab_rows.specs.Units.{scalars}
use Rattle.elab_rows.specs.Values.{part}
use Rattle.elab_expr.proofs.StructRows.{struct_row, struct_stop, struct_late}
use Rattle.elab_expr.proofs.pass.Pass.struct_assign.Goals as goal

pub returns-clause-made : goal.returns-clause-made
returns-clause-made g c = struct_row (scalars c.args.self.now.parts.scope.now.structs (part c.args.self.now.parts.scope.now c.args.a.now).ty) ((part c.args.self.now.parts.scope.now c.args.a.now).lvalue) ((part c.args.self.now.parts.scope.now c.args.b.now).lvalue) c.args.out.now _ _ _ _ _ _ c.in_ok-p.ensures.made c.in_ok-q.ensures.made c.copy_lvalue.ensures.made

pub returns-in_err-p-clause-made : goal.returns-in_err-p-clause-made
returns-in_err-p-clause-made g c =
    let p = err_from_is_err_and c.from_residual.result c.from_residual.ensures.1 in
    rw (p.1, p.2) (struct_stop (scalars c.args.self.now.parts.scope.now.structs (part c.args.self.now.parts.scope.now c.args.a.now).ty) ((part c.args.self.now.parts.scope.now c.args.a.now).lvalue) ((part c.args.self.now.parts.scope.now c.args.b.now).lvalue) c.args.out.now _ c.in_err-p.ensures.made)

pub returns-in_err-q-clause-made : goal.returns-in_err-q-clause-made
returns-in_err-q-clause-made g c =
    let p = err_from_is_err_and c.from_residual-in_err-q.result c.from_residual-in_err-q.ensures.1 in
    rw (p.1, p.2) (struct_late (scalars c.args.self.now.parts.scope.now.structs (part c.args.self.now.parts.scope.now c.args.a.now).ty) ((part c.args.self.now.parts.scope.now c.args.a.now).lvalue) ((part c.args.self.now.parts.scope.now c.args.b.now).lvalue) c.args.out.now _ _ _ c.in_ok-p.ensures.made c.in_err-q.ensures.made)

use Rattle.std.proofs.lemmas.Result.{err_from_is_err_and}
use Rattle.c_types.specs.declared.ty.Ty.TheVariants.{Int}
use Rattle.elab_rows.specs.Units.{units as unit_count}
use Rattle.elab_rows.specs.Values.{part, converted_part}
use Rattle.elab_expr.proofs.LvalueRows.{element_row, element_stop, element_late}
use Rattle.elab_expr.proofs.pass.Pass.element_address.Goals as goal

pub returns-clause-made : goal.returns-clause-made
returns-clause-made g c = element_row (unit_count c.args.self.now.parts.scope.now.structs c.args.ty.now) ((part c.args.self.now.parts.scope.now c.args.a.now).value) (converted_part (part c.args.self.now.parts.scope.now c.args.i.now) Int) c.args.out.now _ _ _ _ _ _ _ c.in_ok-s.ensures c.in_ok-p.ensures.made c.in_ok-i.ensures.made c.add_units.ensures.made

pub returns-in_err-p-clause-made : goal.returns-in_err-p-clause-made
returns-in_err-p-clause-made g c =
    let p = err_from_is_err_and c.from_residual-in_err-p.result c.from_residual-in_err-p.ensures.1 in
    rw (p.1, p.2) (element_stop (unit_count c.args.self.now.parts.scope.now.structs c.args.ty.now) ((part c.args.self.now.parts.scope.now c.args.a.now).value) (converted_part (part c.args.self.now.parts.scope.now c.args.i.now) Int) c.args.out.now _ c.in_err-p.ensures.made)

pub returns-in_err-i-clause-made : goal.returns-in_err-i-clause-made
returns-in_err-i-clause-made g c =
    let p = err_from_is_err_and c.from_residual-in_err-i.result c.from_residual-in_err-i.ensures.1 in
    rw (p.1, p.2) (element_late (unit_count c.args.self.now.parts.scope.now.structs c.args.ty.now) ((part c.args.self.now.parts.scope.now c.args.a.now).value) (converted_part (part c.args.self.now.parts.scope.now c.args.i.now) Int) c.args.out.now _ _ _ c.in_ok-p.ensures.made c.in_err-i.ensures.made)

use Rattle.elab_rows.specs.Made.{held}
use Rattle.elab_rows.specs.Values.{part}
use Rattle.elab_expr.proofs.NamedRows.{assigned_other, assigned_slot}
use Rattle.elab_expr.proofs.pass.Pass.scalar_assign.Goals as goal

pub returns-in-Slot-clause-made : goal.returns-in-Slot-clause-made
returns-in-Slot-clause-made g c =
    let a = part c.args.self.now.parts.scope.now c.args.a.now in
    assigned_slot a.name _ a.lvalue c.args.out.now _ c.name.ensures c.in-Slot.s (held c.args.x) _ c.in-Slot.is c.set_slot.ensures.made

pub returns-in_default-clause-made : goal.returns-in_default-clause-made
returns-in_default-clause-made g c =
    let a = part c.args.self.now.parts.scope.now c.args.a.now in
    assigned_other a.name _ a.lvalue c.args.out.now _ c.name.ensures (held c.args.x) _ c.in_default.not-Slot c.memory_assign.ensures.made

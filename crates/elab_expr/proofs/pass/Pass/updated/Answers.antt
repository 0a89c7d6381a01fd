use Rattle.elab_rows.specs.Values.{new_value, operand, part}
use Rattle.elab_expr.proofs.NamedRows.{updated_other, updated_slot}
use Rattle.elab_expr.proofs.pass.Pass.updated.Goals as goal

pub returns-in-Slot-clause-made : goal.returns-in-Slot-clause-made
returns-in-Slot-clause-made g c =
    let scope = c.args.self.now.parts.scope.now in
    let a = part scope c.args.a.now in
    let next = new_value scope c.args.operator a (operand (part scope c.args.y.now)) in
    updated_slot a.name _ a.lvalue c.args.out.now _ c.name.ensures c.in-Slot.s next _ c.in-Slot.is c.slot_updated.ensures.made

pub returns-in_default-clause-made : goal.returns-in_default-clause-made
returns-in_default-clause-made g c =
    let scope = c.args.self.now.parts.scope.now in
    let a = part scope c.args.a.now in
    let next = new_value scope c.args.operator a (operand (part scope c.args.y.now)) in
    updated_other a.name _ a.lvalue c.args.out.now _ c.name.ensures next _ c.in_default.not-Slot c.memory_updated.ensures.made

use Rattle.elab_rows.specs.Made.{held}
use Rattle.elab_rows.specs.Values.{operand, part}
use Rattle.elab_parts.proofs.ValueRows.{operated_row}
use Rattle.elab_parts.proofs.nested.Parts.operated.Goals as goal

pub returns-clause-made : goal.returns-clause-made
returns-clause-made g c =
    let scope = c.args.self.now.scope.now in
    operated_row scope.structs c.args.operator (part scope c.args.x.now) (operand (part scope c.args.y.now)) (held c.args.a) _ c.args.out.now _ _
    c.in_ok-operation.ensures c.operated_by.ensures.made

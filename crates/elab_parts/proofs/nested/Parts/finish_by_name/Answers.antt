use Rattle.elab_rows.specs.Values.{part}
use Rattle.elab_emit.specs.Emits.{code_of}
use Rattle.elab_emit.specs.Held.{listed}
use Rattle.elab_parts.proofs.CallRows.{end_other}
use Rattle.elab_parts.proofs.nested.Parts.finish_by_name.Goals as goal

pub returns-in_default-clause-made : goal.returns-in_default-clause-made
returns-in_default-clause-made g c =
    let f = part c.args.self.now.scope.now c.args.callee.now in
    end_other f.name _ c.args.ty.now (listed c.args.out.now c.args.registers) (code_of c.args.out.now f.value) c.args.out.now _ _ c.name.ensures
    c.in_default.not-Function c.in_default.not-BuiltIn c.indirect_call.ensures.made

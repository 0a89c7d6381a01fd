use Rattle.std.proofs.lemmas.Result.{err_from_is_err_and}
use Rattle.elab_rows.specs.Calls.{placed}
use Rattle.elab_emit.specs.Emits.{code_of}
use Rattle.elab_rows.specs.Values.{part, returns}
use Rattle.elab_parts.proofs.CallRows.{indirect_row, indirect_stop}
use Rattle.elab_parts.proofs.nested.Parts.indirect_call.Goals as goal

pub returns-clause-made : goal.returns-clause-made
returns-clause-made g c = indirect_row c.args.ty.now (returns c.args.ty.now) c.args.registers (placed (code_of c.args.out.now ((part c.args.self.now.scope.now c.args.callee.now).value))) c.args.out.now _ _ _ _ c.in_ok-c.ensures.made c.finish_indirect.ensures.made

pub returns-in_err-c-clause-made : goal.returns-in_err-c-clause-made
returns-in_err-c-clause-made g c =
    let p = err_from_is_err_and c.from_residual.result c.from_residual.ensures.1 in
    rw (p.1, p.2) (indirect_stop c.args.ty.now (returns c.args.ty.now) c.args.registers (placed (code_of c.args.out.now ((part c.args.self.now.scope.now c.args.callee.now).value))) c.args.out.now _ c.in_err-c.ensures.made)

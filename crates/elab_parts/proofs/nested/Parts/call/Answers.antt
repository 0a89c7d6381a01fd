use Rattle.std.proofs.Common.{map}
use Rattle.std.proofs.lemmas.Result.{err_from_is_err_and}
use Rattle.elab_rows.specs.Values.{part}
use Rattle.elab_parts.proofs.CallRows.{call_part_row, call_part_stop}
use Rattle.elab_parts.proofs.nested.Parts.call.Goals as goal

pub returns-clause-made : goal.returns-clause-made
returns-clause-made g c =
    let scope = c.args.self.now.scope.now in
    call_part_row (part scope c.args.callee.now) (map (part scope) c.args.arguments.now) _ c.as_slice.result.now c.args.out.now _ _ _ _ c.in_ok-ty.ensures c.as_slice.ensures
    c.in_ok-registers.ensures.made c.finish_by_name.ensures.made

pub returns-in_err-registers-clause-made : goal.returns-in_err-registers-clause-made
returns-in_err-registers-clause-made g c =
    let scope = c.args.self.now.scope.now in
    let p = err_from_is_err_and c.from_residual-in_err-registers.result c.from_residual-in_err-registers.ensures.1 in
    rw (p.1, p.2)
    (call_part_stop (part scope c.args.callee.now) (map (part scope) c.args.arguments.now) _ c.as_slice.result.now c.args.out.now _ c.in_ok-ty.ensures c.as_slice.ensures
    c.in_err-registers.ensures.made)

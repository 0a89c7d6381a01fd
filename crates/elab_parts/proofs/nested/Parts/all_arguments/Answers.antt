use Rattle.std.proofs.Common.{arith, map, rules}
use Rattle.std.proofs.lemmas.Grind.{common_steps}
use Rattle.std.proofs.lemmas.Result.{err_from_is_err_and}
use Rattle.elab_rows.specs.Values.{converted_parts, part}
use Rattle.elab_parts.specs.inner.Lists.{list_of}
use Rattle.elab_parts.proofs.ArgumentLists.{arguments_done, arguments_next, arguments_short, arguments_stop}
use Rattle.elab_parts.proofs.nested.Parts.all_arguments.Goals as goal

pub loop-argument-preserved : goal.loop-argument-preserved
loop-argument-preserved g c =
    let scope = c.args.self.now.scope.now in
    let args = c.args.arguments.now in
    let all = list_of c.args.out.now (converted_parts (map (part scope) args) c.args.params.now) in
    arguments_next scope c.args.out.now c.loop-argument.out all c.loop-argument.registers args c.loop-argument.argument-index c.argument-item.result c.in-Some.param.now
    c.loop-argument.left.now c.in-Some.behind.now c.converted.new.out c.in_ok-converted.field-0 c.push.new.self c.loop-argument-test.true c.argument-item.is
    (first_of (search rules, grind (arith, common_steps))) c.loop-argument.invariant c.in_ok-converted.ensures.made c.in_ok-converted.ensures.sound c.in_ok-push.ensures.ok

pub returns-in_default-clause-made : goal.returns-in_default-clause-made
returns-in_default-clause-made g c =
    let scope = c.args.self.now.scope.now in
    let args = c.args.arguments.now in
    let all = list_of c.args.out.now (converted_parts (map (part scope) args) c.args.params.now) in
    arguments_short scope c.args.out.now c.loop-argument.out all c.loop-argument.registers _ c.loop-argument.left.now c.in_default.ensures.cases c.loop-argument.invariant

pub returns-in_err-converted-clause-made : goal.returns-in_err-converted-clause-made
returns-in_err-converted-clause-made g c =
    let scope = c.args.self.now.scope.now in
    let args = c.args.arguments.now in
    let all = list_of c.args.out.now (converted_parts (map (part scope) args) c.args.params.now) in
    let p = err_from_is_err_and c.from_residual.result c.from_residual.ensures.1 in
    rw (p.1, p.2)
    (arguments_stop scope c.args.out.now c.loop-argument.out all c.loop-argument.registers args c.loop-argument.argument-index c.argument-item.result c.in-Some.param.now
    c.loop-argument.left.now c.in-Some.behind.now _ c.loop-argument-test.true c.argument-item.is
    (first_of (search rules, grind (arith, common_steps))) c.loop-argument.invariant c.in_err-converted.ensures.made)

pub returns-clause-made : goal.returns-clause-made
returns-clause-made g c =
    let scope = c.args.self.now.scope.now in
    let args = c.args.arguments.now in
    let all = list_of c.args.out.now (converted_parts (map (part scope) args) c.args.params.now) in
    arguments_done scope c.args.out.now c.loop-argument.out all c.loop-argument.registers args c.loop-argument.argument-index c.loop-argument.left.now
    c.loop-argument-test.false c.loop-argument.invariant

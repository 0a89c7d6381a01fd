use Rattle.std.proofs.Common.{◌∙◌, ◌+◌, false, ap, arith}
use Rattle.std.proofs.lemmas.List.{take_all}
use Rattle.machine.specs.declared.code.CodeLocal.{CodeLocal}
use Rattle.machine.specs.Stands.{safe_units}
use Rattle.icode.proofs.SafeUnits.{take_le, take_next_read}
use Rattle.icode.proofs.locals.units_of_safe.Goals as goal

nothing : CodeLocal
nothing = record { offset = 0; units = 0; safe = false }

pub overflow_add-units : goal.overflow_add-units
unfolding nothing
overflow_add-units c =
    let next = take_next_read c.args.locals.now c.loop-local.local-index nothing c.safe_part-units.result c.loop-local-test.true c.safe_part-units.ensures in
    let most = take_le (c.loop-local.local-index + 1) c.args.locals.now in
    omega (arith, next, most, c.loop-local.invariant, c.requires)

pub loop-local-preserved : goal.loop-local-preserved
unfolding nothing
loop-local-preserved c =
    let next = take_next_read c.args.locals.now c.loop-local.local-index nothing c.safe_part-units.result c.loop-local-test.true c.safe_part-units.ensures in
    omega (arith, next, c.loop-local.invariant)

pub returns : goal.returns
returns c = c.loop-local.invariant ∙ ap safe_units (take_all c.loop-local.local-index c.args.locals.now c.loop-local-test.false)

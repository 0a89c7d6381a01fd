use Rattle.std.proofs.Common.{◌∙◌, ◌+◌, ◌<◌, inl, inr, false, ap, sym, take, length, slice_index, set, arith}
use Rattle.std.proofs.lemmas.List.{get_or-set_other, get_or-set_same}
use Rattle.std.proofs.lemmas.Bool.{cases_eq}
use Rattle.machine.specs.declared.code.CodeLocal.{CodeLocal}
use Rattle.machine.specs.Stands.{safe_units}
use Rattle.icode.proofs.SafeUnits.{take_le, take_next_read}
use Rattle.icode.proofs.locals.write_units_before.Goals as goal

nothing : CodeLocal
nothing = record { offset = 0; units = 0; safe = false }

pub overflow_add-units : goal.overflow_add-units
unfolding nothing
overflow_add-units c =
    let next = take_next_read c.args.locals.now c.loop-number.number nothing c.safe_part-units.result c.loop-number-test.true c.safe_part-units.ensures in
    let most = take_le (c.loop-number.number + 1) c.args.locals.now in
    omega (arith, next, most, c.loop-number.invariant.so_far, c.requires.few)

pub loop-number-preserved : goal.loop-number-preserved
unfolding nothing
loop-number-preserved c =
    let next = take_next_read c.args.locals.now c.loop-number.number nothing c.safe_part-units.result c.loop-number-test.true c.safe_part-units.ensures in
    record {
      so_far = omega (arith, next, c.loop-number.invariant.so_far);
      before = λ v low. elim (cases_eq v c.loop-number.number) [
        | inl e ↦
            let here : c.loop-number.number < length c.loop-number.before = omega (arith, c.requires.room) in
            ap (λ n. slice_index (set c.loop-number.before c.loop-number.number c.loop-number.units) n) e ∙ get_or-set_same c.loop-number.before c.loop-number.number c.loop-number.units 0 here
            ∙ c.loop-number.invariant.so_far ∙ ap (λ n. safe_units (take n c.args.locals.now)) (sym e)
        | inr ne ↦ get_or-set_other c.loop-number.before c.loop-number.number v c.loop-number.units 0 ne ∙ c.loop-number.invariant.before v (omega arith)
      ];
    }

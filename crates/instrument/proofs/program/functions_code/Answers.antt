use Rattle.std.proofs.Common.{◌≡◌, ◌∙◌, ◌+◌, Some, length, slice_get, refl, sym, ap, subst}
use Rattle.std.proofs.lemmas.Option.{slice_get_read}
use Rattle.instrument.specs.inner.Places.{AreStanding}
use Rattle.instrument.proofs.Made.{none_standing, one_more_standing}
use Rattle.instrument.proofs.program.functions_code.Goals as goal

pub loop-number-init : goal.loop-number-init
loop-number-init c = subst (AreStanding c.args.program.now c.args.classes.now 0) (sym c.new-functions.ensures) (none_standing c.args.program.now c.args.classes.now)

pub loop-number-preserved : goal.loop-number-preserved
loop-number-preserved c =
    let program = c.args.program.now in
    let n = c.loop-number.number in
    let items = c.as_slice-function-items.result.now in
    let f = c.function-item.result in
    let at : slice_get program.functions n ≡ Some f = ap (λ xs. slice_get xs n) (sym c.as_slice-function-items.ensures) ∙ slice_get_read items (length items) n f refl c.loop-number-test.true c.function-item.is in
    subst (AreStanding program c.args.classes.now (n + 1)) (sym c.in_ok-push.ensures.ok)
    (one_more_standing program c.args.classes.now n c.loop-number.functions f c.in_ok-function_code.field-0 c.loop-number.invariant at c.in_ok-function_code.ensures)

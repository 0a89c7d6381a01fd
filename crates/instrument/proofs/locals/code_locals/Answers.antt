use Rattle.std.proofs.Common.{◌≡◌, ◌∙◌, ◌↔◌, ◌+◌, IsTrue, Some, length, slice_get, refl, sym, ap, subst, arith}
use Rattle.std.proofs.lemmas.Option.{slice_get_read, slice_get_within}
use Rattle.core_ir.specs.SafeLocal.{IsSafeLocal}
use Rattle.machine.specs.Stands.{LocalStands}
use Rattle.instrument.specs.inner.Places.{StandUpto}
use Rattle.instrument.proofs.Made.{no_locals, one_more_local}
use Rattle.instrument.proofs.locals.code_locals.Goals as goal

pub loop-number-init : goal.loop-number-init
loop-number-init c = subst (StandUpto c.args.function.now 0) (sym c.new-locals.ensures) (no_locals c.args.function.now)

pub loop-number-preserved : goal.loop-number-preserved
loop-number-preserved c =
    let f = c.args.function.now in
    let n = c.loop-number.number in
    let items = c.as_slice-local-items.result.now in
    let at : slice_get f.locals n ≡ Some c.local-item.result =
    ap (λ xs. slice_get xs n) (sym c.as_slice-local-items.ensures) ∙ slice_get_read items (length items) n c.local-item.result refl c.loop-number-test.true c.local-item.is in
    let stands : LocalStands f n c.local-item.result c.code_local.result = record {
      offset = c.code_local.ensures.offset;
      units = c.code_local.ensures.units;
      safe = subst (λ b. IsTrue b ↔ IsSafeLocal f n) (sym c.code_local.ensures.safe) (c.requires.exact n (slice_get_within f.locals n c.local-item.result at));
    } in
    subst (StandUpto f (n + 1)) (sym c.in_ok-push.ensures.ok) (one_more_local f n c.loop-number.locals c.local-item.result c.code_local.result c.loop-number.invariant at stands)

pub returns : goal.returns
returns c =
    let same = ap length c.as_slice-local-items.ensures in
    record {
      count = omega (arith, c.loop-number.invariant.count, same, c.loop-number-test.false, c.loop-number.auto.number-end);
      each = c.loop-number.invariant.each;
    }

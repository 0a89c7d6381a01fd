use Rattle.std.proofs.Common.{◌≡◌, ◌∙◌, inl, inr, suc, ◌-◌, ◌≤◌, Some, length, slice_get, refl, sym, ap, arith}
use Rattle.std.proofs.lemmas.Bool.{cases_eq}
use Rattle.std.proofs.lemmas.Option.{same_Some, slice_get_read, slice_get_within}
use Rattle.core_ir.specs.Valid.{access_type, touch_type}
use Rattle.core_ir.proofs.touch.touches_fit.Goals as goal

pub returns-then-not-touch_fits : goal.returns-then-not-touch_fits
returns-then-not-touch_fits c =
    let body = c.args.body.now in
    let place = c.loop-place.place in
    let low : 1 ≤ place = c.loop-place.auto.place in
    let next : suc (place - 1) ≡ place = omega arith in
    let touch : slice_get body (place - 1) ≡ Some c.index-body-place.result = slice_get_read body (length body) (place - 1) _ refl (omega arith) c.index-body-place.is in
    let access : slice_get body (suc (place - 1)) ≡ Some c.index-body-place-in-loop-place.result =
    ap (λ k. slice_get body k) next ∙ slice_get_read body (length body) place _ refl c.loop-place-test.true c.index-body-place-in-loop-place.is in (
      λ is. absurd (cc),
      λ all. sym c.if-not-touch_fits.true ∙ c.touch_fits.ensures.1 (λ whole part. all (place - 1) _ _ whole part touch access),
    )

pub loop-place-preserved : goal.loop-place-preserved
loop-place-preserved c =
    let body = c.args.body.now in
    let place = c.loop-place.place in
    let low : 1 ≤ place = c.loop-place.auto.place in
    let touch : slice_get body (place - 1) ≡ Some c.index-body-place.result = slice_get_read body (length body) (place - 1) _ refl (omega arith) c.index-body-place.is in
    let access : slice_get body place ≡ Some c.index-body-place-in-loop-place.result = slice_get_read body (length body) place _ refl c.loop-place-test.true c.index-body-place-in-loop-place.is in
    λ k t a whole part before at behind is_touch is_access. elim (cases_eq (suc k) place) [
      | inl e ↦
          let here : k ≡ place - 1 = omega arith in
          let same_touch = same_Some t _ (sym at ∙ ap (λ n. slice_get body n) here ∙ touch) in
          let same_access = same_Some a _ (sym behind ∙ ap (λ n. slice_get body n) e ∙ access) in
          c.touch_fits.ensures.0 c.if-not-touch_fits.false whole part (ap touch_type (sym same_touch) ∙ is_touch) (ap access_type (sym same_access) ∙ is_access)
      | inr ne ↦ c.loop-place.invariant k t a whole part (omega arith) at behind is_touch is_access
    ]

pub returns : goal.returns
returns c = (
  λ is k t a whole part at behind. let low = slice_get_within c.args.body.now (suc k) a behind in c.loop-place.invariant k t a whole part (omega (arith, low)) at behind,
  λ all. refl,
)

use Rattle.std.proofs.Common.{◌≡◌, ◌∙◌, inl, inr, suc, ◌-◌, ◌≤◌, Some, length, slice_get, refl, sym, ap, subst, arith}
use Rattle.std.proofs.lemmas.Bool.{cases_eq}
use Rattle.std.proofs.lemmas.Option.{same_Some, slice_get_read, slice_get_within}
use Rattle.machine.specs.ValidCode.{IsSensitiveTouch, access_kind}
use Rattle.icode.proofs.touches.touches_are_sensitive.Goals as goal

pub returns-then-not-touch_fits : goal.returns-then-not-touch_fits
returns-then-not-touch_fits c =
    let body = c.args.body.now in
    let place = c.loop-place.place in
    let low : 1 ≤ place = c.loop-place.auto.place in
    let next : suc (place - 1) ≡ place = omega arith in
    let touch : slice_get body (place - 1) ≡ Some c.index-body-place.result = slice_get_read body (length body) (place - 1) _ refl (omega arith) c.index-body-place.is in
    let access : slice_get body (suc (place - 1)) ≡ Some c.index-body-place-in-loop-place.result =
    ap (λ k. slice_get body k) next ∙ slice_get_read body (length body) place _ refl c.loop-place-test.true c.index-body-place-in-loop-place.is in (
      λ is. absurd (cc),
      λ all. sym c.if-not-touch_fits.true ∙ c.touch_fits.ensures.1 (λ kind. all (place - 1) _ _ kind touch access),
    )

pub loop-place-preserved : goal.loop-place-preserved
loop-place-preserved c =
    let body = c.args.body.now in
    let place = c.loop-place.place in
    let low : 1 ≤ place = c.loop-place.auto.place in
    let touch : slice_get body (place - 1) ≡ Some c.index-body-place.result = slice_get_read body (length body) (place - 1) _ refl (omega arith) c.index-body-place.is in
    let access : slice_get body place ≡ Some c.index-body-place-in-loop-place.result = slice_get_read body (length body) place _ refl c.loop-place-test.true c.index-body-place-in-loop-place.is in
    λ k t a kind before at behind of_kind kept. elim (cases_eq (suc k) place) [
      | inl e ↦
          let here : k ≡ place - 1 = omega arith in
          let same_touch = same_Some t _ (sym at ∙ ap (λ n. slice_get body n) here ∙ touch) in
          let same_access = same_Some a _ (sym behind ∙ ap (λ n. slice_get body n) e ∙ access) in
          subst IsSensitiveTouch (sym same_touch) (c.touch_fits.ensures.0 c.if-not-touch_fits.false kind (ap access_kind (sym same_access) ∙ of_kind) kept)
      | inr ne ↦ c.loop-place.invariant k t a kind (omega arith) at behind of_kind kept
    ]

pub returns : goal.returns
returns c = (
  λ is k t a kind at behind. let low = slice_get_within c.args.body.now (suc k) a behind in c.loop-place.invariant k t a kind (omega (arith, low)) at behind,
  λ all. refl,
)

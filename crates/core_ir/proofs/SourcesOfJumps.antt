-- The tables of the least and the greatest sources of jumps, one instruction on.
use Rattle.std.proofs.Common.{◌≡◌, ◌∙◌, inl, inr, ℕ, ◌+◌, ◌<◌, ◌≤◌, List, length, min, max, slice_index, sym, ap, subst, arith}
use Rattle.std.proofs.lemmas.Bool.{cases_eq, cases_lt}
use Rattle.core_ir.specs.Outline.{Outline}
use Rattle.core_ir.specs.Flow.{Jumps as Jump}
use Rattle.core_ir.specs.inner.Jumps.{AreGreatest, AreLeast, IsSet}
use Rattle.core_ir.proofs.Places.{one_target}

module _ (code : List Outline) (q : ℕ) where
  pub least_same : (least : List ℕ) → AreLeast code q least → ((l : ℕ) → Jump code 0 q l → ⊥) → AreLeast code (q + 1) least
  least_same least are none = record {
    below = λ p l j before. elim (cases_eq p q) [
      | inl e ↦ absurd (none l (subst (λ x. Jump code 0 x l) e j))
      | inr ne ↦ are.below p l j (omega arith)
    ];
    from = are.from;
  }

  pub greatest_same : (greatest : List ℕ) → AreGreatest code q greatest → ((l : ℕ) → Jump code 0 q l → ⊥) → AreGreatest code (q + 1) greatest
  greatest_same greatest are none = record {
    above = λ p l j before. elim (cases_eq p q) [
      | inl e ↦ absurd (none l (subst (λ x. Jump code 0 x l) e j))
      | inr ne ↦ are.above p l j (omega arith)
    ];
    from = are.from;
  }

  module _ (t : ℕ) (jump : Jump code 0 q t) (table new : List ℕ) where
    pub least_more : IsSet table t (min (slice_index table t) q) new → AreLeast code q table → AreLeast code (q + 1) new
    least_more is are = record {
      below = λ p l j before. elim (cases_eq l t) [
        | inl e ↦ let there : slice_index new l ≡ min (slice_index table t) q = ap (λ x. slice_index new x) e ∙ is.there in
            elim (cases_eq p q) [
              | inl same ↦ omega arith
              | inr ne ↦ let low : slice_index table t ≤ p = are.below p t (subst (λ x. Jump code 0 p x) e j) (omega arith) in omega arith
            ]
        | inr ne ↦ elim (cases_eq p q) [
          | inl same ↦ absurd (ne (one_target (subst (λ x. Jump code 0 x l) same j) jump))
          | inr other ↦ let low : slice_index table l ≤ p = are.below p l j (omega arith) in let e = is.elsewhere l ne in omega arith
        ]
      ];
      from = λ l inside few. elim (cases_eq l t) [
        | inl e ↦ let there : slice_index new l ≡ min (slice_index table t) q = ap (λ x. slice_index new x) e ∙ is.there in
            let back : slice_index table l ≡ slice_index table t = ap (λ x. slice_index table x) e in
            elim (cases_lt (slice_index table t) q) [
              | inl lower ↦ let same : slice_index table l ≡ slice_index new l = omega arith in
                  subst (λ x. Jump code 0 x l) same (are.from l inside (omega arith))
              | inr higher ↦ let same : q ≡ slice_index new l = omega arith in
                  subst (λ x. Jump code 0 x l) same (subst (λ x. Jump code 0 q x) (sym e) jump)
            ]
        | inr ne ↦ let e = is.elsewhere l ne in subst (λ x. Jump code 0 x l) (sym e) (are.from l inside (omega arith))
      ];
    }

    pub greatest_more : IsSet table t (max (slice_index table t) q) new → AreGreatest code q table → AreGreatest code (q + 1) new
    greatest_more is are = record {
      above = λ p l j before. elim (cases_eq l t) [
        | inl e ↦ let there : slice_index new l ≡ max (slice_index table t) q = ap (λ x. slice_index new x) e ∙ is.there in
            elim (cases_eq p q) [
              | inl same ↦ omega arith
              | inr ne ↦ let high : p ≤ slice_index table t = are.above p t (subst (λ x. Jump code 0 p x) e j) (omega arith) in omega arith
            ]
        | inr ne ↦ elim (cases_eq p q) [
          | inl same ↦ absurd (ne (one_target (subst (λ x. Jump code 0 x l) same j) jump))
          | inr other ↦ let high : p ≤ slice_index table l = are.above p l j (omega arith) in let e = is.elsewhere l ne in omega arith
        ]
      ];
      from = λ l inside some. elim (cases_eq l t) [
        | inl e ↦ let there : slice_index new l ≡ max (slice_index table t) q = ap (λ x. slice_index new x) e ∙ is.there in
            let back : slice_index table l ≡ slice_index table t = ap (λ x. slice_index table x) e in
            elim (cases_lt q (slice_index table t)) [
              | inl higher ↦ let same : slice_index table l ≡ slice_index new l = omega arith in
                  subst (λ x. Jump code 0 x l) same (are.from l inside (omega arith))
              | inr lower ↦ let same : q ≡ slice_index new l = omega arith in
                  subst (λ x. Jump code 0 x l) same (subst (λ x. Jump code 0 q x) (sym e) jump)
            ]
        | inr ne ↦ let e = is.elsewhere l ne in subst (λ x. Jump code 0 x l) (sym e) (are.from l inside (omega arith))
      ];
    }

-- before the first instruction
pub least_none : (code : List Outline) (least : List ℕ) → length code ≤ 65536 → ((l : ℕ) → l < length code → slice_index least l ≡ 4294967295) → AreLeast code 0 least
least_none code least few none = record {
  below = λ p l j before. absurd (omega arith);
  from = λ l inside low. absurd (omega (arith, none l inside));
}

pub greatest_none : (code : List Outline) (greatest : List ℕ) → ((l : ℕ) → l < length code → slice_index greatest l ≡ 0) → AreGreatest code 0 greatest
greatest_none code greatest none = record {
  above = λ p l j before. absurd (omega arith);
  from = λ l inside some. absurd (omega (arith, none l inside));
}

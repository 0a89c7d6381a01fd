-- What the tables by place say of jumps.
use Rattle.std.proofs.Common.{◌↔◌, inl, inr, ℕ, ◌<◌, ◌≤◌, List, length, slice_index, arith}
use Rattle.std.proofs.lemmas.Bool.{cases_lt}
use Rattle.core_ir.specs.Outline.{Outline}
use Rattle.core_ir.specs.Flow.{IsUnreached, Unbroken}
use Rattle.core_ir.specs.inner.Jumps.{AreGreatest, AreLeast, Begins, Reaches}
use Rattle.core_ir.proofs.Places.{jump_within}

-- no jump leads to a place that has no least source
pub unreached : (code : List Outline) (least : List ℕ) → AreLeast code (length code) least → (l : ℕ) → l < length code → (length code ≤ slice_index least l) ↔ IsUnreached code 0 l
unreached code least are l inside = (
  (λ none q j. let low : slice_index least l ≤ q = are.below q l j (jump_within j) in let in_code : q < length code = jump_within j in absurd (omega arith)),
  (λ none. elim (cases_lt (slice_index least l) (length code)) [
    | inl low ↦ absurd (none (slice_index least l) (are.from l inside low))
    | inr high ↦ high
  ]),
)

module _ (code : List Outline) (least greatest : List ℕ) (lows : AreLeast code (length code) least) (highs : AreGreatest code (length code) greatest) where
  module _ (s u e b : ℕ) (before : s < u) (inside : u < length code) (reach : Reaches least (length code) s e) (since : Begins greatest u b) where
    pub unbroken_from : u ≤ e → b ≤ s → Unbroken code 0 s u
    unbroken_from far near q l j behind upto =
        let free : s < slice_index least l = reach.free l behind (omega arith) in
        let low : slice_index least l ≤ q = lows.below q l j (jump_within j) in
        let held : slice_index greatest l < u = since.free l (omega arith) upto in
        let high : q ≤ slice_index greatest l = highs.above q l j (jump_within j) in
        (omega arith, omega arith)

    pub since_near : Unbroken code 0 s u → b ≤ s
    since_near unbroken = elim (cases_lt s b) [
      | inl above ↦
          let high : u ≤ slice_index greatest b = since.reached (omega arith) in
          let upto : b ≤ u = since.before in
          let between = unbroken (slice_index greatest b) b (highs.from b (omega arith) (omega arith)) above upto in
          absurd (omega (arith, between.1))
      | inr near ↦ near
    ]

-- Lists of equal length, place by place.
use Rattle.std.proofs.Common.{◌≡◌, ◌∙◌, inl, inr, ℕ, ◌<◌, All, List, length, map, get_or, Some, slice_get, refl, sym, ap, subst, arith}
use Rattle.std.specs.Option.{option_map}
use Rattle.std.proofs.lemmas.Option.{same_Some, slice_get-get_or, slice_get-map, slice_get_cases, slice_get_read, slice_get_within}
use Rattle.core_ir.specs.Outline.{Outline}
use Rattle.core_ir.specs.Flow.{Stands}

-- what stands in one list has its like in the other
pub there_too : {A B : Type 0} (xs : List A) (ys : List B) → length ys ≡ length xs → (k : ℕ) (y : B) → slice_get ys k ≡ Some y → (x : A) × (slice_get xs k ≡ Some x)
there_too xs ys same k y is = elim (slice_get_cases xs k).1 [
  | inl found ↦ (found.0, found.2)
  | inr past ↦ let low = slice_get_within ys k y is in absurd (omega (arith, low, past.0, same))
]

pub there_within : {A : Type 0} (xs : List A) (k : ℕ) → k < length xs → (x : A) × (slice_get xs k ≡ Some x)
there_within xs k low = elim (slice_get_cases xs k).1 [
  | inl found ↦ (found.0, found.2)
  | inr past ↦ absurd (omega (arith, low, past.0))
]

pub all_from : {A : Type 0} (P : A → Type 0) (xs : List A) → ((k : ℕ) (x : A) → slice_get xs k ≡ Some x → P x) → All P xs
all_from P xs each = λ k d low. each k (get_or xs k d) (slice_get-get_or xs k d low)

pub all_at : {A : Type 0} (P : A → Type 0) (xs : List A) → All P xs → (k : ℕ) (x : A) → slice_get xs k ≡ Some x → P x
all_at P xs all k x is =
    let low = slice_get_within xs k x is in
    subst P (same_Some (get_or xs k x) x (sym (slice_get-get_or xs k x low) ∙ is)) (all k x low)

-- what an access of the code gives
pub place_here : {A : Type 0} (outline : A → Outline) (code : List A) (k : ℕ) (x : A) → k < length code → x ≡ get_or code k x → Stands (map outline code) 0 k (outline x)
place_here outline code k x inside is = record {
  from = omega arith;
  there = ap (λ n. slice_get (map outline code) n) (omega arith) ∙ slice_get-map outline code k ∙ ap (λ o. option_map outline o) (slice_get_read code (length code) k x refl inside is);
}

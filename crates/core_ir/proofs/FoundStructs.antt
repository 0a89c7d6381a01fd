-- Structs that are found one after another, and the layers of types.
use Rattle.std.proofs.Common.{◌≡◌, ◌∙◌, ◌⊎◌, inl, inr, ℕ, ◌+◌, ◌<◌, Bool, true, false, cond, List, length, replicate, count_by, get_or, slice_index, slice_index_or, slice_set, refl, sym, ap, subst, arith}
use Rattle.std.proofs.lemmas.Bool.{both_ways, cases_eq}
use Rattle.std.proofs.lemmas.List.{get_or-replicate, get_or-set_other, get_or-set_same, length-replicate, length-set}
use Rattle.std.proofs.lemmas.List.Sums.{count_by-le-length, sum_by-set}
use Rattle.std.proofs.lemmas.List.Folds.{sum_by-replicate}
use Rattle.c_types.specs.declared.ty.Ty.{Ty, out-Ty}
use Rattle.c_types.specs.declared.ty.Ty.TheOpen.{Ty-F}
use Rattle.c_types.specs.declared.ty.Ty.TheVariants as ty
use Rattle.c_types.specs.declared.ty.FnTy.{FnTy}
use Rattle.core_ir.specs.declared.found.Found.{Found}
use Rattle.core_ir.specs.inner.Search.{AreFound, HasLayer, Includes, inside, outermost}

-- ---- structs that were found

counted_more : (xs : List Bool) (s : ℕ) → s < length xs → slice_index_or xs s false ≡ false → count_by (λ b. b) (slice_set xs s true) ≡ count_by (λ b. b) xs + 1
counted_more xs s low is =
    let e = sum_by-set (λ (b : Bool). cond b 1 0) xs s true false low in
    let test : Bool → ℕ = λ b. cond b 1 0 in
    let z : test (get_or xs s false) ≡ test false = ap test is in
    omega (arith, e, z)

pub room_left : (xs : List Bool) (s : ℕ) → s < length xs → slice_index_or xs s false ≡ false → count_by (λ b. b) xs < length xs
room_left xs s low is =
    let most = count_by-le-length (λ (b : Bool). b) (slice_set xs s true) in
    omega (arith, most, counted_more xs s low is, length-set xs s true)

module _ (old : Found) (are : AreFound old) (s : ℕ) (low : s < 1024) (is : slice_index_or old.is_found s false ≡ false) where
  new_found : Found
  new_found = record { is_found = slice_set old.is_found s true; numbers = slice_set old.numbers old.count s; count = old.count + 1 }

  pub fits : old.count < 1024
  fits = omega (arith, room_left old.is_found s (omega (arith, are.marks)) is, are.counted, are.marks)

  now_included : Includes new_found s
  unfolding new_found
  now_included = record { low = low; is = get_or-set_same old.is_found s true false (omega (arith, are.marks)) }

  still_included : (t : ℕ) → Includes old t → Includes new_found t
  unfolding new_found
  still_included t i = elim (cases_eq t s) [
    | inl e ↦ absurd (both_ways _ is (subst (λ x. slice_index_or old.is_found x false ≡ true) e i.is))
    | inr ne ↦ record { low = i.low; is = get_or-set_other old.is_found s t true false ne ∙ i.is }
  ]

  was_included : (t : ℕ) → (t ≡ s → ⊥) → Includes new_found t → Includes old t
  unfolding new_found
  was_included t ne i = record { low = i.low; is = sym (get_or-set_other old.is_found s t true false ne) ∙ i.is }

  last_number : slice_index (slice_set old.numbers old.count s) old.count ≡ s
  last_number = get_or-set_same old.numbers old.count s 0 (omega (arith, fits, are.room))

  other_number : (k : ℕ) → k < old.count → slice_index (slice_set old.numbers old.count s) k ≡ slice_index old.numbers k
  other_number k before = get_or-set_other old.numbers old.count k s 0 (omega arith)

  pub found_more : AreFound (record { is_found = slice_set old.is_found s true; numbers = slice_set old.numbers old.count s; count = old.count + 1 })
  unfolding new_found
  found_more = record {
    marks = length-set old.is_found s true ∙ are.marks;
    room = length-set old.numbers old.count s ∙ are.room;
    counted = ap (λ n. n + 1) are.counted ∙ sym (counted_more old.is_found s (omega (arith, are.marks)) is);
    listed = λ k before. elim (cases_eq k old.count) [
      | inl e ↦ subst (λ x. Includes new_found x) (sym (ap (λ x. slice_index (slice_set old.numbers old.count s) x) e ∙ last_number)) now_included
      | inr ne ↦ subst (λ x. Includes new_found x) (sym (other_number k (omega arith))) (still_included _ (are.listed k (omega arith)))
    ];
    at = λ t i. elim (cases_eq t s) [
      | inl e ↦ (old.count, omega arith, last_number ∙ sym e)
      | inr ne ↦ let k = are.at t (was_included t ne i) in (k.0, omega (arith, k.1), other_number k.0 k.1 ∙ k.2)
    ];
  }

pub none_included : (found : Found) → found.is_found ≡ replicate 1024 false → (s : ℕ) → Includes found s → ⊥
none_included found none s i =
    both_ways _ (ap (λ xs. get_or xs s false) none ∙ get_or-replicate 1024 s false false i.low) i.is

pub found_none : (found : Found) → found.is_found ≡ replicate 1024 false → found.numbers ≡ replicate 1024 0 → found.count ≡ 0 → AreFound found
found_none found marks numbers zero = record {
  marks = ap (λ xs. length xs) marks ∙ length-replicate 1024 false;
  room = ap (λ xs. length xs) numbers ∙ length-replicate {A = ℕ} 1024 0;
  counted = zero ∙ sym (ap (λ xs. count_by (λ b. b) xs) marks ∙ sum_by-replicate (λ (b : Bool). cond b 1 0) 1024 false);
  listed = λ k before. absurd (omega (arith, zero));
  at = λ s i. absurd (none_included found marks s i);
}

-- ---- layers

pub layer_cases : {t x : Ty} → HasLayer t x → (t ≡ x) ⊎ ((u : Ty) × (n : ℕ) × (t ≡ ty.Array u n) × HasLayer u x)
layer_cases (outermost t) = inl refl
layer_cases (inside t x n h) = inr (t, n, refl, h)

pub same_array : (t u : Ty) (m n : ℕ) → ty.Array t m ≡ ty.Array u n → t ≡ u
same_array t u m n e =
    let out : ◌≡◌ {A = Ty-F Ty FnTy} (Ty-F.Array t m) (Ty-F.Array u n) = sym (ty.outs-Array t m) ∙ ap out-Ty e ∙ ty.outs-Array u n in
    cc

pub layer_of_array : (t u x : Ty) (n : ℕ) → t ≡ ty.Array u n → (t ≡ x → ⊥) → HasLayer t x → HasLayer u x
layer_of_array t u x n is other h = elim (layer_cases h) [
  | inl e ↦ absurd (other e)
  | inr (v, m, e, inner) ↦ subst (λ w. HasLayer w x) (same_array v u m n (sym e ∙ is)) inner
]

pub layer_in_array : (t u x : Ty) (n : ℕ) → t ≡ ty.Array u n → HasLayer u x → HasLayer t x
layer_in_array t u x n is h = subst (λ w. HasLayer w x) (sym is) (inside u x n h)

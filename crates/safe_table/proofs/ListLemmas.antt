-- Lists: beginnings, one element more, places, and numbers with a quotient and a rest.
use Rattle.std.proofs.Common.{◌≡◌, ◌≢◌, ℕ, zero, suc, ◌+◌, ◌*◌, ◌/◌, ◌<◌, ◌≤◌, ◌⊎◌, Bool, true, false, cond, List, [], ◌∷◌, ◌++◌, length, set, sym, refl, ap, ◌∙◌, subst, inl, inr, ⊎_elim, arith, append_assoc, append-nil, mul_comm, mul-suc, mul-le-mul_left}
use Rattle.std.proofs.lemmas.Nat.{div-mul-add}
use Rattle.std.specs.Prelude.{Some, slice_get}
use mathlib.Core.Option.{some, some-injective, some-ne-none}
use mathlib.Core.List.{IsPrefix}
use lib.ListN.{get_elem?}
use Rattle.atomic_table.proofs.Lists.{at_set}

module _ {A : Type 0} where
  pub prefix_refl : (xs : List A) → IsPrefix xs xs
  prefix_refl xs = ([], append-nil xs)

  pub prefix_trans : (xs ys zs : List A) → IsPrefix xs ys → IsPrefix ys zs → IsPrefix xs zs
  prefix_trans xs ys zs p q = (p.0 ++ q.0, sym (append_assoc xs p.0 q.0) ∙ (ap (λ (l : List A). l ++ q.0) p.1 ∙ q.1))

  pub prefix_snoc : (xs ys : List A) (a : A) → IsPrefix xs ys → IsPrefix xs (ys ++ a ∷ [])
  prefix_snoc xs ys a p = (p.0 ++ a ∷ [], sym (append_assoc xs p.0 (a ∷ [])) ∙ ap (λ (l : List A). l ++ a ∷ []) p.1)

  -- where a list with one more element is cut: at that element, or before it
  pub cut_snoc : (h : List A) (c : A) (b : List A) (d : A) (r : List A) → h ++ c ∷ [] ≡ b ++ d ∷ r
      → ((h ≡ b) × (c ≡ d)) ⊎ ((q : List A) × (h ≡ b ++ d ∷ q))
  cut_snoc [] c [] d r e = inl (refl, cc)
  cut_snoc (x ∷ xs) c [] d r e = inr (xs, cc)
  cut_snoc [] c (y ∷ []) d r e = absurd (cc)
  cut_snoc [] c (y ∷ z ∷ ys) d r e = absurd (cc)
  cut_snoc (x ∷ xs) c (y ∷ ys) d r e = let head : x ≡ y = cc in let tail : xs ++ c ∷ [] ≡ ys ++ d ∷ r = cc in
      ⊎_elim (λ (t : (xs ≡ ys) × (c ≡ d)). inl (cc, t.1)) (λ (t : (q : List A) × (xs ≡ ys ++ d ∷ q)). inr (t.0, (let is = t.1 in cc))) (cut_snoc xs c ys d r tail)

  pub at_prefix : (b : List A) (c : A) (r h : List A) → b ++ c ∷ r ≡ h → get_elem? h (length b) ≡ some c
  at_prefix b c r h e = subst (λ (l : List A). get_elem? l (length b) ≡ some c) e (here b)
    where
      here : (b : List A) → get_elem? (b ++ c ∷ r) (length b) ≡ some c
      here [] = refl
      here (x ∷ xs) = here xs

  pub at_end : (l : List A) (a b : A) (j : ℕ) → get_elem? (l ++ a ∷ []) j ≡ some b → (get_elem? l j ≡ some b) ⊎ ((j ≡ length l) × (a ≡ b))
  at_end [] a b zero e = inr (refl, some-injective a b e)
  at_end [] a b (suc j) e = absurd (some-ne-none b (sym e))
  at_end (x ∷ xs) a b zero e = inl e
  at_end (x ∷ xs) a b (suc j) e = ⊎_elim (λ t. inl t) (λ (t : (j ≡ length xs) × (a ≡ b)). inr (ap suc t.0, t.1)) (at_end xs a b j e)

  pub at_append : (l m : List A) (b : A) (j : ℕ) → get_elem? (l ++ m) j ≡ some b → (get_elem? l j ≡ some b) ⊎ ((k : ℕ) × (get_elem? m k ≡ some b))
  at_append [] m b j e = inr (j, e)
  at_append (x ∷ xs) m b zero e = inl e
  at_append (x ∷ xs) m b (suc j) e = at_append xs m b j e

  pub only_one : (x y : A) (k : ℕ) → get_elem? (x ∷ []) k ≡ some y → (k ≡ 0) × (x ≡ y)
  only_one x y zero e = (refl, cc)
  only_one x y (suc k) e = absurd (cc)

  -- two lists of one element that are the same
  pub same_one : (x y : A) (l : List A) → l ≡ x ∷ [] → l ≡ y ∷ [] → x ≡ y
  same_one x y l p q = let both : x ∷ [] ≡ y ∷ [] = sym p ∙ q in cc

  -- a fact on each element, where one is set anew
  pub set_stays : (K : ℕ → A → Type 0) (vs : List A) (me : ℕ) (w : A) → K me w → ((j : ℕ) (v : A) → j ≢ me → get_elem? vs j ≡ some v → K j v)
      → (j : ℕ) (v : A) → get_elem? (set vs me w) j ≡ some v → K j v
  set_stays K vs me w mine others j v e = ⊎_elim (λ (t : (j ≡ me) × (w ≡ v)). subst (λ (z : ℕ × A). K z.0 z.1) (λ i. (sym t.0 i, t.1 i)) mine)
      (λ (t : (j ≢ me) × (get_elem? vs j ≡ some v)). others j v t.0 t.1) (at_set vs me j w v e)

  pub got_at : (l : List A) (k : ℕ) (a : A) → slice_get l k ≡ Some a → get_elem? l k ≡ some a
  got_at [] k a e = absurd (cc)
  got_at (x ∷ xs) zero a e = cc
  got_at (x ∷ xs) (suc k) a e = got_at xs k a e

-- two numbers with a quotient and a rest: these are the same
pub one_place : (q m j n p : ℕ) → j < q → p < q → q * m + j ≡ q * n + p → (m ≡ n) × (j ≡ p)
one_place q m j n p a b e =
    let l : m * q + j ≡ q * m + j = ap (λ (z : ℕ). z + j) (mul_comm m q) in
    let r : n * q + p ≡ q * n + p = ap (λ (z : ℕ). z + p) (mul_comm n q) in
    let same : m ≡ n = sym (div-mul-add m q j a) ∙ (ap (λ (z : ℕ). z / q) (l ∙ (e ∙ sym r)) ∙ div-mul-add n q p b) in
    let more : q * m ≡ q * n = ap (λ (z : ℕ). q * z) same in
    (same, omega arith)

pub place_within : (q s m j : ℕ) → m < s → j < q → q * m + j < q * s
place_within q s m j a b = let more : q * suc m ≤ q * s = mul-le-mul_left q a in let is = mul-suc q m in omega arith

-- a test that is both
pub not_both : (b : Bool) → b ≡ true → b ≡ false → ⊥
not_both true p q = cc
not_both false p q = cc

pub cond_same : (b : Bool) (n : ℕ) → cond b n n ≡ n
cond_same true n = refl
cond_same false n = refl

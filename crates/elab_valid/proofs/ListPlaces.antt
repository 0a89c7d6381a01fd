-- Where things stand in lists.
use Rattle.std.proofs.Common.{◌≡◌, ◌⊎◌, inl, inr, ℕ, zero, suc, ◌+◌, ◌<◌, Contains, List, [], ◌∷◌, ◌++◌, length, map, Some, refl, ap, slice_get, arith}
use Rattle.std.proofs.lemmas.Option.{same_Some}

pub at-front : {A : Type 0} (xs ys : List A) (n : ℕ) (a : A) → slice_get xs n ≡ Some a → slice_get (xs ++ ys) n ≡ Some a
at-front [] ys n a e = absurd (cc)
at-front (x ∷ xs) ys zero a e = e
at-front (x ∷ xs) ys (suc n) a e = at-front xs ys n a e

pub at-back : {A : Type 0} (xs ys : List A) (n m : ℕ) → m ≡ length xs + n → slice_get (xs ++ ys) m ≡ slice_get ys n
at-back [] ys n m e = ap (slice_get ys) (let z : m ≡ n = omega (arith, e) in z)
at-back (x ∷ xs) ys n zero e = absurd (omega (arith, e))
at-back (x ∷ xs) ys n (suc m) e = at-back xs ys n m (omega (arith, e))

pub held-at : {A : Type 0} (xs : List A) (n : ℕ) → n < length xs → (a : A) × (slice_get xs n ≡ Some a)
held-at [] n lt = absurd (omega arith)
held-at (x ∷ xs) zero lt = (x, refl)
held-at (x ∷ xs) (suc n) lt = held-at xs n (omega arith)

pub contains-at : {A : Type 0} (xs : List A) (n : ℕ) (a : A) → slice_get xs n ≡ Some a → Contains xs a
contains-at [] n a e = absurd (cc)
contains-at (x ∷ xs) zero a e = (0, omega arith, same_Some x a e)
contains-at (x ∷ xs) (suc n) a e = let h = contains-at xs n a e in (suc h.0, (let lt : h.0 < length xs = h.1 in omega arith), h.2)

pub first-or-rest : {A : Type 0} (x : A) (xs : List A) (a : A) → Contains (x ∷ xs) a → (x ≡ a) ⊎ Contains xs a
first-or-rest x xs a (zero, lt, at) = inl at
first-or-rest x xs a (suc n, lt, at) = inr (n, (let z : suc n < suc (length xs) = lt in omega arith), at)

pub nothing-in : {A : Type 0} (a : A) → Contains [] a → ⊥
nothing-in a h = let lt : h.0 < 0 = h.1 in omega arith

pub at-length : {A : Type 0} (xs : List A) (n : ℕ) (a : A) → slice_get xs n ≡ Some a → n < length xs
at-length [] n a e = absurd (cc)
at-length (x ∷ xs) zero a e = omega arith
at-length (x ∷ xs) (suc n) a e = let lt : n < length xs = at-length xs n a e in omega arith

pub mapped-at : {A B : Type 0} (g : A → B) (xs : List A) (n : ℕ) (a : A) → slice_get xs n ≡ Some a → slice_get (map g xs) n ≡ Some (g a)
mapped-at g [] n a e = absurd (cc)
mapped-at g (x ∷ xs) zero a e = ap (λ z. Some (g z)) (same_Some x a e)
mapped-at g (x ∷ xs) (suc n) a e = mapped-at g xs n a e

pub mapped-back : {A B : Type 0} (g : A → B) (xs : List A) (n : ℕ) (b : B) → slice_get (map g xs) n ≡ Some b → (a : A) × (slice_get xs n ≡ Some a) × (g a ≡ b)
mapped-back g [] n b e = absurd (cc)
mapped-back g (x ∷ xs) zero b e = (x, refl, same_Some (g x) b e)
mapped-back g (x ∷ xs) (suc n) b e = mapped-back g xs n b e

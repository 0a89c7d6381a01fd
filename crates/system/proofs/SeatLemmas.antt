-- Lists in which one element is replaced, or one more stands at the end.
use Rattle.std.proofs.Common.{◌≡◌, ℕ, zero, suc, ◌≤◌, List, [], ◌∷◌, ◌++◌, length, map, replicate, refl, ap, ◌∙◌, arith, Some, None, slice_get, slice_set, inl, inr, ◌⊎◌, ⊎_elim}
use Rattle.machine.specs.declared.code.Code.{Code}
use Rattle.machine.specs.Frames.{Running, Waiting}
use Rattle.machine.specs.Protected.{protected}
use Rattle.machine.specs.Threads.{opened}
use Rattle.system.specs.inner.Seats.{first_threads}

module _ {X : Type 0} where
  -- what stands where one element was replaced
  pub got_of_set : (xs : List X) (i j : ℕ) (y x : X) → slice_get (slice_set xs i y) j ≡ Some x
      → ((j ≡ i) × (x ≡ y)) ⊎ (slice_get xs j ≡ Some x)
  got_of_set [] i j y x is = inr is
  got_of_set (z ∷ zs) zero zero y x is = inl (refl, cc)
  got_of_set (z ∷ zs) zero (suc j) y x is = inr is
  got_of_set (z ∷ zs) (suc i) zero y x is = inr is
  got_of_set (z ∷ zs) (suc i) (suc j) y x is =
      ⊎_elim (λ (here : (j ≡ i) × (x ≡ y)). inl (ap suc here.0, here.1)) (λ there. inr there) (got_of_set zs i j y x is)

  -- what stands in a list with one more
  pub got_of_push : (xs : List X) (j : ℕ) (y x : X) → slice_get (xs ++ y ∷ []) j ≡ Some x
      → ((j ≡ length xs) × (x ≡ y)) ⊎ (slice_get xs j ≡ Some x)
  got_of_push [] zero y x is = inl (refl, cc)
  got_of_push [] (suc j) y x is = inr is
  got_of_push (z ∷ zs) zero y x is = inr is
  got_of_push (z ∷ zs) (suc j) y x is =
      ⊎_elim (λ (here : (j ≡ length zs) × (x ≡ y)). inl (ap suc here.0, here.1)) (λ there. inr there) (got_of_push zs j y x is)

  pub set_same : (xs : List X) (i : ℕ) (x : X) → slice_get xs i ≡ Some x → slice_set xs i x ≡ xs
  set_same [] i x is = refl
  set_same (z ∷ zs) zero x is = cc
  set_same (z ∷ zs) (suc i) x is = ap (λ rest. z ∷ rest) (set_same zs i x is)

  pub got_set : (xs : List X) (i : ℕ) (x y : X) → slice_get xs i ≡ Some x → slice_get (slice_set xs i y) i ≡ Some y
  got_set [] i x y is = cc
  got_set (z ∷ zs) zero x y is = refl
  got_set (z ∷ zs) (suc i) x y is = got_set zs i x y is

  replicate_push : (x : X) (n : ℕ) → replicate n x ++ x ∷ [] ≡ x ∷ replicate n x
  replicate_push x zero = refl
  replicate_push x (suc n) = ap (λ rest. x ∷ rest) (replicate_push x n)

module _ {X Y : Type 0} (f : X → Y) where
  pub map_set : (xs : List X) (i : ℕ) (x : X) → map f (slice_set xs i x) ≡ slice_set (map f xs) i (f x)
  map_set [] i x = refl
  map_set (z ∷ zs) zero x = refl
  map_set (z ∷ zs) (suc i) x = ap (λ rest. f z ∷ rest) (map_set zs i x)

  pub get_map : (xs : List X) (i : ℕ) (x : X) → slice_get xs i ≡ Some x → slice_get (map f xs) i ≡ Some (f x)
  get_map [] i x is = cc
  get_map (z ∷ zs) zero x is = cc
  get_map (z ∷ zs) (suc i) x is = get_map zs i x is

  pub get_map_none : (xs : List X) (i : ℕ) → length xs ≤ i → slice_get (map f xs) i ≡ None
  get_map_none [] i past = refl
  get_map_none (z ∷ zs) zero past = absurd (omega arith)
  get_map_none (z ∷ zs) (suc i) past = get_map_none zs i (omega arith)

-- thread 0 stands in the entry function, and the others wait
pub first_of : (code : Code) (n : ℕ)
    → first_threads code (suc n) ≡ Running (opened protected code code.entry []) [] ∷ replicate n Waiting
first_of code zero = refl
first_of code (suc n) =
    ap (λ ts. ts ++ Waiting ∷ []) (first_of code n)
    ∙ ap (λ ts. Running (opened protected code code.entry []) [] ∷ ts) (replicate_push Waiting n)

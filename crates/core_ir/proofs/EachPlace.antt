-- What holds at each place of a body, place by place.
use Rattle.std.proofs.Common.{◌≡◌, inl, inr, ℕ, ◌+◌, ◌<◌, ◌≤◌, List, length, map, get_or, sym, subst, arith}
use Rattle.std.proofs.lemmas.Bool.{cases_eq}
use Rattle.std.proofs.lemmas.List.{length-map}
use Rattle.core_ir.specs.Outline.{Outline}
use Rattle.core_ir.specs.Flow.{Stands}
use Rattle.core_ir.proofs.Places.{one, read, stands, stands_within}

module _ {A : Type 0} (outline : A → Outline) (code : List A) (k : ℕ) (x : A) (inside : k < length code) (is : x ≡ get_or code k x) where
  -- what an access of the code gives stands there
  pub here : Stands (map outline code) 0 k (outline x)
  here = stands (map outline code) k (outline x) (read outline code k x inside is)

  pub each_more : (P : ℕ → Outline → Type 0) → P k (outline x)
      → ((u : ℕ) (i : Outline) → u < k → Stands (map outline code) 0 u i → P u i)
      → (u : ℕ) (i : Outline) → u < k + 1 → Stands (map outline code) 0 u i → P u i
  each_more P now before u i low there = elim (cases_eq u k) [
    | inl e ↦
        let same = one (subst (λ n. Stands (map outline code) 0 n i) e there) here in
        subst (λ n. P n i) (sym e) (subst (λ o. P k o) (sym same) now)
    | inr ne ↦ before u i (omega arith) there
  ]

pub each_all : {A : Type 0} (outline : A → Outline) (code : List A) (k : ℕ) → length code ≤ k → (P : ℕ → Outline → Type 0)
    → ((u : ℕ) (i : Outline) → u < k → Stands (map outline code) 0 u i → P u i)
    → (u : ℕ) (i : Outline) → Stands (map outline code) 0 u i → P u i
each_all outline code k all P before u i there =
    let low : u < length (map outline code) = stands_within there in
    before u i (omega (arith, length-map code outline)) there

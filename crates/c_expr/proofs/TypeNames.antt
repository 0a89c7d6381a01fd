-- Whether the type names contain a name, as the test says it and as the grammar does.
use Rattle.std.proofs.Common.{◌≡◌, ℕ, Bool, true, false, ◌||◌, ◌⊎◌, inl, inr, List, [], ◌∷◌, refl, sym, subst, ◌∙◌, arith}
use Rattle.std.specs.Str.{bytes_eq}
use Rattle.std.specs.List.{Contains}
use Rattle.std.proofs.lemmas.List.Elements.{Contains-push, Contains-append_left, Contains-append_right, Contains-append_cases, Contains-push_cases}
use Rattle.std.proofs.lemmas.Slice.Eq.{bytes_eq-Decides}
use Rattle.std.proofs.lemmas.Bool.{false≢true}
use Rattle.c_tree.specs.Grammar.{IsFree}
use Rattle.c_readers.specs.inner.Readers.{is_type_name}

none_contains : (x : List ℕ) → Contains [] x → ⊥
none_contains x h = let below = h.1 in omega arith

-- the first name is it, or one behind
first_or : (name : List ℕ) (names : List (List ℕ)) (x : List ℕ) → Contains (name ∷ names) x → (name ≡ x) ⊎ Contains names x
first_or name names x h = elim (Contains-append_cases (name ∷ []) names x h) [
  | inl first ↦ elim (Contains-push_cases [] name x first) [ inl none ↦ absurd (none_contains x none) | inr is ↦ inl is ]
  | inr more ↦ inr more
]

first_contains : (name : List ℕ) (names : List (List ℕ)) (x : List ℕ) → name ≡ x → Contains (name ∷ names) x
first_contains name names x is = subst (λ y. Contains (name ∷ names) y) is (Contains-append_left (name ∷ []) names name (Contains-push [] name))

type_name_by : (name : List ℕ) (names : List (List ℕ)) (x : List ℕ) (b : Bool) → bytes_eq name x ≡ b → (is_type_name names x ≡ true → Contains names x) → (b || is_type_name names x) ≡ true → Contains (name ∷ names) x
type_name_by name names x true same behind is = first_contains name names x ((bytes_eq-Decides name x).0 same)
type_name_by name names x false same behind is = Contains-append_right (name ∷ []) names x (behind is)

-- what the test says yes to is a type name
pub type_name_contains : (names : List (List ℕ)) (x : List ℕ) → is_type_name names x ≡ true → Contains names x
type_name_contains [] x is = cc
type_name_contains (name ∷ names) x is = type_name_by name names x (bytes_eq name x) refl (type_name_contains names x) is

-- the test says yes to a type name
pub contains_type_name : (names : List (List ℕ)) (x : List ℕ) → Contains names x → is_type_name names x ≡ true
contains_type_name [] x h = absurd (none_contains x h)
contains_type_name (name ∷ names) x h = elim (first_or name names x h) [
  | inl is ↦ rw ((bytes_eq-Decides name x).1 is)
  | inr more ↦ rw (contains_type_name names x more) (or_true (bytes_eq name x))
]
  where
    or_true : (b : Bool) → (b || true) ≡ true
    or_true true = refl
    or_true false = refl

-- what the test says no to is free
pub no_type_name_is_free : (names : List (List ℕ)) (x : List ℕ) → is_type_name names x ≡ false → IsFree names x
no_type_name_is_free names x not has = false≢true (sym not ∙ contains_type_name names x has)

-- the test says no to a free name
pub free_is_no_type_name : (names : List (List ℕ)) (x : List ℕ) → IsFree names x → is_type_name names x ≡ false
free_is_no_type_name names x free = by (is_type_name names x) refl
  where
    by : (b : Bool) → is_type_name names x ≡ b → is_type_name names x ≡ false
    by true is = absurd (free (type_name_contains names x is))
    by false is = is

-- What stands at a place, and what serves a use one place on.
use Rattle.std.proofs.Common.{◌≡◌, ◌∙◌, inl, inr, ℕ, ◌+◌, ◌-◌, ◌<◌, List, length, map, Some, slice_get, get_or, refl, sym, ap, subst, arith}
use Rattle.std.proofs.lemmas.Bool.{cases_eq, cases_lt}
use Rattle.std.proofs.lemmas.Option.{same_Some, slice_get-map, slice_get_read, slice_get_within}
use Rattle.std.specs.Option.{option_map}
use Rattle.core_ir.specs.declared.role.Role.{Role}
use Rattle.core_ir.specs.Outline.{Outline}
use Rattle.core_ir.specs.Flow.{HasRole, Serves, Stands}

from_start : (k : ℕ) → k - 0 ≡ k
from_start k = omega arith

pub stands : (code : List Outline) (k : ℕ) (i : Outline) → slice_get code k ≡ Some i → Stands code 0 k i
stands code k i is = record { from = omega arith; there = ap (λ n. slice_get code n) (from_start k) ∙ is }

-- what an access of the code gives
pub here : {A : Type 0} (outline : A → Outline) (code : List A) (k : ℕ) (x : A) → k < length code → x ≡ get_or code k x → Stands (map outline code) 0 k (outline x)
here outline code k x inside is = stands (map outline code) k (outline x)
    (slice_get-map outline code k ∙ ap (λ o. option_map outline o) (slice_get_read code (length code) k x refl inside is))

module _ {code : List Outline} where
  pub got : {k : ℕ} {i : Outline} → Stands code 0 k i → slice_get code k ≡ Some i
  got {k} {i} s = ap (λ n. slice_get code n) (sym (from_start k)) ∙ s.there

  pub one : {k : ℕ} {i j : Outline} → Stands code 0 k i → Stands code 0 k j → i ≡ j
  one {k} {i} {j} s t = same_Some i j (sym (got s) ∙ got t)

  pub stands_within : {k : ℕ} {i : Outline} → Stands code 0 k i → k < length code
  stands_within {k} {i} s = slice_get_within code k i (got s)

  pub one_role : {k : ℕ} {a b : Role} → HasRole code 0 k a → HasRole code 0 k b → a ≡ b
  one_role x y = sym x.is ∙ ap (λ i. i.role) (one x.there y.there) ∙ y.is

  pub role_here : {k : ℕ} {i : Outline} → Stands code 0 k i → HasRole code 0 k i.role
  role_here {k} {i} there = record { instruction = i; there = there; is = refl }

  pub role_is : {k : ℕ} {i : Outline} {a : Role} → Stands code 0 k i → HasRole code 0 k a → i.role ≡ a
  role_is there has = one_role (role_here there) has

  pub one_server : {s t u r : ℕ} → Serves code 0 s u r → Serves code 0 t u r → s ≡ t
  one_server {s} {t} {u} {r} a b = elim (cases_eq s t) [
    | inl e ↦ e
    | inr ne ↦ elim (cases_lt s t) [
      | inl low ↦ absurd (a.nearest t b.by b.there low b.before b.defines)
      | inr high ↦ absurd (b.nearest s a.by a.there (omega arith) a.before a.defines)
    ]
  ]

  module _ (u : ℕ) (i : Outline) (there : Stands code 0 u i) where
    pub serves_more : {s r : ℕ} → (i.defined ≡ Some r → ⊥) → Serves code 0 s u r → Serves code 0 s (u + 1) r
    serves_more {s} {r} none serves = record {
      by = serves.by;
      there = serves.there;
      defines = serves.defines;
      before = omega (arith, serves.before);
      nearest = λ k j at behind before defines. elim (cases_eq k u) [
        | inl e ↦ none (ap (λ (x : Outline). x.defined) (one there (subst (λ x. Stands code 0 x j) e at)) ∙ defines)
        | inr ne ↦ serves.nearest k j at behind (omega arith) defines
      ];
    }

    pub serves_less : {s r : ℕ} → (i.defined ≡ Some r → ⊥) → Serves code 0 s (u + 1) r → Serves code 0 s u r
    serves_less {s} {r} none serves = record {
      by = serves.by;
      there = serves.there;
      defines = serves.defines;
      before = elim (cases_eq s u) [
        | inl e ↦ absurd (none (ap (λ (x : Outline). x.defined) (one there (subst (λ x. Stands code 0 x serves.by) e serves.there)) ∙ serves.defines))
        | inr ne ↦ omega (arith, serves.before)
      ];
      nearest = λ k j at behind before defines. serves.nearest k j at behind (omega arith) defines;
    }

    pub serves_now : {r : ℕ} → i.defined ≡ Some r → Serves code 0 u (u + 1) r
    serves_now {r} defines = record {
      by = i;
      there = there;
      defines = defines;
      before = omega arith;
      nearest = λ k j at behind before d. absurd (omega arith);
    }

  pub nothing_before : {s r : ℕ} → Serves code 0 s 0 r → ⊥
  nothing_before serves = omega (arith, serves.before)

-- What stands at a place of a body.
use Rattle.std.proofs.Common.{◌≡◌, ◌∙◌, ℕ, ◌-◌, ◌<◌, List, length, map, Option, Some, None, slice_get, get_or, refl, sym, ap, arith}
use Rattle.std.proofs.lemmas.Option.{same_Some, slice_get-map, slice_get_read, slice_get_within}
use Rattle.std.specs.Option.{option_and_then, option_map}
use Rattle.core_ir.specs.declared.role.Role.{Role}
use Rattle.core_ir.specs.Outline.{Outline}
use Rattle.core_ir.specs.Flow.{HasRole, Jumps, Stands}
use Rattle.core_ir.specs.inner.Found.{defined_in, role_in}
use Rattle.core_ir.specs.inner.Registers.{Defines}

from_start : (k : ℕ) → k - 0 ≡ k
from_start k = omega arith

-- what an access of the code gives
pub read : {A : Type 0} (outline : A → Outline) (code : List A) (k : ℕ) (x : A) → k < length code → x ≡ get_or code k x → slice_get (map outline code) k ≡ Some (outline x)
read outline code k x inside is = slice_get-map outline code k ∙ ap (λ o. option_map outline o) (slice_get_read code (length code) k x refl inside is)

pub stands : (code : List Outline) (k : ℕ) (i : Outline) → slice_get code k ≡ Some i → Stands code 0 k i
stands code k i is = record { from = omega arith; there = ap (λ n. slice_get code n) (from_start k) ∙ is }

pub got : {code : List Outline} {k : ℕ} {i : Outline} → Stands code 0 k i → slice_get code k ≡ Some i
got {code} {k} {i} s = ap (λ n. slice_get code n) (sym (from_start k)) ∙ s.there

pub one : {code : List Outline} {k : ℕ} {i j : Outline} → Stands code 0 k i → Stands code 0 k j → i ≡ j
one {code} {k} {i} {j} s t = same_Some i j (sym (got s) ∙ got t)

pub stands_within : {code : List Outline} {k : ℕ} {i : Outline} → Stands code 0 k i → k < length code
stands_within {code} {k} {i} s = slice_get_within code k i (got s)

pub jump : (code : List Outline) (q l : ℕ) (i : Outline) → slice_get code q ≡ Some i → i.target ≡ Some l → Jumps code 0 q l
jump code q l i is leads = record { by = i; there = stands code q i is; leads = leads }

pub jump_leads : {code : List Outline} {q l : ℕ} (i : Outline) → Jumps code 0 q l → slice_get code q ≡ Some i → i.target ≡ Some l
jump_leads {code} {q} {l} i j is = ap (λ x. x.target) (same_Some i j.by (sym is ∙ got j.there)) ∙ j.leads

pub jump_within : {code : List Outline} {q l : ℕ} → Jumps code 0 q l → q < length code
jump_within j = stands_within j.there

pub one_target : {code : List Outline} {q l m : ℕ} → Jumps code 0 q l → Jumps code 0 q m → l ≡ m
one_target {code} {q} {l} {m} j k = same_Some l m (sym j.leads ∙ ap (λ x. x.target) (one j.there k.there) ∙ k.leads)

-- ---- its role, and what it defines

pub some_of_map : {A B : Type 0} (f : A → B) (o : Option A) (b : B) → option_map f o ≡ Some b → (a : A) × (o ≡ Some a) × (f a ≡ b)
some_of_map f None b e = absurd (cc)
some_of_map f (Some a) b e = (a, refl, same_Some (f a) b e)

pub some_of_then : {A B : Type 0} (f : A → Option B) (o : Option A) (b : B) → option_and_then f o ≡ Some b → (a : A) × (o ≡ Some a) × (f a ≡ Some b)
some_of_then f None b e = absurd (cc)
some_of_then f (Some a) b e = (a, refl, e)

module _ (code : List Outline) where
  pub role_in_has : (k : ℕ) (r : Role) → role_in code k ≡ Some r → HasRole code 0 k r
  role_in_has k r e = let s = some_of_map (λ (i : Outline). i.role) (slice_get code k) r e in
      record { instruction = s.0; there = stands code k s.0 s.1; is = s.2 }

  pub has_role_in : (k : ℕ) (r : Role) → HasRole code 0 k r → role_in code k ≡ Some r
  has_role_in k r has = ap (λ o. option_map (λ (i : Outline). i.role) o) (got has.there) ∙ ap Some has.is

  pub defined_in_defines : (k r : ℕ) → defined_in code k ≡ Some r → Defines code r k
  defined_in_defines k r e = let s = some_of_then (λ (i : Outline). i.defined) (slice_get code k) r e in
      record { by = s.0; there = stands code k s.0 s.1; defines = s.2 }

  pub defines_in : (k r : ℕ) (i : Outline) → Stands code 0 k i → i.defined ≡ Some r → defined_in code k ≡ Some r
  defines_in k r i there e = ap (λ o. option_and_then (λ (i : Outline). i.defined) o) (got there) ∙ e

-- The rows without branches: each is a part where its operands are.
use Rattle.std.proofs.Common.{◌≡◌, inl, inr, ℕ, ◌+◌, Bool, true, false, List, [], ◌∷◌, ◌++◌, Some, None, refl, subst}
use Rattle.std.specs.Prelude.{if◌then◌else◌}
use Rattle.c_types.specs.declared.ty.Ty.{Ty}
use Rattle.c_types.specs.Same.{same}
use Rattle.core_ir.specs.declared.instr.Instr.{Instr}
use Rattle.core_ir.specs.declared.instr.Instr.TheVariants.{Cast}
use Rattle.core_ir.specs.Flow.{IsAmong}
use Rattle.core_ir.specs.Instructions.{defined, role_of, target, used}
use Rattle.core_parts.specs.Theorems.{AreAmong, IsFree, PartLaws}
use Rattle.elab_rows.specs.Made.{Code, Made, combined_made, converted, extended, extended_made, followed_made, single}
use Rattle.elab_laws.proofs.Lifted.{fewer, gives, append, uses}
use Rattle.elab_laws.specs.Values.{IsMade, IsValue, behind_made}

-- ---- lists of registers

pub among_left : (xs ys : List ℕ) (r : ℕ) → IsAmong xs r → IsAmong (xs ++ ys) r
among_left [] ys r is = absurd is
among_left (x ∷ xs) ys r (inl e) = inl e
among_left (x ∷ xs) ys r (inr is) = inr (among_left xs ys r is)

pub among_right : (xs ys : List ℕ) (r : ℕ) → IsAmong ys r → IsAmong (xs ++ ys) r
among_right [] ys r is = is
among_right (x ∷ xs) ys r is = inr (among_right xs ys r is)

-- one more in front
pub ahead : (x : ℕ) (xs ys : List ℕ) → AreAmong xs ys → AreAmong (x ∷ xs) (x ∷ ys)
ahead x xs ys known r (inl e) = inl e
ahead x xs ys known r (inr is) = inr (known r is)

-- the first alone
pub first_among : (x : ℕ) (xs : List ℕ) → AreAmong (x ∷ []) (x ∷ xs)
first_among x xs r (inl e) = inl e
first_among x xs r (inr z) = absurd z

pub first_is : (x : ℕ) (live : List ℕ) → IsAmong live x → AreAmong (x ∷ []) live
first_is x live is r (inl e) = subst (IsAmong live) e is
first_is x live is r (inr z) = absurd z

-- the first of one list and the first of another
pub both_among : (x y : ℕ) (more : List ℕ) → AreAmong (x ∷ y ∷ []) ((x ∷ more) ++ y ∷ [])
both_among x y more r (inl e) = inl e
both_among x y more r (inr (inl e)) = among_right (x ∷ more) (y ∷ []) r (inl e)
both_among x y more r (inr (inr z)) = absurd z

pub swapped_among : (x y : ℕ) (more : List ℕ) → AreAmong (y ∷ x ∷ []) ((x ∷ more) ++ y ∷ [])
swapped_among x y more r (inl e) = among_right (x ∷ more) (y ∷ []) r (inl e)
swapped_among x y more r (inr (inl e)) = inl e
swapped_among x y more r (inr (inr z)) = absurd z

module _ (laws : PartLaws) where
  -- ---- one instruction, and one more

  pub single_value : (i : ℕ → Instr) (place register slot : ℕ) → IsFree (role_of (i register)) → target (i register) ≡ None → defined (i register) ≡ Some register → AreAmong (used (i register)) []
      → IsValue (single i place register slot) place register []
  single_value i place register slot free quiet defines known = gives laws [] (i register) place register register [] (laws.composition.none place register) free quiet defines known

  pub extended_value : (i : ℕ → ℕ → Instr) (x : Made) (place register : ℕ) (more : List ℕ) → IsFree (role_of (i x.register x.result)) → target (i x.register x.result) ≡ None
      → defined (i x.register x.result) ≡ Some x.register → AreAmong (used (i x.register x.result)) (x.result ∷ []) → IsValue x place register more → IsValue (extended_made i x) place register more
  extended_value i x place register more free quiet defines known h =
      let all = gives laws x.code (i x.register x.result) place register x.register (x.result ∷ more) h free quiet defines (λ r is. first_among x.result more r (known r is)) in
      fewer laws (x.code ++ i x.register x.result ∷ []) place register (x.register + 1) (x.register ∷ x.result ∷ more) (x.register ∷ more) all (ahead x.register more (x.result ∷ more) (λ r is. inr is))

  pub followed_value : (i : ℕ → Instr) (x : Made) (place register : ℕ) (more : List ℕ) → IsFree (role_of (i x.result)) → target (i x.result) ≡ None → defined (i x.result) ≡ None
      → AreAmong (used (i x.result)) (x.result ∷ []) → IsValue x place register more → IsValue (followed_made i x) place register more
  followed_value i x place register more free quiet none known h =
      uses laws x.code (i x.result) place register x.register (x.result ∷ more) h free quiet none (λ r is. first_among x.result more r (known r is))

  pub combined_value : (i : ℕ → ℕ → ℕ → Instr) (x y : Made) (place register : ℕ) (more : List ℕ) → IsFree (role_of (i y.register x.result y.result)) → target (i y.register x.result y.result) ≡ None
      → defined (i y.register x.result y.result) ≡ Some y.register → AreAmong (used (i y.register x.result y.result)) ((x.result ∷ more) ++ y.result ∷ [])
      → IsValue x place register more → IsValue y (behind_made place x) x.register [] → IsValue (combined_made i x y) place register more
  combined_value i x y place register more free quiet defines known hx hy =
      let live = (x.result ∷ more) ++ y.result ∷ [] in
      let both = append laws x.code y.code place register x.register y.register (x.result ∷ more) (y.result ∷ []) hx hy in
      let all = gives laws (x.code ++ y.code) (i y.register x.result y.result) place register y.register live both free quiet defines known in
      fewer laws (x.code ++ y.code ++ i y.register x.result y.result ∷ []) place register (y.register + 1) (y.register ∷ live) (y.register ∷ more) all
      (ahead y.register more live (λ r is. among_left (x.result ∷ more) (y.result ∷ []) r (inr is)))

  -- ---- conversions

  chosen : (b : Bool) (c d : Code) (place register slot : ℕ) (live : Made → List ℕ) → IsMade (c place register slot) place register (live (c place register slot)) → IsMade (d place register slot) place register (live (d place register slot))
      → IsMade ((if b then c else d) place register slot) place register (live ((if b then c else d) place register slot))
  chosen true c d place register slot live hc hd = hc
  chosen false c d place register slot live hc hd = hd

  pub either : (b : Bool) (c d : Code) (place register slot : ℕ) (more : List ℕ) → IsValue (c place register slot) place register more → IsValue (d place register slot) place register more
      → IsValue ((if b then c else d) place register slot) place register more
  either b c d place register slot more hc hd = chosen b c d place register slot (λ x. x.result ∷ more) hc hd

  pub converted_value : (from to : Ty) (a : Code) (place register slot : ℕ) (more : List ℕ) → IsValue (a place register slot) place register more → IsValue (converted from to a place register slot) place register more
  converted_value from to a place register slot more h =
      either (same from to) a (extended (λ d x. Cast d x from to) a) place register slot more h
      (extended_value (λ d x. Cast d x from to) (a place register slot) place register more tt refl refl (λ r is. is) h)

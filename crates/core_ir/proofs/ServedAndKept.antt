-- Uses that are served, chains, and addresses that are kept, by what the tables say.
use Rattle.std.proofs.Common.{◌≡◌, ◌∙◌, inl, inr, ℕ, zero, suc, ◌<◌, ◌≤◌, List, [], ◌∷◌, Option, Some, None, IfSome, slice_get, sym, ap, subst, arith}
use Rattle.std.proofs.lemmas.Bool.{cases_eq, cases_lt}
use Rattle.std.proofs.lemmas.Option.{same_Some}
use Rattle.core_ir.specs.declared.role.Role.TheVariants as role
use Rattle.core_ir.specs.Outline.{Outline}
use Rattle.core_ir.specs.Flow.{Chain, HasRole, IsAmong, IsKept, Stands, Unbroken}
use Rattle.core_ir.specs.Order.{Chained, Served}
use Rattle.core_ir.specs.inner.Found.{defined_in}
use Rattle.core_ir.specs.inner.Registers.{Defines, IsLast}
use Rattle.core_ir.proofs.Places.{defined_in_defines, defines_in}
use Rattle.core_ir.proofs.Servers.{one_role, one_server, serves_from, serves_last}

-- ---- uses

pub among : (rs : List ℕ) (k r : ℕ) → slice_get rs k ≡ Some r → IsAmong rs r
among [] k r e = absurd (cc)
among (x ∷ rs) zero r e = inl (same_Some x r e)
among (x ∷ rs) (suc k) r e = inr (among rs k r e)

pub among_at : (rs : List ℕ) (r : ℕ) → IsAmong rs r → (k : ℕ) × (slice_get rs k ≡ Some r)
among_at [] r h = absurd h
among_at (x ∷ rs) r (inl e) = (zero, ap Some e)
among_at (x ∷ rs) r (inr h) = let t = among_at rs r h in (suc t.0, t.1)

module _ (code : List Outline) (u r : ℕ) where
  pub served_from : (s : ℕ) → IsLast (Defines code r) u (Some s) → Unbroken code 0 s u → Served code u r
  served_from s last unbroken = record { server = s; serves = serves_from code s u r last; unbroken = unbroken }

  pub served_by : (s : ℕ) → IsLast (Defines code r) u (Some s) → Served code u r → Unbroken code 0 s u
  served_by s last served =
      let e = one_server code served.server s u r served.serves (serves_from code s u r last) in
      subst (λ x. Unbroken code 0 x u) e served.unbroken

  pub served_none : IsLast (Defines code r) u None → Served code u r → ⊥
  served_none last served = let e = serves_last code served.server u r None last served.serves in cc

-- ---- chains

module _ (code : List Outline) (first u p : ℕ) (load : HasRole code 0 first (role.Load p)) where
  same_register : (q : ℕ) → HasRole code 0 first (role.Load q) → q ≡ p
  same_register q has = let e = one_role code has load in cc

  before_of : (o : Option ℕ) → IsLast (Defines code p) u o → IsKept code 0 first u p → IfSome o (λ s. s < first)
  before_of None last kept = tt
  before_of (Some s) last kept = elim (cases_lt s first) [
    | inl low ↦ low
    | inr high ↦ absurd (kept s last.1.by last.1.there high (omega (arith, last.0)) last.1.defines)
  ]

  pub kept_before : (o : Option ℕ) → IsLast (Defines code p) u o → ((q : ℕ) → HasRole code 0 first (role.Load q) → IsKept code 0 first u q) → IfSome o (λ s. s < first)
  kept_before o last kept = before_of o last (kept p load)

  pub kept_here : first ≤ u → ((q : ℕ) → HasRole code 0 first (role.Load q) → IsKept code 0 first u q) → defined_in code u ≡ Some p → ⊥
  kept_here low kept e = let d = defined_in_defines code u p e in kept p load u d.by d.there low (omega arith) d.defines

  not_between : (o : Option ℕ) → IsLast (Defines code p) u o → IfSome o (λ s. s < first) → (j : ℕ) → first ≤ j → j < u → Defines code p j → ⊥
  not_between None last before j low high d = last j high d
  not_between (Some s) last before j low high d = last.2 j (omega arith) high d

  pub kept_from : (o : Option ℕ) → IsLast (Defines code p) u o → IfSome o (λ s. s < first) → (defined_in code u ≡ Some p → ⊥) → (q : ℕ) → HasRole code 0 first (role.Load q) → IsKept code 0 first u q
  kept_from o last before here q has j i there low high defines =
      let defines_p : i.defined ≡ Some p = defines ∙ ap Some (same_register q has) in
      elim (cases_eq j u) [
        | inl e ↦ here (defines_in code u p i (subst (λ x. Stands code 0 x i) e there) defines_p)
        | inr ne ↦ not_between o last before j low (omega arith) (record { by = i; there = there; defines = defines_p })
      ]

module _ (code : List Outline) (u c first : ℕ) (found : (k : ℕ) → Chain code 0 u c k → first ≡ k) where
  pub chained_kept : Chained code u c → (p : ℕ) → HasRole code 0 first (role.Load p) → IsKept code 0 first u p
  chained_kept chained p has =
      let e = found chained.first chained.chain in
      subst (λ x. IsKept code 0 x u p) (sym e) (chained.kept p (subst (λ x. HasRole code 0 x (role.Load p)) e has))

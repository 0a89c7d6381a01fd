-- A called register has one first instruction of its chain, and that reads one place.
use Rattle.std.proofs.Common.{◌≡◌, ℕ, List, sym, ap, subst}
use Rattle.core_ir.specs.declared.role.Role.{Role}
use Rattle.core_ir.specs.declared.role.Role.TheVariants as role
use Rattle.core_ir.specs.Flow.{Chain, HasRole, Serves, from_load, from_slot, through}
use Rattle.core_ir.specs.Outline.{Outline}
use Rattle.machine.specs.declared.code.Origin.{Origin}
use Rattle.machine.specs.declared.code.Origin.TheVariants as origin
use Rattle.machine.specs.Stands.{IsOrigin, IsOriginOf}
use Rattle.code_laws.proofs.Servers.{one_role, one_server}

same_load : (p q : ℕ) → role.Load p ≡ role.Load q → p ≡ q
same_load p q e = cc

same_slot : (s t : ℕ) → role.Slot s ≡ role.Slot t → s ≡ t
same_slot s t e = cc

no_load_is_slot : (p s : ℕ) → role.Load p ≡ role.Slot s → ⊥
no_load_is_slot p s e = cc

module _ (code : List Outline) where
  -- how a chain goes on from an instruction of this role at place s
  abbrev GoesOn : ℕ → Role → ℕ → Type 0
  GoesOn s (role.Load p) first = s ≡ first
  GoesOn s (role.Slot n) first = s ≡ first
  GoesOn s (role.Cast a) first = Chain code 0 s a first
  GoesOn s _ first = ⊥

  goes_on : {u r first : ℕ} → Chain code 0 u r first → (s : ℕ) (is : Role) → Serves code 0 s u r → HasRole code 0 s is → GoesOn s is first
  goes_on (from_load t u r p serves has) s is here there =
      let server : t ≡ s = one_server code t s u r serves here in
      let same = one_role code (subst (λ x. HasRole code 0 x (role.Load p)) server has) there in
      subst (λ x. GoesOn s x t) same (sym server)
  goes_on (from_slot t u r n serves has) s is here there =
      let server : t ≡ s = one_server code t s u r serves here in
      let same = one_role code (subst (λ x. HasRole code 0 x (role.Slot n)) server has) there in
      subst (λ x. GoesOn s x t) same (sym server)
  goes_on (through t u r a k serves has chain) s is here there =
      let server : t ≡ s = one_server code t s u r serves here in
      let same = one_role code (subst (λ x. HasRole code 0 x (role.Cast a)) server has) there in
      subst (λ x. GoesOn s x k) same (subst (λ x. Chain code 0 x a k) server chain)

  one_first : {u r first : ℕ} → Chain code 0 u r first → (other : ℕ) → Chain code 0 u r other → first ≡ other
  one_first (from_load s u r p serves has) other chain = goes_on chain s (role.Load p) serves has
  one_first (from_slot s u r n serves has) other chain = goes_on chain s (role.Slot n) serves has
  one_first (through s u r a k serves has rest) other chain = one_first rest other (goes_on chain s (role.Cast a) serves has)

  one_read : (k : ℕ) (o q : Origin) → IsOrigin code k o → IsOrigin code k q → o ≡ q
  one_read k (origin.Register p) (origin.Register r) x y = ap origin.Register (same_load p r (one_role code x y))
  one_read k (origin.Register p) (origin.Slot s) x y = absurd (no_load_is_slot p s (one_role code x y))
  one_read k (origin.Slot s) (origin.Register p) x y = absurd (no_load_is_slot p s (one_role code y x))
  one_read k (origin.Slot s) (origin.Slot t) x y = ap origin.Slot (same_slot s t (one_role code x y))

  pub one_origin : (k c : ℕ) (o q : Origin) → IsOriginOf code k (role.Indirect c) o → IsOriginOf code k (role.Indirect c) q → o ≡ q
  one_origin k c o q x y =
      let first : y.0 ≡ x.0 = one_first y.1 x.0 x.1 in
      one_read x.0 o q x.2 (subst (λ n. IsOrigin code n q) first y.2)

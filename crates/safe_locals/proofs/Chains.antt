-- Chains by their last instruction: what ends one, and that a register has one chain at most.
use Rattle.std.proofs.Common.{◌≡◌, ◌∙◌, ℕ, List, ℤ, refl, sym, ap, subst}
use Rattle.core_ir.specs.declared.role.Role.{Role}
use Rattle.core_ir.specs.declared.role.Role.TheVariants as role
use Rattle.core_ir.specs.Outline.{Outline}
use Rattle.core_ir.specs.Flow.{Chain, HasRole, Serves, from_load, from_slot, through}
use Rattle.core_ir.specs.SafeLocal.{IsAddress}
use Rattle.safe_locals.specs.inner.Marks.{EndsChain, Reads}
use Rattle.safe_locals.proofs.Serving.{one_role, one_server}
use Rattle.safe_locals.proofs.Addresses.{AddressBy, by_role}

-- what serves the register ends its chain
pub record Link (code : List Outline) (u r first : ℕ) : Type 0 where
  pub server : ℕ
  pub serves : Serves code 0 server u r
  pub reads : Reads code server first

no_both : (code : List Outline) (s first v : ℕ) (o : ℤ) (by : Role) → AddressBy code s by v o → EndsChain code s by first → ⊥
no_both code s first v o (role.Local w) a e = e
no_both code s first v o (role.Shifted p n) a e = e
no_both code s first v o (role.Indexed p i n) a e = e
no_both code s first v o _ a e = a

module _ {code : List Outline} where
  pub link : {u r first : ℕ} → Chain code 0 u r first → Link code u r first
  link (from_load s u r p serves has) = record { server = s; serves = serves; reads = record { by = role.Load p; has = has; ends = refl } }
  link (from_slot s u r n serves has) = record { server = s; serves = serves; reads = record { by = role.Slot n; has = has; ends = refl } }
  link (through s u r a k serves has c) = record { server = s; serves = serves; reads = record { by = role.Cast a; has = has; ends = c } }

  chain_by : (s u r first : ℕ) (by : Role) → Serves code 0 s u r → HasRole code 0 s by → EndsChain code s by first → Chain code 0 u r first
  chain_by s u r first (role.Load p) serves has ends = subst (λ x. Chain code 0 u r x) (sym ends) (from_load s u r p serves has)
  chain_by s u r first (role.Slot n) serves has ends = subst (λ x. Chain code 0 u r x) (sym ends) (from_slot s u r n serves has)
  chain_by s u r first (role.Cast a) serves has ends = through s u r a first serves has ends
  chain_by s u r first _ serves has ends = absurd ends

  pub chain_of : (s u r first : ℕ) → Serves code 0 s u r → Reads code s first → Chain code 0 u r first
  chain_of s u r first serves reads = chain_by s u r first reads.by serves reads.has reads.ends

  -- what ends a chain, by the role of the instruction
  pub ends_by : (s first : ℕ) (by : Role) → HasRole code 0 s by → Reads code s first → EndsChain code s by first
  ends_by s first by has reads = subst (λ x. EndsChain code s x first) (one_role reads.has has) reads.ends

  ends_at : (s u r first : ℕ) (by : Role) → Serves code 0 s u r → HasRole code 0 s by → Chain code 0 u r first → EndsChain code s by first
  ends_at s u r first by serves has c =
      let l = link c in
      ends_by s first by has (subst (λ x. Reads code x first) (one_server l.serves serves) l.reads)

  pub one_chain : {u r k l : ℕ} → Chain code 0 u r k → Chain code 0 u r l → k ≡ l
  one_chain {l} (from_load s u r p serves has) c = let e : l ≡ s = ends_at s u r l (role.Load p) serves has c in sym e
  one_chain {l} (from_slot s u r n serves has) c = let e : l ≡ s = ends_at s u r l (role.Slot n) serves has c in sym e
  one_chain {l} (through s u r a k serves has d) c =
      let e : Chain code 0 s a l = ends_at s u r l (role.Cast a) serves has c in one_chain d e

  -- what ends a chain is no number and no address
  pub number_no_chain : (s first : ℕ) (c : ℤ) → HasRole code 0 s (role.Const c) → Reads code s first → ⊥
  number_no_chain s first c has reads = ends_by s first (role.Const c) has reads

  pub address_no_chain : (s first v : ℕ) (o : ℤ) → IsAddress code s v o → Reads code s first → ⊥
  address_no_chain s first v o a reads = no_both code s first v o reads.by (by_role reads.by reads.has a) reads.ends

one_end : (code : List Outline) (s k l : ℕ) (by : Role) → EndsChain code s by k → EndsChain code s by l → k ≡ l
one_end code s k l (role.Load p) a b = a ∙ sym b
one_end code s k l (role.Slot n) a b = a ∙ sym b
one_end code s k l (role.Cast r) a b = one_chain a b
one_end code s k l _ a b = absurd a

pub one_read : {code : List Outline} (s k l : ℕ) → Reads code s k → Reads code s l → k ≡ l
one_read {code} s k l a b = one_end code s k l a.by a.ends (ends_by s l a.by a.has b)

-- What a mark answers: the address of a local that serves a register, and the first place of its chain.
use Rattle.std.proofs.Common.{◌≡◌, ◌∙◌, ◌↔◌, ℕ, List, Some, ℤ, sym, ap, subst}
use Rattle.std.proofs.lemmas.Option.{same_Some}
use Rattle.core_ir.specs.Outline.{Outline}
use Rattle.core_ir.specs.Flow.{Chain}
use Rattle.core_ir.specs.SafeLocal.{IsAddress}
use Rattle.safe_locals.specs.declared.mark.Mark.{Mark}
use Rattle.safe_locals.specs.declared.mark.Mark.TheVariants as mark
use Rattle.safe_locals.specs.Known.{HasAddress}
use Rattle.safe_locals.specs.inner.Marks.{AreMarks, Tells, mark_at}
use Rattle.safe_locals.proofs.Chains.{chain_of, link}
use Rattle.safe_locals.proofs.MarksTell.{address_mark, read_mark, tells_server}

local_is : (v w : ℕ) (o q : ℤ) → mark.Address v o ≡ mark.Address w q → v ≡ w
local_is v w o q e = cc

offset_is : (v w : ℕ) (o q : ℤ) → mark.Address v o ≡ mark.Address w q → o ≡ q
offset_is v w o q e = cc

first_is : (f g : ℕ) → mark.Read f ≡ mark.Read g → f ≡ g
first_is f g e = cc

module _ (code : List Outline) (u : ℕ) (marks : List Mark) (are : AreMarks code u marks) (r : ℕ) where
  address_is_mark : (v : ℕ) (o : ℤ) → HasAddress code u r v o → mark_at marks r ≡ mark.Address v o
  address_is_mark v o h = address_mark (mark_at marks r) (are.tell r) h.serves h.address

  chain_is_mark : (k : ℕ) → Chain code 0 u r k → mark_at marks r ≡ mark.Read k
  chain_is_mark k c = let l = link c in read_mark (mark_at marks r) (are.tell r) l.serves l.reads

  pub address_known : (w : ℕ) (q : ℤ) → mark_at marks r ≡ mark.Address w q → (v : ℕ) (o : ℤ) → HasAddress code u r v o ↔ ((w ≡ v) × (q ≡ o))
  address_known w q is v o = (
    λ h. let e : mark.Address w q ≡ mark.Address v o = sym is ∙ address_is_mark v o h in (local_is w v q o e, offset_is w v q o e),
    λ same.
        let t = subst (Tells code u r) is (are.tell r) in
        let s = tells_server (mark.Address w q) t (λ e. cc) in
        let address : IsAddress code s.0 w q = t.right s.0 s.1 in
        record { server = s.0; serves = s.1; address = subst (λ x. IsAddress code s.0 v x) same.1 (subst (λ x. IsAddress code s.0 x q) same.0 address) },
  )

  pub no_address_known : ((w : ℕ) (q : ℤ) → mark_at marks r ≡ mark.Address w q → ⊥) → (v : ℕ) (o : ℤ) → HasAddress code u r v o ↔ ⊥
  no_address_known none v o = (λ h. none v o (address_is_mark v o h), λ f. absurd f)

  pub chain_known : (f : ℕ) → mark_at marks r ≡ mark.Read f → (k : ℕ) → Chain code 0 u r k ↔ (Some f ≡ Some k)
  chain_known f is k = (
    λ c. ap Some (first_is f k (sym is ∙ chain_is_mark k c)),
    λ same.
        let t = subst (Tells code u r) is (are.tell r) in
        let s = tells_server (mark.Read f) t (λ e. cc) in
        subst (λ x. Chain code 0 u r x) (same_Some f k same) (chain_of s.0 u r f s.1 (t.right s.0 s.1)),
  )

  pub no_chain_known : ((f : ℕ) → mark_at marks r ≡ mark.Read f → ⊥) → (k : ℕ) → Chain code 0 u r k → ⊥
  no_chain_known none k c = none k (chain_is_mark k c)

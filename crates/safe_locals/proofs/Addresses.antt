-- An instruction makes the address of one local at most, with one offset.
use Rattle.std.proofs.Common.{◌≡◌, ◌∙◌, ℕ, List, ℤ, pos, ◌+ℤ◌, ◌*ℤ◌, refl, sym, ap, subst}
use Rattle.core_ir.specs.declared.role.Role.{Role}
use Rattle.core_ir.specs.declared.role.Role.TheVariants as role
use Rattle.core_ir.specs.Outline.{Outline}
use Rattle.core_ir.specs.Flow.{HasRole, Serves}
use Rattle.core_ir.specs.SafeLocal.{IsAddress, base, indexed, shifted}
use Rattle.safe_locals.proofs.Serving.{one_role, one_server}

const_of : Role → ℤ
const_of (role.Const c) = c
const_of _ = pos 0

local_of : Role → ℕ
local_of (role.Local v) = v
local_of _ = 0

-- what each role asks of an address that it makes
abbrev pub AddressBy : List Outline → ℕ → Role → ℕ → ℤ → Type 0
AddressBy code k (role.Local w) v o = (w ≡ v) × (o ≡ pos 0)
AddressBy code k (role.Shifted p n) v o = (s : ℕ) × (q : ℤ) × Serves code 0 s k p × IsAddress code s v q × (o ≡ q +ℤ pos n)
AddressBy code k (role.Indexed p i n) v o =
    (s : ℕ) × (j : ℕ) × (q : ℤ) × (c : ℤ) × Serves code 0 s k p × IsAddress code s v q × Serves code 0 j k i × HasRole code 0 j (role.Const c) × (o ≡ q +ℤ c *ℤ pos n)
AddressBy code k _ v o = ⊥

module _ {code : List Outline} where
  pub by_role : {k v : ℕ} {o : ℤ} (r : Role) → HasRole code 0 k r → IsAddress code k v o → AddressBy code k r v o
  by_role r has (base k v o is zero) = subst (λ x. AddressBy code k x v o) (one_role is has) (refl, zero)
  by_role r has (shifted k v p n s q o is serves a sum) = subst (λ x. AddressBy code k x v o) (one_role is has) (s, q, serves, a, sum)
  by_role r has (indexed k v p i n s j q c o is serves a number const sum) = subst (λ x. AddressBy code k x v o) (one_role is has) (s, j, q, c, serves, a, number, const, sum)

  pub one_address : {k v w : ℕ} {o q : ℤ} → IsAddress code k v o → IsAddress code k w q → (v ≡ w) × (o ≡ q)
  unfolding const_of by_role
  one_address {w} {q} (base k v o is zero) b =
      let x : AddressBy code k (role.Local v) w q = by_role (role.Local v) is b in (x.0, zero ∙ sym x.1)
  one_address {w} {q} (shifted k v p n s t o is serves a sum) b =
      let x : AddressBy code k (role.Shifted p n) w q = by_role (role.Shifted p n) is b in
      let same = one_address a (subst (λ y. IsAddress code y w x.1) (one_server x.2 serves) x.3) in
      (same.0, sum ∙ ap (λ y. y +ℤ pos n) same.1 ∙ sym x.4)
  one_address {w} {q} (indexed k v p i n s j t c o is serves a number const sum) b =
      let x : AddressBy code k (role.Indexed p i n) w q = by_role (role.Indexed p i n) is b in
      let same = one_address a (subst (λ y. IsAddress code y w x.2) (one_server x.4 serves) x.5) in
      let consts : c ≡ x.3 = ap const_of (one_role const (subst (λ y. HasRole code 0 y (role.Const x.3)) (one_server x.6 number) x.7)) in
      (same.0, sum ∙ ap (λ y. y +ℤ c *ℤ pos n) same.1 ∙ ap (λ y. x.2 +ℤ y *ℤ pos n) consts ∙ sym x.8)

-- An instruction makes the address of one local, at one offset, and an access has one unit.
use Rattle.std.proofs.Common.{◌≡◌, ◌∙◌, ℕ, ◌+◌, List, Option, Some, None, take, ℤ, pos, ◌+ℤ◌, ◌*ℤ◌, refl, sym, ap, subst}
use Rattle.core_ir.specs.declared.role.Role.{Role}
use Rattle.core_ir.specs.declared.role.Role.TheVariants as role
use Rattle.core_ir.specs.Flow.{HasRole, Serves}
use Rattle.core_ir.specs.Outline.{Outline}
use Rattle.core_ir.specs.SafeLocal.{IsAddress, base, indexed, shifted}
use Rattle.machine.specs.declared.code.CodeLocal.{CodeLocal}
use Rattle.machine.specs.Stands.{IsUnit, IsUnitOf, safe_units}
use Rattle.code_laws.proofs.Servers.{one_role, one_server}

same_offset : (m n : ℕ) → pos m ≡ pos n → m ≡ n
same_offset m n e = cc

same_number : (b c : ℤ) → role.Const b ≡ role.Const c → b ≡ c
same_number b c e = cc

module _ (code : List Outline) where
  -- ---- by the role of the instruction that makes it

  record IsShifted (k p n v : ℕ) (o : ℤ) : Type 0 where
    pub server : ℕ
    pub before : ℤ
    pub serves : Serves code 0 server k p
    pub address : IsAddress code server v before
    pub is : o ≡ before +ℤ pos n

  record IsIndexed (k p i n v : ℕ) (o : ℤ) : Type 0 where
    pub server : ℕ
    pub before : ℤ
    pub number : ℕ
    pub c : ℤ
    pub serves : Serves code 0 server k p
    pub address : IsAddress code server v before
    pub counts : Serves code 0 number k i
    pub constant : HasRole code 0 number (role.Const c)
    pub is : o ≡ before +ℤ c *ℤ pos n

  abbrev IsMadeBy : ℕ → Role → ℕ → ℤ → Type 0
  IsMadeBy k (role.Local w) v o = (w ≡ v) × (o ≡ pos 0)
  IsMadeBy k (role.Shifted p n) v o = IsShifted k p n v o
  IsMadeBy k (role.Indexed p i n) v o = IsIndexed k p i n v o
  IsMadeBy k _ v o = ⊥

  made_by : {k v : ℕ} {o : ℤ} → IsAddress code k v o → (r : Role) → HasRole code 0 k r → IsMadeBy k r v o
  made_by (base k v o has is) r here = subst (λ x. IsMadeBy k x v o) (one_role code has here) (refl, is)
  made_by (shifted k v p n s o sum has serves address is) r here =
      let made : IsShifted k p n v sum = record { server = s; before = o; serves = serves; address = address; is = is } in
      subst (λ x. IsMadeBy k x v sum) (one_role code has here) made
  made_by (indexed k v p i n s j o c sum has serves address counts constant is) r here =
      let made : IsIndexed k p i n v sum = record {
        server = s;
        before = o;
        number = j;
        c = c;
        serves = serves;
        address = address;
        counts = counts;
        constant = constant;
        is = is;
      } in
      subst (λ x. IsMadeBy k x v sum) (one_role code has here) made

  -- ---- one address

  one_address : {k v : ℕ} {o : ℤ} → IsAddress code k v o → (w : ℕ) (q : ℤ) → IsAddress code k w q → (v ≡ w) × (o ≡ q)
  one_address (base k v o has is) w q other =
      let made = made_by other (role.Local v) has in
      (made.0, is ∙ sym made.1)
  one_address (shifted k v p n s o sum has serves address is) w q other =
      let made = made_by other (role.Shifted p n) has in
      let server : made.server ≡ s = one_server code made.server s k p made.serves serves in
      let same = one_address address w made.before (subst (λ x. IsAddress code x w made.before) server made.address) in
      (same.0, is ∙ ap (λ x. x +ℤ pos n) same.1 ∙ sym made.is)
  one_address (indexed k v p i n s j o c sum has serves address counts constant is) w q other =
      let made = made_by other (role.Indexed p i n) has in
      let server : made.server ≡ s = one_server code made.server s k p made.serves serves in
      let same = one_address address w made.before (subst (λ x. IsAddress code x w made.before) server made.address) in
      let number : made.number ≡ j = one_server code made.number j k i made.counts counts in
      let there : HasRole code 0 j (role.Const made.c) = subst (λ x. HasRole code 0 x (role.Const made.c)) number made.constant in
      let times : c ≡ made.c = same_number c made.c (one_role code constant there) in
      (same.0, is ∙ ap (λ x. x +ℤ c *ℤ pos n) same.1 ∙ ap (λ x. made.before +ℤ x *ℤ pos n) times ∙ sym made.is)

  -- ---- one unit

  module _ (locals : List CodeLocal) (k : ℕ) where
    one_number : (p u w : ℕ) → IsUnit code locals k p u → IsUnit code locals k p w → u ≡ w
    one_number p u w x y =
        let server : y.server ≡ x.server = one_server code y.server x.server k p y.serves x.serves in
        let same = one_address x.address y.local (pos y.offset) (subst (λ s. IsAddress code s y.local (pos y.offset)) server y.address) in
        x.is ∙ ap (λ n. safe_units (take n locals) + x.offset) same.0 ∙ ap (λ n. safe_units (take y.local locals) + n) (same_offset x.offset y.offset same.1) ∙ sym y.is

    pub one_unit : (a u w : Option ℕ) → IsUnitOf code locals k a u → IsUnitOf code locals k a w → u ≡ w
    one_unit None u w x y = x ∙ sym y
    one_unit (Some p) None None x y = refl
    one_unit (Some p) None (Some w) x y = absurd (x w y)
    one_unit (Some p) (Some u) None x y = absurd (y u x)
    one_unit (Some p) (Some u) (Some w) x y = ap Some (one_number p u w x y)

-- The unit at an address is that of the access.
use Rattle.std.proofs.Common.{◌≡◌, ◌∙◌, ◌↔◌, inl, inr, ℕ, ◌+◌, Bool, true, false, cond, List, Option, Some, None, slice_get, take, ℤ, pos, negsuc, ◌≤ℤ◌, unsigned_abs, refl, sym, ap, subst, arith}
use Rattle.std.proofs.lemmas.Bool.{both_ways}
use Rattle.std.proofs.lemmas.Int.{ints}
use Rattle.std.proofs.lemmas.Option.{none-some, same_Some}
use Rattle.core_ir.specs.declared.role.Role.{Role}
use Rattle.core_ir.specs.declared.role.Role.TheVariants as role
use Rattle.core_ir.specs.Flow.{Stands}
use Rattle.core_ir.specs.Outline.{Outline}
use Rattle.core_ir.specs.SafeLocal.{IsAddress, IsMoved, by_constant, by_index}
use Rattle.machine.specs.declared.code.CodeLocal.{CodeLocal}
use Rattle.machine.specs.Stands.{IsUnit, IsUnitOf, accessed, safe_units}
use Rattle.safe_locals.specs.declared.marks.LocalAddress.{LocalAddress}
use Rattle.safe_locals.specs.Known.{HasAddress, IsAddressOf}
use Rattle.icode.specs.Sites.{AreLocals}
use Rattle.icode.specs.inner.Sites.{IsInsideOf, StaysInside, unit_at, unit_in}

natural : (o : ℤ) → pos 0 ≤ℤ o → o ≡ pos (unsigned_abs o)
natural (pos n) low = refl
natural (negsuc n) low = absurd (omega (arith, ints, low))

same_offset : (m n : ℕ) → pos m ≡ pos n → m ≡ n
same_offset m n e = cc

stands_one : {code : List Outline} {k : ℕ} {i j : Outline} → Stands code 0 k i → Stands code 0 k j → i ≡ j
stands_one {code} {k} {i} {j} s t = same_Some i j (sym s.there ∙ t.there)

module _ (code : List Outline) (locals : List CodeLocal) (k p : ℕ) (a : Option LocalAddress) (tells : (v : ℕ) (o : ℤ) → HasAddress code k p v o ↔ IsAddressOf a v o) where
  -- ---- an access of a safe local stays inside

  no_move : (r : Role) (i : Outline) → Stands code 0 k i → i.role ≡ r → accessed r ≡ Some p → {operand : ℕ} → IsMoved code k operand → ⊥
  no_move r i there is access (by_constant q n has) =
      let e : r ≡ role.Shifted q n = sym is ∙ ap (λ (x : Outline). x.role) (stands_one there has.there) ∙ has.is in
      let f : accessed (role.Shifted q n) ≡ Some p = ap accessed (sym e) ∙ access in cc
  no_move r i there is access (by_index q j n s c has serves const) =
      let e : r ≡ role.Indexed q j n = sym is ∙ ap (λ (x : Outline). x.role) (stands_one there has.there) ∙ has.is in
      let f : accessed (role.Indexed q j n) ≡ Some p = ap accessed (sym e) ∙ access in cc

  module _ (i : Outline) (there : Stands code 0 k i) (access : accessed i.role ≡ Some p) (names : slice_get i.used 0 ≡ Some p) (are : AreLocals code locals) where
    inside_of : (b : LocalAddress) → a ≡ Some b → (l : CodeLocal) → slice_get locals b.local ≡ Some l → IsInsideOf b l
    inside_of b is l at safe =
        let h = (tells b.local b.offset).1 (subst (λ x. IsAddressOf x b.local b.offset) (sym is) (refl, refl)) in
        elim (are.safe b.local l at safe h.server k 0 p b.offset i h.address h.serves there names) [
          | inl moved ↦ absurd (no_move i.role i there refl access moved)
          | inr accesses ↦ accesses.1
        ]

    stays_by : (b : Option LocalAddress) → a ≡ b → StaysInside locals b
    stays_by None is = tt
    stays_by (Some b) is = λ l at. inside_of b is l at

    pub stays_inside : StaysInside locals a
    stays_inside = stays_by a refl

  -- ---- the unit is there

  address_of : {u : ℕ} → (is : IsUnit code locals k p u) → HasAddress code k p is.local (pos is.offset)
  address_of is = record { server = is.server; serves = is.serves; address = is.address }

  module _ (b : LocalAddress) (of : a ≡ Some b) where
    that : {u : ℕ} → (is : IsUnit code locals k p u) → (b.local ≡ is.local) × (b.offset ≡ pos is.offset)
    that is = subst (λ x. IsAddressOf x is.local (pos is.offset)) of ((tells is.local (pos is.offset)).0 (address_of is))

    local_is : {u : ℕ} → (is : IsUnit code locals k p u) → slice_get locals b.local ≡ Some is.l
    local_is is = ap (λ n. slice_get locals n) (that is).0 ∙ is.there

    unit_by_safe : (l : CodeLocal) → slice_get locals b.local ≡ Some l → IsInsideOf b l → (s : Bool) → l.safe ≡ s
        → IsUnitOf code locals k (Some p) (cond s (Some (safe_units (take b.local locals) + unsigned_abs b.offset)) None)
    unit_by_safe l at inside true safe =
        let h = (tells b.local b.offset).1 (subst (λ x. IsAddressOf x b.local b.offset) (sym of) (refl, refl)) in
        record {
          server = h.server;
          local = b.local;
          offset = unsigned_abs b.offset;
          l = l;
          serves = h.serves;
          address = subst (λ o. IsAddress code h.server b.local o) (natural b.offset (inside safe).0) h.address;
          there = at;
          safe = safe;
          is = refl;
        }
    unit_by_safe l at inside false safe = λ u is.
        let same : l ≡ is.l = same_Some l is.l (sym at ∙ local_is is) in
        both_ways _ safe (ap (λ (x : CodeLocal). x.safe) same ∙ is.safe)

    unit_by_local : (o : Option CodeLocal) → slice_get locals b.local ≡ o → ((l : CodeLocal) → slice_get locals b.local ≡ Some l → IsInsideOf b l)
        → IsUnitOf code locals k (Some p) (unit_in b (safe_units (take b.local locals)) o)
    unit_by_local None at inside = λ u is. none-some is.l (sym at ∙ local_is is)
    unit_by_local (Some l) at inside = unit_by_safe l at (inside l at) l.safe refl

  unit_by : (b : Option LocalAddress) → a ≡ b → StaysInside locals b → IsUnitOf code locals k (Some p) (unit_at locals b)
  unit_by None is inside = λ u unit. subst (λ x. IsAddressOf x unit.local (pos unit.offset)) is ((tells unit.local (pos unit.offset)).0 (address_of unit))
  unit_by (Some b) is inside = unit_by_local b is (slice_get locals b.local) refl inside

  pub unit_is : StaysInside locals a → IsUnitOf code locals k (Some p) (unit_at locals a)
  unit_is inside = unit_by a refl inside

  -- ---- and no other

  one_address : (b : Option LocalAddress) → (v w : ℕ) (o q : ℤ) → IsAddressOf b v o → IsAddressOf b w q → (v ≡ w) × (o ≡ q)
  one_address None v w o q x y = absurd x
  one_address (Some b) v w o q x y = (sym x.0 ∙ y.0, sym x.1 ∙ y.1)

  one_number : (u w : ℕ) → IsUnit code locals k p u → IsUnit code locals k p w → u ≡ w
  one_number u w x y =
      let same = one_address a x.local y.local (pos x.offset) (pos y.offset) ((tells x.local (pos x.offset)).0 (address_of x)) ((tells y.local (pos y.offset)).0 (address_of y)) in
      x.is ∙ ap (λ n. safe_units (take n locals) + x.offset) same.0 ∙ ap (λ n. safe_units (take y.local locals) + n) (same_offset x.offset y.offset same.1) ∙ sym y.is

  pub one_unit : (u w : Option ℕ) → IsUnitOf code locals k (Some p) u → IsUnitOf code locals k (Some p) w → u ≡ w
  one_unit None None x y = refl
  one_unit None (Some w) x y = absurd (x w y)
  one_unit (Some u) None x y = absurd (y u x)
  one_unit (Some u) (Some w) x y = ap Some (one_number u w x y)

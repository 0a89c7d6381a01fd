-- An instruction says that it stands at its site exactly where it says where it is.
use Rattle.std.proofs.Common.{◌≡◌, ◌↔◌, ℕ, Bool, true, false, List, map, Option, Some, None, is_some, refl, sym, subst, arith}
use Rattle.core_ir.specs.Outline.{Outline}
use Rattle.core_ir.specs.declared.role.Role.TheVariants as role
use Rattle.sensitivity.specs.declared.class.Class.{Class}
use Rattle.machine.specs.declared.code.CodeFunction.{CodeFunction}
use Rattle.machine.specs.declared.code.CodePlace.{CodePlace}
use Rattle.machine.specs.declared.code.CodePlace.TheVariants as code
use Rattle.machine.specs.declared.code.Origin.{Origin}
use Rattle.machine.specs.declared.code.Origin.TheVariants as origin
use Rattle.machine.specs.Outlines.{outline_of_code, role_of}
use Rattle.machine.specs.Stands.{IsOriginOf, IsUnitOf}
use Rattle.machine.specs.ValidCode.{SaysWhere}
use Rattle.icode.specs.declared.site.Site.{Site}
use Rattle.icode.specs.Sites.{IsSite}
use Rattle.icode.specs.inner.Says.{same_bool, same_origin, same_unit, says}
use Rattle.std.proofs.lemmas.Grind.{common_steps}

unit_eq : (u v : Option ℕ) → (same_unit u v ≡ true) ↔ (u ≡ v)
unit_eq None None = (λ e. refl, λ e. refl)
unit_eq None (Some v) = (λ e. cc, λ e. cc)
unit_eq (Some u) None = (λ e. cc, λ e. cc)
unit_eq (Some u) (Some v) = grind (arith, common_steps)

origin_eq : (o q : Origin) → (same_origin o q ≡ true) ↔ (o ≡ q)
origin_eq (origin.Register p) (origin.Register q) = grind (arith, common_steps)
origin_eq (origin.Register p) (origin.Slot s) = (λ e. cc, λ e. cc)
origin_eq (origin.Slot s) (origin.Register p) = (λ e. cc, λ e. cc)
origin_eq (origin.Slot s) (origin.Slot t) = grind (arith, common_steps)

module _ (f : CodeFunction) (k : ℕ) where
  abbrev outlines : List Outline
  outlines = map outline_of_code f.body

  module _ (p : ℕ) where
    unit_says : (u : Option ℕ) (site : Option ℕ) → IsUnitOf outlines f.locals k (Some p) site → ((w : Option ℕ) → IsUnitOf outlines f.locals k (Some p) w → w ≡ site)
        → (same_unit u site ≡ true) ↔ IsUnitOf outlines f.locals k (Some p) u
    unit_says u site is one = (
      λ e. subst (λ x. IsUnitOf outlines f.locals k (Some p) x) (sym ((unit_eq u site).0 e)) is,
      λ of. (unit_eq u site).1 (one u of),
    )

    marked_says : (site : Option ℕ) → IsUnitOf outlines f.locals k (Some p) site → (u : Bool) (a : Class) → (same_bool u (is_some site) ≡ true) ↔ SaysWhere f k (code.Touch p a u)
    marked_says None is true a = (λ e. cc, λ x. absurd (is x.0 x.1))
    marked_says None is false a = (λ e. is, λ x. refl)
    marked_says (Some u) is true a = (λ e. (u, is), λ x. refl)
    marked_says (Some u) is false a = (λ e. cc, λ x. absurd (x u is))

  pub says_where : (i : CodePlace) (site : Site) → IsSite outlines f.locals k (role_of i) site → (says i site ≡ true) ↔ SaysWhere f k i
  says_where (code.Touch p a marked) site is = marked_says p site.unit is.unit marked a
  says_where (code.Load d p kind unit) site is = unit_says p unit site.unit is.unit is.one_unit
  says_where (code.Store p a kind unit) site is = unit_says p unit site.unit is.unit is.one_unit
  says_where (code.CallInd c args t s o) site is = (
    λ e. subst (λ x. IsOriginOf outlines k (role.Indirect c) x) (sym ((origin_eq o site.origin).0 e)) is.origin,
    λ of. (origin_eq o site.origin).1 (is.one_origin c o refl of),
  )
  says_where _ site is = (λ e. tt, λ x. refl)

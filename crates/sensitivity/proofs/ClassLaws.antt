-- The laws of classes, and what a table of classes tells of the types that reach a struct.
use Rattle.std.proofs.Common.{◌≡◌, ◌∙◌, ℕ, true, List, None, Some, is_none, refl, sym, ap, subst}
use Rattle.std.proofs.lemmas.Bool.{both_ways}
use Rattle.c_types.specs.declared.structs.StructDef.{StructDef}
use Rattle.c_types.specs.declared.ty.Ty.{Ty}
use Rattle.c_types.specs.declared.ty.Ty.TheVariants as ty
use Rattle.c_types.specs.Kinds.{struct_of, target_of}
use Rattle.c_types.specs.Structs.{body_of}
use Rattle.sensitivity.specs.declared.class.Class.{Class}
use Rattle.sensitivity.specs.declared.class.Class.TheVariants as class
use Rattle.sensitivity.specs.Holds.{Holds, array, code, has_no_body, is_code, is_code_pointer, is_open, is_universal, member, pointer, universal}
use Rattle.sensitivity.specs.Classes.{AreClasses, HasClass, IsTyped, PointsToHolder, class_at}
use Rattle.sensitivity.specs.Theorems.{ArraysAreAsTheirElements, ClassesAreUnique, PointersHold}
use Rattle.sensitivity.specs.declared.holding.Holding.{Holding}
use Rattle.sensitivity.specs.declared.holding.Holding.TheVariants as holding
use Rattle.sensitivity.specs.inner.Marks.{IsHolding, TellsBodies, is_universal_class}
use Rattle.sensitivity.proofs.Forms.{code_array, code_of, code_points, element_of_array, no_code, no_code_struct, no_struct, no_struct_in, no_universal, open_array, same_struct, same_target, struct_of_struct, target_of_pointer, universal_of, universal_points, universal_struct}
use Rattle.sensitivity.proofs.HoldingByForm.{element_holds, holds_reached, open_by, reached_holds, target_holds}

-- ---- no type has two classes

pub classes_are_unique : ClassesAreUnique
classes_are_unique defs t class.Code class.Code x y = refl
classes_are_unique defs t class.Code class.Universal x y = absurd (both_ways _ y.0 x)
classes_are_unique defs t class.Code class.Sensitive x y = absurd (both_ways _ y.0.no_code x)
classes_are_unique defs t class.Code class.Regular x y = absurd (both_ways _ y.0.no_code x)
classes_are_unique defs t class.Universal class.Code x y = absurd (both_ways _ x.0 y)
classes_are_unique defs t class.Universal class.Universal x y = refl
classes_are_unique defs t class.Universal class.Sensitive x y = absurd (both_ways _ y.0.no_universal x.1)
classes_are_unique defs t class.Universal class.Regular x y = absurd (both_ways _ y.0.no_universal x.1)
classes_are_unique defs t class.Sensitive class.Code x y = absurd (both_ways _ x.0.no_code y)
classes_are_unique defs t class.Sensitive class.Universal x y = absurd (both_ways _ x.0.no_universal y.1)
classes_are_unique defs t class.Sensitive class.Sensitive x y = refl
classes_are_unique defs t class.Sensitive class.Regular x y = absurd (y.1 x.1)
classes_are_unique defs t class.Regular class.Code x y = absurd (both_ways _ x.0.no_code y)
classes_are_unique defs t class.Regular class.Universal x y = absurd (both_ways _ x.0.no_universal y.1)
classes_are_unique defs t class.Regular class.Sensitive x y = absurd (x.1 y.1)
classes_are_unique defs t class.Regular class.Regular x y = refl

-- ---- pointers hold where they aren't regular

pub pointers_hold : PointersHold
pointers_hold defs t u class.Code is x = (λ h e. absurd (cc), λ ne. code t x)
pointers_hold defs t u class.Universal is x = (λ h e. absurd (cc), λ ne. universal t x.1)
pointers_hold defs t u class.Sensitive is x = (λ h e. absurd (cc), λ ne. pointer t x.1.target x.1.is x.1.holds)
pointers_hold defs t u class.Regular is x = (
  λ h e. x.1 (record { target = u; is = is; holds = target_holds defs u is x.0.no_code x.0.no_universal h }),
  λ ne. absurd (ne refl),
)

-- ---- arrays

module _ (defs : List StructDef) (t : Ty) (n : ℕ) where
  abbrev whole : Ty
  whole = ty.Pointer (ty.Array t n)

  abbrev part : Ty
  part = ty.Pointer t

  code_same : is_code_pointer whole ≡ is_code_pointer part
  code_same = code_of whole (ty.Array t n) (target_of_pointer (ty.Array t n)) ∙ code_array t n ∙ sym (code_of part t (target_of_pointer t))

  universal_same : is_universal defs whole ≡ is_universal defs part
  universal_same = universal_of defs whole (ty.Array t n) (target_of_pointer (ty.Array t n)) ∙ open_array defs t n ∙ sym (universal_of defs part t (target_of_pointer t))

  typed_part : IsTyped defs whole → IsTyped defs part
  typed_part x = record { no_code = sym code_same ∙ x.no_code; no_universal = sym universal_same ∙ x.no_universal }

  typed_whole : IsTyped defs part → IsTyped defs whole
  typed_whole x = record { no_code = code_same ∙ x.no_code; no_universal = universal_same ∙ x.no_universal }

  holder_part : PointsToHolder defs whole → PointsToHolder defs part
  holder_part p = record {
    target = t;
    is = target_of_pointer t;
    holds = element_holds defs t (element_of_array t n) (subst (Holds defs) (same_target whole p.target (ty.Array t n) p.is (target_of_pointer (ty.Array t n))) p.holds);
  }

  holder_whole : PointsToHolder defs part → PointsToHolder defs whole
  holder_whole p = record {
    target = ty.Array t n;
    is = target_of_pointer (ty.Array t n);
    holds = array (ty.Array t n) t (element_of_array t n) (subst (Holds defs) (same_target part p.target t p.is (target_of_pointer t)) p.holds);
  }

pub arrays_are_as_their_elements : ArraysAreAsTheirElements
arrays_are_as_their_elements defs t n class.Code = (λ x. sym (code_same defs t n) ∙ x, λ x. code_same defs t n ∙ x)
arrays_are_as_their_elements defs t n class.Universal = (
  λ x. (sym (code_same defs t n) ∙ x.0, sym (universal_same defs t n) ∙ x.1),
  λ x. (code_same defs t n ∙ x.0, universal_same defs t n ∙ x.1),
)
arrays_are_as_their_elements defs t n class.Sensitive = (
  λ x. (typed_part defs t n x.0, holder_part defs t n x.1),
  λ x. (typed_whole defs t n x.0, holder_whole defs t n x.1),
)
arrays_are_as_their_elements defs t n class.Regular = (
  λ x. (typed_part defs t n x.0, λ p. x.1 (holder_whole defs t n p)),
  λ x. (typed_whole defs t n x.0, λ p. x.1 (holder_part defs t n p)),
)

-- ---- structs by a table of classes

module _ (defs : List StructDef) (classes : List Class) (are : AreClasses defs classes) (s : ℕ) where
  abbrev to_struct : Ty
  to_struct = ty.Pointer (ty.Struct s)

  tells_by : (a : Class) → HasClass defs to_struct a → is_universal_class a ≡ has_no_body defs s
  tells_by class.Code x = absurd (both_ways _ (no_code_struct s) x)
  tells_by class.Universal x = sym (sym (universal_struct defs s) ∙ x.1)
  tells_by class.Sensitive x = sym (sym (universal_struct defs s) ∙ x.0.no_universal)
  tells_by class.Regular x = sym (sym (universal_struct defs s) ∙ x.0.no_universal)

  pub tells : is_universal_class (class_at classes s) ≡ has_no_body defs s
  tells = tells_by (class_at classes s) (are s)

  sensitive_by : (a : Class) → HasClass defs to_struct a → a ≡ class.Sensitive → Holds defs (ty.Struct s)
  sensitive_by class.Sensitive x is = subst (Holds defs) (same_target to_struct x.1.target (ty.Struct s) x.1.is (target_of_pointer (ty.Struct s))) x.1.holds
  sensitive_by class.Code x is = absurd (cc)
  sensitive_by class.Universal x is = absurd (cc)
  sensitive_by class.Regular x is = absurd (cc)

  pub sensitive_holds : class_at classes s ≡ class.Sensitive → Holds defs (ty.Struct s)
  sensitive_holds = sensitive_by (class_at classes s) (are s)

  no_body_holds : {t : Ty} → Holds defs t → struct_of t ≡ Some s → has_no_body defs s ≡ true → ⊥
  no_body_holds (code t is) e none = let p = code_points t is in no_struct t p.0 s p.1 e
  no_body_holds (universal t is) e none = let p = universal_points defs t is in no_struct t p.0 s p.1 e
  no_body_holds (pointer t u is h) e none = no_struct t u s is e
  no_body_holds (array t u is h) e none = no_struct_in t u s is e
  no_body_holds (member t n ms m is body there h) e none =
      both_ways _ (ap is_none (subst (λ k. body_of defs k ≡ Some ms) (same_struct t n s is e) body)) none

  holds_by : (a : Class) → HasClass defs to_struct a → Holds defs (ty.Struct s) → a ≡ class.Sensitive
  holds_by class.Code x h = absurd (both_ways _ (no_code_struct s) x)
  holds_by class.Universal x h = absurd (no_body_holds h (struct_of_struct s) (sym (universal_struct defs s) ∙ x.1))
  holds_by class.Sensitive x h = refl
  holds_by class.Regular x h = absurd (x.1 (record { target = ty.Struct s; is = target_of_pointer (ty.Struct s); holds = h }))

  pub holds_sensitive : Holds defs (ty.Struct s) → class_at classes s ≡ class.Sensitive
  holds_sensitive = holds_by (class_at classes s) (are s)

-- ---- what a table tells of a type

module _ (defs : List StructDef) (classes slice : List Class) (t : Ty) (x : Holding) (ensures : (ds : List StructDef) → TellsBodies ds slice → IsHolding ds t x) (same : slice ≡ classes) where
  holding_is : (y : Holding) → x ≡ y → AreClasses defs classes → IsHolding defs t y
  holding_is y e are = subst (IsHolding defs t) e (ensures defs (λ s. ap (λ xs. is_universal_class (class_at xs s)) same ∙ tells defs classes are s))

  pub table_always : x ≡ holding.Always → AreClasses defs classes → Holds defs t
  table_always e are = holding_is holding.Always e are

  pub table_never : x ≡ holding.Never → AreClasses defs classes → Holds defs t → ⊥
  table_never e are = holding_is holding.Never e are

  pub table_yes : (s : ℕ) → x ≡ holding.AsStruct s → class_at classes s ≡ class.Sensitive → AreClasses defs classes → Holds defs t
  table_yes s e is are = reached_holds defs (holding_is (holding.AsStruct s) e are) (sensitive_holds defs classes are s is)

  pub table_no : (s : ℕ) → x ≡ holding.AsStruct s → (class_at classes s ≡ class.Sensitive → ⊥) → AreClasses defs classes → Holds defs t → ⊥
  table_no s e other are h = other (holds_sensitive defs classes are s (holds_reached defs (holding_is (holding.AsStruct s) e are) h))

-- ---- the class of a pointer

module _ (defs : List StructDef) (classes slice : List Class) (u : Ty) (same : slice ≡ classes) (are : AreClasses defs classes) where
  pub code_to : is_code_pointer (ty.Pointer u) ≡ is_code u
  code_to = code_of (ty.Pointer u) u (target_of_pointer u)

  pub universal_to : is_universal defs (ty.Pointer u) ≡ is_open (λ s. is_universal_class (class_at slice s)) u
  universal_to = universal_of defs (ty.Pointer u) u (target_of_pointer u)
      ∙ open_by (has_no_body defs) (λ s. is_universal_class (class_at slice s)) u (λ s. sym (ap (λ xs. is_universal_class (class_at xs s)) same ∙ tells defs classes are s))

  pub points_to : Holds defs u → PointsToHolder defs (ty.Pointer u)
  points_to h = record { target = u; is = target_of_pointer u; holds = h }

  pub pointed_holds : PointsToHolder defs (ty.Pointer u) → Holds defs u
  pointed_holds p = subst (Holds defs) (same_target (ty.Pointer u) p.target u p.is (target_of_pointer u)) p.holds

-- what is no pointer is regular
pub no_pointer : (defs : List StructDef) (t : Ty) → target_of t ≡ None → HasClass defs t class.Regular
no_pointer defs t none = (
  record { no_code = no_code t none; no_universal = no_universal defs t none },
  λ p. let e = p.is in absurd (cc),
)

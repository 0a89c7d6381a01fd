-- Each type has a class, and pointers to what holds are sensitive.
use Rattle.std.proofs.Common.{◌≡◌, ◌∙◌, ◌⊎◌, inl, inr, ℕ, Bool, true, false, List, Contains, Option, Some, None, is_none, refl, sym, ap, subst}
use Rattle.c_types.specs.declared.structs.Member.{Member}
use Rattle.c_types.specs.declared.structs.StructDef.{StructDef}
use Rattle.c_types.specs.declared.ty.Ty.{Ty, roll-Ty, map-Ty, ind-Ty}
use Rattle.c_types.specs.declared.ty.Ty.TheOpen.{Ty-F, FnTy-F}
use Rattle.c_types.specs.declared.ty.Ty.TheVariants as ty
use Rattle.c_types.specs.declared.ty.FnTy.{FnTy, roll-FnTy, map-FnTy}
use Rattle.c_types.specs.Kinds.{target_of}
use Rattle.c_types.specs.Structs.{body_of}
use Rattle.sensitivity.specs.declared.class.Class.{Class}
use Rattle.sensitivity.specs.declared.class.Class.TheVariants as class
use Rattle.sensitivity.specs.Holds.{Holds, array, code, has_no_body, is_code, is_code_pointer, is_open, is_universal, member, pointer, universal}
use Rattle.sensitivity.specs.Classes.{AreClasses, HasClass, class_at}
use Rattle.sensitivity.specs.Theorems.{HoldersAreSensitive, TypesHaveClasses}
use Rattle.sensitivity.proofs.Forms.{code_of, code_pointer, element_of_array, no_code_struct, open_pointer, pointer_is, same_target, struct_of_struct, target_of_pointer, universal_of, universal_struct}
use Rattle.sensitivity.proofs.HoldingByForm.{element_holds, never_char, never_function, never_int, never_void, target_holds}
use Rattle.sensitivity.proofs.ClassLaws.{holds_sensitive, no_pointer, sensitive_holds}

-- ---- whether a type holds is decided, form by form

module _ (defs : List StructDef) (classes : List Class) (are : AreClasses defs classes) where
  abbrev Decides : Ty → Type 0
  Decides t = Holds defs t ⊎ (Holds defs t → ⊥)

  abbrev NoQuestion : FnTy → Type 0
  NoQuestion f = Unit {0}

  abbrev Decided : Type 0
  Decided = (t : Ty) × Decides t

  abbrev Unasked : Type 0
  Unasked = (f : FnTy) × NoQuestion f

  abbrev bare : Ty-F Decided Unasked → Ty-F Ty FnTy
  bare y = map-Ty Decided Unasked Ty FnTy (λ e. e.0) (λ e. e.0) y

  struct_by : (s : ℕ) (a : Class) → class_at classes s ≡ a → Decides (ty.Struct s)
  struct_by s class.Sensitive is = inl (sensitive_holds defs classes are s is)
  struct_by s class.Code is = inr (λ h. let e = holds_sensitive defs classes are s h in cc)
  struct_by s class.Universal is = inr (λ h. let e = holds_sensitive defs classes are s h in cc)
  struct_by s class.Regular is = inr (λ h. let e = holds_sensitive defs classes are s h in cc)

  no_code_to : (t : Ty) → is_code t ≡ false → is_code_pointer (ty.Pointer t) ≡ false
  no_code_to t is = code_of (ty.Pointer t) t (target_of_pointer t) ∙ is

  no_universal_to : (t : Ty) → is_open (has_no_body defs) t ≡ false → is_universal defs (ty.Pointer t) ≡ false
  no_universal_to t is = universal_of defs (ty.Pointer t) t (target_of_pointer t) ∙ is

  pointer_by : (t : Ty) (is_c is_o : Bool) → is_code t ≡ is_c → is_open (has_no_body defs) t ≡ is_o → Decides t → Decides (ty.Pointer t)
  pointer_by t true is_o c o d = inl (code (ty.Pointer t) (code_of (ty.Pointer t) t (target_of_pointer t) ∙ c))
  pointer_by t false true c o d = inl (universal (ty.Pointer t) (universal_of defs (ty.Pointer t) t (target_of_pointer t) ∙ o))
  pointer_by t false false c o (inl h) = inl (pointer (ty.Pointer t) t (target_of_pointer t) h)
  pointer_by t false false c o (inr n) = inr (λ h. n (target_holds defs t (target_of_pointer t) (no_code_to t c) (no_universal_to t o) h))

  array_by : (t : Ty) (n : ℕ) → Decides t → Decides (ty.Array t n)
  array_by t n (inl h) = inl (array (ty.Array t n) t (element_of_array t n) h)
  array_by t n (inr never) = inr (λ h. never (element_holds defs t (element_of_array t n) h))

  decides_by : (y : Ty-F Decided Unasked) → Decides (roll-Ty (bare y))
  decides_by Ty-F.Int = subst Decides (sym ty.rolls-Int) (inr (never_int defs ty.Int refl))
  decides_by Ty-F.Char = subst Decides (sym ty.rolls-Char) (inr (never_char defs ty.Char refl))
  decides_by Ty-F.Void = subst Decides (sym ty.rolls-Void) (inr (never_void defs ty.Void refl))
  decides_by (Ty-F.Struct s) = subst Decides (sym (ty.rolls-Struct s)) (struct_by s (class_at classes s) refl)
  decides_by (Ty-F.Pointer t) = subst Decides (sym (ty.rolls-Pointer t.0)) (pointer_by t.0 (is_code t.0) (is_open (has_no_body defs) t.0) refl refl t.1)
  decides_by (Ty-F.Array t n) = subst Decides (sym (ty.rolls-Array t.0 n)) (array_by t.0 n t.1)
  decides_by (Ty-F.Function f) = subst Decides (sym (ty.rolls-Function f.0)) (inr (never_function defs (ty.Function f.0) f.0 refl))

  decides : (t : Ty) → Decides t
  decides = ind-Ty Decides NoQuestion (λ x y is. subst (λ z. Decides (roll-Ty z)) is (decides_by y)) (λ x y is. tt)

  -- ---- the class of a type

  pointer_class : (t u : Ty) (is_c is_u : Bool) → target_of t ≡ Some u → is_code_pointer t ≡ is_c → is_universal defs t ≡ is_u → Decides u → (a : Class) × HasClass defs t a
  pointer_class t u true is_u is c o d = (class.Code, c)
  pointer_class t u false true is c o d = (class.Universal, (c, o))
  pointer_class t u false false is c o (inl h) = (class.Sensitive, (record { no_code = c; no_universal = o }, record { target = u; is = is; holds = h }))
  pointer_class t u false false is c o (inr n) = (class.Regular, (record { no_code = c; no_universal = o }, λ p. n (subst (Holds defs) (same_target t p.target u p.is is) p.holds)))

  class_by_target : (t : Ty) (o : Option Ty) → target_of t ≡ o → (a : Class) × HasClass defs t a
  class_by_target t None is = (class.Regular, no_pointer defs t is)
  class_by_target t (Some u) is = pointer_class t u (is_code_pointer t) (is_universal defs t) is refl refl (decides u)

pub types_have_classes : TypesHaveClasses
types_have_classes defs classes are t = class_by_target defs classes are t (target_of t) refl

-- ---- what points to holders

to_pointer : (defs : List StructDef) (t u : Ty) → t ≡ ty.Pointer u → Holds defs t → HasClass defs (ty.Pointer t) class.Sensitive
to_pointer defs t u is h = (
  record {
    no_code = code_of (ty.Pointer t) t (target_of_pointer t) ∙ ap is_code is ∙ code_pointer u;
    no_universal = universal_of defs (ty.Pointer t) t (target_of_pointer t) ∙ ap (is_open (has_no_body defs)) is ∙ open_pointer defs u;
  },
  record { target = t; is = target_of_pointer t; holds = h },
)

pub holders_are_sensitive : HoldersAreSensitive
holders_are_sensitive = record {
  pointer = λ defs t u is h. to_pointer defs t u (pointer_is t u is) h;
  member = λ defs s ms m body contains h. (
    record { no_code = no_code_struct s; no_universal = universal_struct defs s ∙ ap is_none body },
    record { target = ty.Struct s; is = target_of_pointer (ty.Struct s); holds = member (ty.Struct s) s ms m (struct_of_struct s) body contains h },
  );
}

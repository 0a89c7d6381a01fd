-- What the question whether a type holds comes to, by its form.
use Rattle.std.proofs.Common.{◌≡◌, ◌∙◌, ◌⊎◌, inl, inr, ℕ, Bool, false, List, Option, Some, None, refl, sym, ap, subst}
use Rattle.std.proofs.lemmas.Bool.{both_ways}
use Rattle.c_types.specs.declared.structs.StructDef.{StructDef}
use Rattle.c_types.specs.declared.ty.Ty.{Ty, out-Ty}
use Rattle.c_types.specs.declared.ty.Ty.TheOpen.{Ty-F}
use Rattle.c_types.specs.declared.ty.FnTy.{FnTy}
use Rattle.c_types.specs.declared.ty.Ty.TheVariants as ty
use Rattle.c_types.specs.Kinds.{element_at, element_of, struct_at, struct_of, target_at, target_of}
use Rattle.sensitivity.specs.declared.holding.Holding.{Holding}
use Rattle.sensitivity.specs.declared.holding.Holding.TheVariants as holding
use Rattle.sensitivity.specs.Holds.{Holds, array, code, is_code_pointer, is_open, is_universal, member, pointer, universal}
use Rattle.sensitivity.specs.inner.Marks.{IsHolding, Reaches, behind, here, inside}
use Rattle.sensitivity.proofs.Forms.{code_points, element_of_array, no_element, no_struct, no_struct_in, same_element, same_target, struct_is, struct_of_struct, target_of_pointer, universal_points}

module _ (defs : List StructDef) where
  -- ---- types of no part

  some_none : {A : Type 0} {o : Option A} {x : A} → o ≡ Some x → o ≡ None → ⊥
  some_none some none = absurd (cc)

  pub never : {t : Ty} → target_of t ≡ None → element_of t ≡ None → struct_of t ≡ None → Holds defs t → ⊥
  never no_target no_elem no_str (code t is) = some_none (code_points t is).1 no_target
  never no_target no_elem no_str (universal t is) = some_none (universal_points defs t is).1 no_target
  never no_target no_elem no_str (pointer t u is h) = some_none is no_target
  never no_target no_elem no_str (array t e is h) = some_none is no_elem
  never no_target no_elem no_str (member t s ms m is body there h) = some_none is no_str

  -- ---- what is held by a part

  pub element_holds : {t : Ty} (e : Ty) → element_of t ≡ Some e → Holds defs t → Holds defs e
  element_holds e el (code t is) = let p = code_points t is in absurd (no_element t p.0 e p.1 el)
  element_holds e el (universal t is) = let p = universal_points defs t is in absurd (no_element t p.0 e p.1 el)
  element_holds e el (pointer t u is h) = absurd (no_element t u e is el)
  element_holds e el (array t f is h) = subst (Holds defs) (same_element t f e is el) h
  element_holds e el (member t s ms m is body there h) = absurd (no_struct_in t e s el is)

  pub target_holds : {t : Ty} (u : Ty) → target_of t ≡ Some u → is_code_pointer t ≡ false → is_universal defs t ≡ false → Holds defs t → Holds defs u
  target_holds u tgt nc nu (code t is) = absurd (both_ways _ nc is)
  target_holds u tgt nc nu (universal t is) = absurd (both_ways _ nu is)
  target_holds u tgt nc nu (pointer t v is h) = subst (Holds defs) (same_target t v u is tgt) h
  target_holds u tgt nc nu (array t e is h) = absurd (no_element t u e tgt is)
  target_holds u tgt nc nu (member t s ms m is body there h) = absurd (no_struct t u s tgt is)

  pub holding_element : (t e : Ty) (x : Holding) → element_of t ≡ Some e → IsHolding defs e x → IsHolding defs t x
  holding_element t e holding.Always is h = array t e is h
  holding_element t e holding.Never is h = λ k. h (element_holds e is k)
  holding_element t e (holding.AsStruct s) is h = inside t e s is h

  pub holding_target : (t u : Ty) (x : Holding) → target_of t ≡ Some u → is_code_pointer t ≡ false → is_universal defs t ≡ false → IsHolding defs u x → IsHolding defs t x
  holding_target t u holding.Always is nc nu h = pointer t u is h
  holding_target t u holding.Never is nc nu h = λ k. h (target_holds u is nc nu k)
  holding_target t u (holding.AsStruct s) is nc nu h = behind t u s is nc nu h

  -- ---- what reaches a struct holds exactly where it does

  pub reached_holds : {t : Ty} {s : ℕ} → Reaches defs t s → Holds defs (ty.Struct s) → Holds defs t
  reached_holds (here t s is) h = subst (Holds defs) (sym (struct_is t s is)) h
  reached_holds (behind t u s is nc nu r) h = pointer t u is (reached_holds r h)
  reached_holds (inside t e s is r) h = array t e is (reached_holds r h)

  pub holds_reached : {t : Ty} {s : ℕ} → Reaches defs t s → Holds defs t → Holds defs (ty.Struct s)
  holds_reached (here t s is) h = subst (Holds defs) (struct_is t s is) h
  holds_reached (behind t u s is nc nu r) h = holds_reached r (target_holds u is nc nu h)
  holds_reached (inside t e s is r) h = holds_reached r (element_holds e is h)

-- ---- forms as the code meets them

pub element_is : (t e : Ty) (n : ℕ) → t ≡ ty.Array e n → element_of t ≡ Some e
element_is t e n is = ap element_of is ∙ element_of_array e n

pub target_is : (t u : Ty) → t ≡ ty.Pointer u → target_of t ≡ Some u
target_is t u is = ap target_of is ∙ target_of_pointer u

pub struct_of_is : (t : Ty) (s : ℕ) → t ≡ ty.Struct s → struct_of t ≡ Some s
struct_of_is t s is = ap struct_of is ∙ struct_of_struct s

-- where tables agree on which structs have no body, they agree on what is open
pub open_by : (f g : ℕ → Bool) (t : Ty) → ((s : ℕ) → f s ≡ g s) → is_open f t ≡ is_open g t
open_by f g t same = ap (λ (h : ℕ → Bool). is_open h t) (λ i s. same s i)

-- of a type with no part
never_outer : (defs : List StructDef) (t : Ty) (y : Ty-F Ty FnTy) → out-Ty t ≡ y → target_at y ≡ None → element_at y ≡ None → struct_at y ≡ None → Holds defs t → ⊥
unfolding target_of element_of struct_of
never_outer defs t y is a b c h = never defs (ap target_at is ∙ a) (ap element_at is ∙ b) (ap struct_at is ∙ c) h

pub never_int : (defs : List StructDef) (t : Ty) → t ≡ ty.Int → Holds defs t → ⊥
never_int defs t is = never_outer defs t Ty-F.Int (ap out-Ty is ∙ ty.outs-Int) refl refl refl

pub never_char : (defs : List StructDef) (t : Ty) → t ≡ ty.Char → Holds defs t → ⊥
never_char defs t is = never_outer defs t Ty-F.Char (ap out-Ty is ∙ ty.outs-Char) refl refl refl

pub never_void : (defs : List StructDef) (t : Ty) → t ≡ ty.Void → Holds defs t → ⊥
never_void defs t is = never_outer defs t Ty-F.Void (ap out-Ty is ∙ ty.outs-Void) refl refl refl

pub never_function : (defs : List StructDef) (t : Ty) (f : FnTy) → t ≡ ty.Function f → Holds defs t → ⊥
never_function defs t f is = never_outer defs t (Ty-F.Function f) (ap out-Ty is ∙ ty.outs-Function f) refl refl refl

pub never_plain : (defs : List StructDef) (t : Ty) → (t ≡ ty.Int) ⊎ ((t ≡ ty.Char) ⊎ ((t ≡ ty.Void) ⊎ ((f : FnTy) × (t ≡ ty.Function f)))) → Holds defs t → ⊥
never_plain defs t (inl is) = never_int defs t is
never_plain defs t (inr (inl is)) = never_char defs t is
never_plain defs t (inr (inr (inl is))) = never_void defs t is
never_plain defs t (inr (inr (inr is))) = never_function defs t is.0 is.1

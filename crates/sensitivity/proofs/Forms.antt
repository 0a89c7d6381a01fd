-- The forms of types: what each points to, has as element, or names, and no two at once.
use Rattle.std.proofs.Common.{◌≡◌, ◌∙◌, ℕ, Bool, true, false, IsTrue, List, Option, Some, None, refl, sym, ap}
use Rattle.std.proofs.lemmas.Option.{same_Some}
use Rattle.c_types.specs.declared.structs.StructDef.{StructDef}
use Rattle.c_types.specs.declared.ty.Ty.{Ty, fold-roll-Ty, out-Ty, roll-Ty, roll-out-Ty}
use Rattle.c_types.specs.declared.ty.Ty.TheOpen.{Ty-F}
use Rattle.c_types.specs.declared.ty.Ty.TheVariants as ty
use Rattle.c_types.specs.declared.ty.FnTy.{FnTy}
use Rattle.c_types.specs.Kinds.{element_at, element_of, passes, struct_at, struct_of, target_at, target_of}
use Rattle.sensitivity.specs.Holds.{code_step, has_no_body, is_code, is_code_pointer, is_open, is_universal, open_step}

abbrev Outer : Type 0
Outer = Ty-F Ty FnTy

no_element_at : (y : Outer) (u e : Ty) → target_at y ≡ Some u → element_at y ≡ Some e → ⊥
no_element_at (Ty-F.Pointer t) u e p q = absurd (cc)
no_element_at _ u e p q = absurd (cc)

no_struct_at : (y : Outer) (u : Ty) (s : ℕ) → target_at y ≡ Some u → struct_at y ≡ Some s → ⊥
no_struct_at (Ty-F.Pointer t) u s p q = absurd (cc)
no_struct_at _ u s p q = absurd (cc)

no_struct_in_at : (y : Outer) (e : Ty) (s : ℕ) → element_at y ≡ Some e → struct_at y ≡ Some s → ⊥
no_struct_in_at (Ty-F.Array t n) e s p q = absurd (cc)
no_struct_in_at _ e s p q = absurd (cc)

struct_is_at : (y : Outer) (s : ℕ) → struct_at y ≡ Some s → y ≡ Ty-F.Struct s
struct_is_at (Ty-F.Struct t) s is = ap Ty-F.Struct (same_Some t s is)
struct_is_at _ s is = absurd (cc)

pub no_element : (t u e : Ty) → target_of t ≡ Some u → element_of t ≡ Some e → ⊥
unfolding target_of element_of
no_element t u e p q = no_element_at (out-Ty t) u e p q

pub no_struct : (t u : Ty) (s : ℕ) → target_of t ≡ Some u → struct_of t ≡ Some s → ⊥
unfolding target_of struct_of
no_struct t u s p q = no_struct_at (out-Ty t) u s p q

pub no_struct_in : (t e : Ty) (s : ℕ) → element_of t ≡ Some e → struct_of t ≡ Some s → ⊥
unfolding element_of struct_of
no_struct_in t e s p q = no_struct_in_at (out-Ty t) e s p q

pub struct_is : (t : Ty) (s : ℕ) → struct_of t ≡ Some s → t ≡ ty.Struct s
unfolding struct_of
struct_is t s is = sym (roll-out-Ty t) ∙ ap roll-Ty (struct_is_at (out-Ty t) s is ∙ sym (ty.outs-Struct s)) ∙ roll-out-Ty (ty.Struct s)

pub struct_of_struct : (s : ℕ) → struct_of (ty.Struct s) ≡ Some s
unfolding struct_of
struct_of_struct s = ap struct_at (ty.outs-Struct s)

pub target_of_pointer : (t : Ty) → target_of (ty.Pointer t) ≡ Some t
unfolding target_of
target_of_pointer t = ap target_at (ty.outs-Pointer t)

pub element_of_array : (t : Ty) (n : ℕ) → element_of (ty.Array t n) ≡ Some t
unfolding element_of
element_of_array t n = ap element_at (ty.outs-Array t n)

pub same_target : (t u v : Ty) → target_of t ≡ Some u → target_of t ≡ Some v → u ≡ v
same_target t u v p q = same_Some u v (sym p ∙ q)

pub same_element : (t u v : Ty) → element_of t ≡ Some u → element_of t ≡ Some v → u ≡ v
same_element t u v p q = same_Some u v (sym p ∙ q)

pub same_struct : (t : Ty) (m n : ℕ) → struct_of t ≡ Some m → struct_of t ≡ Some n → m ≡ n
same_struct t m n p q = same_Some m n (sym p ∙ q)

-- what passes is there
pub passed : (test : Ty → Bool) (o : Option Ty) → passes test o ≡ true → (u : Ty) × (o ≡ Some u)
passed test None is = absurd (cc)
passed test (Some u) is = (u, refl)

pub code_points : (t : Ty) → IsTrue (is_code_pointer t) → (u : Ty) × (target_of t ≡ Some u)
unfolding is_code_pointer
code_points t is = passed is_code (target_of t) is

pub universal_points : (defs : List StructDef) (t : Ty) → IsTrue (is_universal defs t) → (u : Ty) × (target_of t ≡ Some u)
unfolding is_universal
universal_points defs t is = passed (is_open (has_no_body defs)) (target_of t) is

pub code_of : (t u : Ty) → target_of t ≡ Some u → is_code_pointer t ≡ is_code u
unfolding is_code_pointer
code_of t u is = ap (passes is_code) is

pub universal_of : (defs : List StructDef) (t u : Ty) → target_of t ≡ Some u → is_universal defs t ≡ is_open (has_no_body defs) u
unfolding is_universal
universal_of defs t u is = ap (passes (is_open (has_no_body defs))) is

pub no_code : (t : Ty) → target_of t ≡ None → is_code_pointer t ≡ false
unfolding is_code_pointer
no_code t is = ap (passes is_code) is

pub no_universal : (defs : List StructDef) (t : Ty) → target_of t ≡ None → is_universal defs t ≡ false
unfolding is_universal
no_universal defs t is = ap (passes (is_open (has_no_body defs))) is

-- ---- structs and arrays

code_struct : (s : ℕ) → is_code (ty.Struct s) ≡ false
unfolding is_code roll-Ty denote.Hole.Carrier.roll
code_struct s = fold-roll-Ty Bool Bool code_step (λ f. false) (Ty-F.Struct s)

open_struct : (defs : List StructDef) (s : ℕ) → is_open (has_no_body defs) (ty.Struct s) ≡ has_no_body defs s
unfolding is_open roll-Ty denote.Hole.Carrier.roll
open_struct defs s = fold-roll-Ty Bool Bool (open_step (has_no_body defs)) (λ f. false) (Ty-F.Struct s)

pub code_array : (t : Ty) (n : ℕ) → is_code (ty.Array t n) ≡ is_code t
unfolding is_code roll-Ty denote.Hole.Carrier.roll
code_array t n = fold-roll-Ty Bool Bool code_step (λ f. false) (Ty-F.Array t n)

pub open_array : (defs : List StructDef) (t : Ty) (n : ℕ) → is_open (has_no_body defs) (ty.Array t n) ≡ is_open (has_no_body defs) t
unfolding is_open roll-Ty denote.Hole.Carrier.roll
open_array defs t n = fold-roll-Ty Bool Bool (open_step (has_no_body defs)) (λ f. false) (Ty-F.Array t n)

pub code_pointer : (t : Ty) → is_code (ty.Pointer t) ≡ false
unfolding is_code roll-Ty denote.Hole.Carrier.roll
code_pointer t = fold-roll-Ty Bool Bool code_step (λ f. false) (Ty-F.Pointer t)

pub open_pointer : (defs : List StructDef) (t : Ty) → is_open (has_no_body defs) (ty.Pointer t) ≡ false
unfolding is_open roll-Ty denote.Hole.Carrier.roll
open_pointer defs t = fold-roll-Ty Bool Bool (open_step (has_no_body defs)) (λ f. false) (Ty-F.Pointer t)

pointer_is_at : (y : Outer) (u : Ty) → target_at y ≡ Some u → y ≡ Ty-F.Pointer u
pointer_is_at (Ty-F.Pointer t) u is = ap Ty-F.Pointer (same_Some t u is)
pointer_is_at _ u is = absurd (cc)

pub pointer_is : (t u : Ty) → target_of t ≡ Some u → t ≡ ty.Pointer u
unfolding target_of
pointer_is t u is = sym (roll-out-Ty t) ∙ ap roll-Ty (pointer_is_at (out-Ty t) u is ∙ sym (ty.outs-Pointer u)) ∙ roll-out-Ty (ty.Pointer u)

pub no_code_struct : (s : ℕ) → is_code_pointer (ty.Pointer (ty.Struct s)) ≡ false
no_code_struct s = code_of (ty.Pointer (ty.Struct s)) (ty.Struct s) (target_of_pointer (ty.Struct s)) ∙ code_struct s

pub universal_struct : (defs : List StructDef) (s : ℕ) → is_universal defs (ty.Pointer (ty.Struct s)) ≡ has_no_body defs s
universal_struct defs s = universal_of defs (ty.Pointer (ty.Struct s)) (ty.Struct s) (target_of_pointer (ty.Struct s)) ∙ open_struct defs s

no_target_at : (t : Ty) (y : Outer) → out-Ty t ≡ y → ((u : Ty) → t ≡ ty.Pointer u → ⊥) → target_at y ≡ None
no_target_at t (Ty-F.Pointer u) e other = absurd (other u (sym (roll-out-Ty t) ∙ ap roll-Ty (e ∙ sym (ty.outs-Pointer u)) ∙ roll-out-Ty (ty.Pointer u)))
no_target_at t _ e other = refl

-- what is no pointer points to nothing
pub no_target : (t : Ty) → ((u : Ty) → t ≡ ty.Pointer u → ⊥) → target_of t ≡ None
unfolding target_of
no_target t other = no_target_at t (out-Ty t) refl other

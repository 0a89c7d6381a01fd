-- When the types of two functions are the same, and when a thread can begin in a function.
use Rattle.std.proofs.Common.{◌≡◌, ◌≢◌, Bool, true, false, List, [], ◌∷◌, length, slice_index_or, ◌&&◌, refl, sym, ap, ◌∙◌, arith}
use Rattle.c_types.specs.declared.ty.Ty.{Ty, out-Ty, roll-Ty, out-roll-Ty, map-Ty, fold-roll-Ty}
use Rattle.c_types.specs.declared.ty.Ty.TheOpen.{Ty-F, FnTy-F}
use Rattle.c_types.specs.declared.ty.Ty.TheVariants as ty
use Rattle.c_types.specs.declared.ty.FnTy.{FnTy, out-FnTy, roll-FnTy, map-FnTy, fold-roll-FnTy}
use Rattle.c_types.specs.Same.{Test, agree, same, same_function, same_at, same_step, same_function_step}
use Rattle.c_types.specs.Kinds.{is_void, is_void_at, is_void_pointer, passes, target_at, target_of}
use Rattle.core_ir.specs.Typed.{start_type, void_pointer}

same_rolled : (y : Ty-F Ty FnTy) (u : Ty) → same (roll-Ty y) u ≡ same_at (map-Ty Ty FnTy (Test Ty) (Test FnTy) same same_function y) (out-Ty u)
unfolding same same_function
same_rolled y u = ap (λ (p : Test Ty). p u) (fold-roll-Ty (Test Ty) (Test FnTy) same_step same_function_step y)

same_function_rolled : (y : FnTy-F Ty FnTy) (g : FnTy) → same_function (roll-FnTy y) g ≡ same_function_step (map-FnTy Ty FnTy (Test Ty) (Test FnTy) same same_function y) g
unfolding same same_function
same_function_rolled y g = ap (λ (p : Test FnTy). p g) (fold-roll-FnTy (Test Ty) (Test FnTy) same_step same_function_step y)

pub function_types_are_same : (f g : FnTy) → same (ty.Function f) (ty.Function g) ≡ same_function f g
unfolding roll-Ty out-Ty same_function denote.Hole.Carrier.roll
function_types_are_same f g =
    same_rolled (Ty-F.Function f) (ty.Function g)
    ∙ ap (same_at (Ty-F.Function (same_function f))) (out-roll-Ty (Ty-F.Function g))

void_at : (y : Ty-F Ty FnTy) → same_at Ty-F.Void y ≡ is_void_at y
void_at Ty-F.Int = refl
void_at Ty-F.Char = refl
void_at Ty-F.Void = refl
void_at (Ty-F.Struct n) = refl
void_at (Ty-F.Pointer t) = refl
void_at (Ty-F.Array t n) = refl
void_at (Ty-F.Function f) = refl

void_is_same : (u : Ty) → same ty.Void u ≡ is_void u
unfolding is_void roll-Ty same out-Ty denote.Hole.Carrier.roll
void_is_same u = same_rolled Ty-F.Void u ∙ void_at (out-Ty u)

pointer_at : (y : Ty-F Ty FnTy) → same_at (Ty-F.Pointer (same ty.Void)) y ≡ passes is_void (target_at y)
pointer_at Ty-F.Int = refl
pointer_at Ty-F.Char = refl
pointer_at Ty-F.Void = refl
pointer_at (Ty-F.Struct n) = refl
pointer_at (Ty-F.Pointer t) = void_is_same t
pointer_at (Ty-F.Array t n) = refl
pointer_at (Ty-F.Function f) = refl

pub void_pointers_are_same : (u : Ty) → same void_pointer u ≡ is_void_pointer u
unfolding is_void_pointer target_of roll-Ty same out-Ty denote.Hole.Carrier.roll
void_pointers_are_same u = same_rolled (Ty-F.Pointer ty.Void) u ∙ pointer_at (out-Ty u)

and_true : (b : Bool) → (b && true) ≡ b
and_true true = refl
and_true false = refl

and_false : (b : Bool) → (b && false) ≡ false
and_false true = refl
and_false false = refl

-- one parameter alone
pub one_void_pointer :
    (us : List Ty) (u : Ty)
    → length us ≡ 1
    → u ≡ slice_index_or us 0 u
    → agree (same void_pointer ∷ []) us ≡ is_void_pointer u
one_void_pointer [] u one is = absurd (omega arith)
one_void_pointer (t ∷ []) u one is = and_true (same void_pointer t) ∙ ap (same void_pointer) (sym is) ∙ void_pointers_are_same u
one_void_pointer (t ∷ s ∷ us) u one is = absurd (omega arith)

pub other_parameters : (us : List Ty) → length us ≢ 1 → agree (same void_pointer ∷ []) us ≡ false
other_parameters [] other = refl
other_parameters (t ∷ []) other = absurd (other refl)
other_parameters (t ∷ s ∷ us) other = and_false (same void_pointer t)

-- the parts of a type that a thread's function has
pub start_types_are_same :
    (t : FnTy)
    → same (ty.Function start_type) (ty.Function t)
    ≡ (is_void (out-FnTy t).result && agree (same void_pointer ∷ []) (out-FnTy t).params)
unfolding roll-Ty same out-Ty denote.Hole.Carrier.roll
start_types_are_same t =
    function_types_are_same start_type t
    ∙ same_function_rolled (record { result = ty.Void; params = void_pointer ∷ [] }) t
    ∙ ap (λ (b : Bool). b && agree (same void_pointer ∷ []) (out-FnTy t).params) (void_is_same (out-FnTy t).result)

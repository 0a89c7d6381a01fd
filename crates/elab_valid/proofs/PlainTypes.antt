-- Types that are the same up to `char` and outer arrays.
use Rattle.std.proofs.Common.{◌≡◌, ◌∙◌, ℕ, true, refl, ap, sym}
use Rattle.c_types.specs.declared.ty.FnTy.{FnTy}
use Rattle.c_types.specs.declared.ty.Ty.{Ty, fold-Ty, fold-roll-Ty, out-Ty, roll-Ty, roll-out-Ty}
use Rattle.c_types.specs.declared.ty.Ty.TheOpen.{Ty-F}
use Rattle.c_types.specs.declared.ty.Ty.TheVariants as ty
use Rattle.c_types.specs.Kinds.{Outer, is_integer, is_integer_at}
use Rattle.core_ir.specs.Typed.{element_of, element_step, function_step, plain_at, plain_type}
use Rattle.elab_valid.proofs.TypeKinds.{out-Int, out-Pointer}

plain-pointer : (t : Ty) → plain_type (ty.Pointer t) ≡ ty.Pointer (element_of t)
unfolding plain_type
plain-pointer t = ap (plain_at (ty.Pointer t)) (out-Pointer t)

pub plain-pointers : (t u : Ty) → element_of t ≡ element_of u → plain_type (ty.Pointer t) ≡ plain_type (ty.Pointer u)
plain-pointers t u e = plain-pointer t ∙ ap ty.Pointer e ∙ sym (plain-pointer u)

pub element-array : (t : Ty) (n : ℕ) → element_of (ty.Array t n) ≡ element_of t
unfolding element_of
element-array t n =
    ap (λ z. z.1) (ap (fold-Ty (Ty × Ty) FnTy element_step function_step) (sym (ty.rolls-Array t n)) ∙ fold-roll-Ty (Ty × Ty) FnTy element_step function_step (Ty-F.Array t n))

pub plain-Int : plain_type ty.Int ≡ ty.Int
unfolding plain_type
plain-Int = ap (plain_at ty.Int) out-Int

integer_at : (t : Ty) (o : Outer) → out-Ty t ≡ o → is_integer_at o ≡ true → plain_at t o ≡ ty.Int
integer_at t Ty-F.Int e h = sym (roll-out-Ty t) ∙ ap roll-Ty e ∙ ty.rolls-Int
integer_at t Ty-F.Char e h = refl
integer_at t Ty-F.Void e h = cc
integer_at t (Ty-F.Struct s) e h = cc
integer_at t (Ty-F.Pointer u) e h = cc
integer_at t (Ty-F.Array u n) e h = cc
integer_at t (Ty-F.Function f) e h = cc

-- each integer type is `int`
pub plain-integer : (t : Ty) → is_integer t ≡ true → plain_type ty.Int ≡ plain_type t
unfolding plain_type is_integer
plain-integer t h = plain-Int ∙ sym (integer_at t (out-Ty t) refl h)

-- Kinds of types: what a value's type tells of its expression's, and what converts to what.
use Rattle.std.proofs.Common.{◌≡◌, ◌∙◌, ℕ, Bool, true, false, not, ◌&&◌, ◌||◌, ◌⊎◌, inl, inr, List, length, Option, Some, None, is_some, refl, ap, sym, subst, ⊎_elim, is_ok, ok_or}
use Rattle.c_types.specs.declared.error.LayoutRefusal.TheVariants.{Incomplete}
use Rattle.c_types.specs.declared.structs.StructDef.{StructDef}
use Rattle.c_types.specs.declared.ty.FnTy.{FnTy, fold-FnTy}
use Rattle.c_types.specs.declared.ty.Ty.{Ty, out-Ty, out-roll-Ty, map-Ty, fold_out-Ty}
use Rattle.c_types.specs.declared.ty.Ty.TheOpen.{Ty-F}
use Rattle.c_types.specs.declared.ty.Ty.TheVariants as ty
use Rattle.c_types.specs.Kinds.{Outer, decay, decay_at, is_array, is_function, is_function_at, is_integer, is_integer_at, is_object_pointer, is_pointer, is_scalar, is_scalar_at, is_struct, is_void, is_void_at, is_void_pointer, passes, struct_at, struct_of, target_at, target_of, element_at, element_of}
use Rattle.c_types.specs.Same.{same}
use Rattle.c_types.specs.Theorems.{SameIsEquality}
use Rattle.c_types.specs.Units.{exact_units, has_units, limited, sized, sized_step, struct_units, units_of}
use Rattle.c_typed.specs.declared.entity.Constant.{Constant}
use Rattle.c_typed.specs.declared.entity.Constant.TheVariants as constant
use Rattle.c_operators.specs.Operators.{is_zero_constant, type_converts}

-- ---- Booleans

pub four : (a b c d : Bool) → (a || b || c || d) ≡ true → (a ≡ true) ⊎ ((b ≡ true) ⊎ ((c ≡ true) ⊎ (d ≡ true)))
four true b c d h = inl refl
four false true c d h = inr (inl refl)
four false false true d h = inr (inr (inl refl))
four false false false true h = inr (inr (inr refl))
four false false false false h = cc

pub either : (a b : Bool) → (a || b) ≡ true → (a ≡ true) ⊎ (b ≡ true)
either true b h = inl refl
either false b h = inr h

pub first : (a b : Bool) → (a && b) ≡ true → a ≡ true
first true b h = refl
first false b h = cc

pub second : (a b : Bool) → (a && b) ≡ true → b ≡ true
second true b h = h
second false b h = cc

passes_some : {A : Type 0} (test : A → Bool) (o : Option A) → passes test o ≡ true → is_some o ≡ true
passes_some test None h = cc
passes_some test (Some a) h = refl

-- ---- what a type becomes as a value

pub out-Pointer : (t : Ty) → out-Ty (ty.Pointer t) ≡ Ty-F.Pointer t
out-Pointer t = ap out-Ty (sym (ty.rolls-Pointer t)) ∙ out-roll-Ty (Ty-F.Pointer t)

pub out-Function : (f : FnTy) → out-Ty (ty.Function f) ≡ Ty-F.Function f
out-Function f = ap out-Ty (sym (ty.rolls-Function f)) ∙ out-roll-Ty (Ty-F.Function f)

pub out-Array : (t : Ty) (n : ℕ) → out-Ty (ty.Array t n) ≡ Ty-F.Array t n
out-Array t n = ap out-Ty (sym (ty.rolls-Array t n)) ∙ out-roll-Ty (Ty-F.Array t n)

pub out-Struct : (s : ℕ) → out-Ty (ty.Struct s) ≡ Ty-F.Struct s
out-Struct s = ap out-Ty (sym (ty.rolls-Struct s)) ∙ out-roll-Ty (Ty-F.Struct s)

pub out-Int : out-Ty ty.Int ≡ Ty-F.Int
out-Int = ap out-Ty (sym ty.rolls-Int) ∙ out-roll-Ty Ty-F.Int

pub out-Void : out-Ty ty.Void ≡ Ty-F.Void
out-Void = ap out-Ty (sym ty.rolls-Void) ∙ out-roll-Ty Ty-F.Void

abbrev pub decayed : Ty → Outer → Outer
decayed t (Ty-F.Array e n) = Ty-F.Pointer e
decayed t (Ty-F.Function f) = Ty-F.Pointer t
decayed t o = o

out-decay_at : (t : Ty) (o : Outer) → out-Ty t ≡ o → out-Ty (decay_at t o) ≡ decayed t o
out-decay_at t Ty-F.Int e = e
out-decay_at t Ty-F.Char e = e
out-decay_at t Ty-F.Void e = e
out-decay_at t (Ty-F.Struct s) e = e
out-decay_at t (Ty-F.Pointer u) e = e
out-decay_at t (Ty-F.Array u n) e = out-Pointer u
out-decay_at t (Ty-F.Function f) e = out-Pointer t

pub out-decay : (t : Ty) → out-Ty (decay t) ≡ decayed t (out-Ty t)
unfolding decay
out-decay t = out-decay_at t (out-Ty t) refl

-- ---- scalars

nonvoid_at : (t : Ty) (o : Outer) → is_scalar_at (decayed t o) ≡ true → is_void_at o ≡ false
nonvoid_at t Ty-F.Int h = refl
nonvoid_at t Ty-F.Char h = refl
nonvoid_at t Ty-F.Void h = cc
nonvoid_at t (Ty-F.Struct s) h = refl
nonvoid_at t (Ty-F.Pointer u) h = refl
nonvoid_at t (Ty-F.Array u n) h = refl
nonvoid_at t (Ty-F.Function f) h = refl

-- an expression whose value is a scalar isn't `void`
pub scalar_value-nonvoid : (t : Ty) → is_scalar (decay t) ≡ true → is_void t ≡ false
unfolding is_scalar is_void
scalar_value-nonvoid t h = nonvoid_at t (out-Ty t) (subst (λ o. is_scalar_at o ≡ true) (out-decay t) h)

integer_at : (o : Outer) → is_integer_at o ≡ true → is_scalar_at o ≡ true
integer_at Ty-F.Int h = refl
integer_at Ty-F.Char h = refl
integer_at Ty-F.Void h = cc
integer_at (Ty-F.Struct s) h = cc
integer_at (Ty-F.Pointer u) h = cc
integer_at (Ty-F.Array u n) h = cc
integer_at (Ty-F.Function f) h = cc

pub integer-scalar : (t : Ty) → is_integer t ≡ true → is_scalar t ≡ true
unfolding is_integer is_scalar
integer-scalar t h = integer_at (out-Ty t) h

pointer_at : (o : Outer) → is_some (target_at o) ≡ true → is_scalar_at o ≡ true
pointer_at Ty-F.Int h = cc
pointer_at Ty-F.Char h = cc
pointer_at Ty-F.Void h = cc
pointer_at (Ty-F.Struct s) h = cc
pointer_at (Ty-F.Pointer u) h = refl
pointer_at (Ty-F.Array u n) h = cc
pointer_at (Ty-F.Function f) h = cc

pub pointer-scalar : (t : Ty) → is_pointer t ≡ true → is_scalar t ≡ true
unfolding is_pointer is_scalar target_of
pointer-scalar t h = pointer_at (out-Ty t) h

pub void_pointer-scalar : (t : Ty) → is_void_pointer t ≡ true → is_scalar t ≡ true
unfolding is_void_pointer is_pointer
void_pointer-scalar t h = pointer-scalar t (passes_some is_void (target_of t) h)

pub object_pointer-scalar : (t : Ty) → is_object_pointer t ≡ true → is_scalar t ≡ true
unfolding is_object_pointer is_pointer
object_pointer-scalar t h = pointer-scalar t (passes_some (λ u. not (is_function u)) (target_of t) h)

same_at : (t : Ty) (o : Outer) → is_scalar_at o ≡ true → decay_at t o ≡ t
same_at t Ty-F.Int h = refl
same_at t Ty-F.Char h = refl
same_at t Ty-F.Void h = cc
same_at t (Ty-F.Struct s) h = cc
same_at t (Ty-F.Pointer u) h = refl
same_at t (Ty-F.Array u n) h = cc
same_at t (Ty-F.Function f) h = cc

pub scalar-same : (t : Ty) → is_scalar t ≡ true → decay t ≡ t
unfolding is_scalar decay
scalar-same t h = same_at t (out-Ty t) h

pub scalar-decays : (t : Ty) → is_scalar t ≡ true → is_scalar (decay t) ≡ true
scalar-decays t h = subst (λ u. is_scalar u ≡ true) (sym (scalar-same t h)) h

struct_same_at : (t : Ty) (o : Outer) → is_some (struct_at o) ≡ true → decay_at t o ≡ t
struct_same_at t Ty-F.Int h = refl
struct_same_at t Ty-F.Char h = refl
struct_same_at t Ty-F.Void h = refl
struct_same_at t (Ty-F.Struct s) h = refl
struct_same_at t (Ty-F.Pointer u) h = refl
struct_same_at t (Ty-F.Array u n) h = absurd (cc)
struct_same_at t (Ty-F.Function f) h = absurd (cc)

pub struct-same : (t : Ty) → is_struct t ≡ true → decay t ≡ t
unfolding is_struct decay struct_of
struct-same t h = struct_same_at t (out-Ty t) h

scalar_no_struct_at : (o : Outer) → is_some (struct_at o) ≡ true → is_scalar_at o ≡ false
scalar_no_struct_at Ty-F.Int h = cc
scalar_no_struct_at Ty-F.Char h = cc
scalar_no_struct_at Ty-F.Void h = refl
scalar_no_struct_at (Ty-F.Struct s) h = refl
scalar_no_struct_at (Ty-F.Pointer u) h = cc
scalar_no_struct_at (Ty-F.Array u n) h = refl
scalar_no_struct_at (Ty-F.Function f) h = refl

pub struct-no_scalar : (t : Ty) → is_struct t ≡ true → is_scalar t ≡ false
unfolding is_struct is_scalar struct_of
struct-no_scalar t h = scalar_no_struct_at (out-Ty t) h

no_struct_at : (o : Outer) → is_scalar_at o ≡ true → is_some (struct_at o) ≡ false
no_struct_at Ty-F.Int h = refl
no_struct_at Ty-F.Char h = refl
no_struct_at Ty-F.Void h = refl
no_struct_at (Ty-F.Struct s) h = cc
no_struct_at (Ty-F.Pointer u) h = refl
no_struct_at (Ty-F.Array u n) h = refl
no_struct_at (Ty-F.Function f) h = refl

pub scalar-no_struct : (t : Ty) → is_scalar t ≡ true → is_struct t ≡ false
unfolding is_struct is_scalar struct_of
scalar-no_struct t h = no_struct_at (out-Ty t) h

void_plain_at : (t : Ty) (o : Outer) → is_void_at o ≡ true → (is_some (struct_at o) ≡ false) × (is_some (target_at (decayed t o)) ≡ false)
void_plain_at t Ty-F.Int h = absurd (cc)
void_plain_at t Ty-F.Char h = absurd (cc)
void_plain_at t Ty-F.Void h = (refl, refl)
void_plain_at t (Ty-F.Struct s) h = absurd (cc)
void_plain_at t (Ty-F.Pointer u) h = absurd (cc)
void_plain_at t (Ty-F.Array u n) h = absurd (cc)
void_plain_at t (Ty-F.Function f) h = absurd (cc)

pub void-plain : (t : Ty) → is_void t ≡ true → (is_struct t ≡ false) × (is_pointer (decay t) ≡ false)
unfolding is_void is_struct is_pointer struct_of target_of
void-plain t h = let both = void_plain_at t (out-Ty t) h in (both.0, ap (λ o. is_some (target_at o)) (out-decay t) ∙ both.1)

function_plain_at : (t : Ty) (o : Outer) → is_function_at o ≡ true → (is_some (struct_at o) ≡ false) × (is_some (target_at (decayed t o)) ≡ true)
function_plain_at t Ty-F.Int h = absurd (cc)
function_plain_at t Ty-F.Char h = absurd (cc)
function_plain_at t Ty-F.Void h = absurd (cc)
function_plain_at t (Ty-F.Struct s) h = absurd (cc)
function_plain_at t (Ty-F.Pointer u) h = absurd (cc)
function_plain_at t (Ty-F.Array u n) h = absurd (cc)
function_plain_at t (Ty-F.Function f) h = (refl, refl)

-- a function is no struct, and becomes a pointer
pub function-plain : (t : Ty) → is_function t ≡ true → (is_struct t ≡ false) × (is_pointer (decay t) ≡ true)
unfolding is_function is_struct is_pointer struct_of target_of
function-plain t h = let both = function_plain_at t (out-Ty t) h in (both.0, ap (λ o. is_some (target_at o)) (out-decay t) ∙ both.1)

struct_no_void_at : (o : Outer) → is_some (struct_at o) ≡ true → is_void_at o ≡ false
struct_no_void_at Ty-F.Int h = refl
struct_no_void_at Ty-F.Char h = refl
struct_no_void_at Ty-F.Void h = cc
struct_no_void_at (Ty-F.Struct s) h = refl
struct_no_void_at (Ty-F.Pointer u) h = refl
struct_no_void_at (Ty-F.Array u n) h = refl
struct_no_void_at (Ty-F.Function f) h = refl

pub struct-nonvoid : (t : Ty) → is_struct t ≡ true → is_void t ≡ false
unfolding is_struct is_void struct_of
struct-nonvoid t h = struct_no_void_at (out-Ty t) h

struct_back_at : (t : Ty) (o : Outer) → is_some (struct_at (decayed t o)) ≡ true → decay_at t o ≡ t
struct_back_at t Ty-F.Int h = refl
struct_back_at t Ty-F.Char h = refl
struct_back_at t Ty-F.Void h = refl
struct_back_at t (Ty-F.Struct s) h = refl
struct_back_at t (Ty-F.Pointer u) h = refl
struct_back_at t (Ty-F.Array u n) h = cc
struct_back_at t (Ty-F.Function f) h = cc

-- a value that is a struct has its expression's type
pub struct-back : (t : Ty) → is_struct (decay t) ≡ true → decay t ≡ t
unfolding is_struct decay struct_of
struct-back t h = struct_back_at t (out-Ty t) (subst (λ o. is_some (struct_at o) ≡ true) (out-decay t) h)

-- ---- units

abbrev pub of_struct : List StructDef → ℕ → Option ℕ
of_struct defs = struct_units (length defs) defs

abbrev pub fn_units : List StructDef → FnTy → Option ℕ
fn_units defs = fold-FnTy (Option ℕ) (Option ℕ) (sized_step (of_struct defs)) (λ f. None)

pub exact-out : (defs : List StructDef) (t : Ty) → exact_units defs t ≡ sized_step (of_struct defs) (map-Ty Ty FnTy (Option ℕ) (Option ℕ) (exact_units defs) (fn_units defs) (out-Ty t))
unfolding exact_units sized
exact-out defs t = fold_out-Ty (Option ℕ) (Option ℕ) (sized_step (of_struct defs)) (λ f. None) t

none_at : (defs : List StructDef) (t : Ty) (o : Outer) → out-Ty t ≡ o → (is_void_at o || is_function_at o) ≡ true → exact_units defs t ≡ None
none_at defs t Ty-F.Void e h = exact-out defs t ∙ ap (λ y. sized_step (of_struct defs) (map-Ty Ty FnTy (Option ℕ) (Option ℕ) (exact_units defs) (fn_units defs) y)) e
none_at defs t (Ty-F.Function f) e h = exact-out defs t ∙ ap (λ y. sized_step (of_struct defs) (map-Ty Ty FnTy (Option ℕ) (Option ℕ) (exact_units defs) (fn_units defs) y)) e
none_at defs t Ty-F.Int e h = cc
none_at defs t Ty-F.Char e h = cc
none_at defs t (Ty-F.Struct s) e h = cc
none_at defs t (Ty-F.Pointer u) e h = cc
none_at defs t (Ty-F.Array u n) e h = cc

refused : (o : Option ℕ) → is_ok (limited (ok_or o Incomplete)) ≡ true → o ≡ None → ⊥
refused None h e = cc
refused (Some n) h e = cc

unit_kinds_at : (o : Outer) → ((is_void_at o || is_function_at o) ≡ true → ⊥) → is_some (element_at o) ≡ false → (is_scalar_at o ≡ true) ⊎ (is_some (struct_at o) ≡ true)
unit_kinds_at Ty-F.Int h plain = inl refl
unit_kinds_at Ty-F.Char h plain = inl refl
unit_kinds_at Ty-F.Void h plain = absurd (h refl)
unit_kinds_at (Ty-F.Struct s) h plain = inr refl
unit_kinds_at (Ty-F.Pointer u) h plain = inl refl
unit_kinds_at (Ty-F.Array u n) h plain = absurd (cc)
unit_kinds_at (Ty-F.Function f) h plain = absurd (h refl)

-- a type that has units and is no array is a scalar or a struct
pub unit_kinds : (defs : List StructDef) (t : Ty) → has_units defs t ≡ true → is_array t ≡ false → (is_scalar t ≡ true) ⊎ (is_struct t ≡ true)
unfolding has_units units_of is_scalar is_struct is_array struct_of element_of
unit_kinds defs t h plain = unit_kinds_at (out-Ty t) (λ bad. refused (exact_units defs t) h (none_at defs t (out-Ty t) refl bad)) plain

unit_void_at : (o : Outer) → ((is_void_at o || is_function_at o) ≡ true → ⊥) → (is_void_at o ≡ false) × (is_function_at o ≡ false)
unit_void_at Ty-F.Void h = absurd (h refl)
unit_void_at (Ty-F.Function f) h = absurd (h refl)
unit_void_at Ty-F.Int h = (refl, refl)
unit_void_at Ty-F.Char h = (refl, refl)
unit_void_at (Ty-F.Struct s) h = (refl, refl)
unit_void_at (Ty-F.Pointer u) h = (refl, refl)
unit_void_at (Ty-F.Array u n) h = (refl, refl)

pub unit_object : (defs : List StructDef) (t : Ty) → has_units defs t ≡ true → (is_void t ≡ false) × (is_function t ≡ false)
unfolding has_units units_of is_void is_function
unit_object defs t h = unit_void_at (out-Ty t) (λ bad. refused (exact_units defs t) h (none_at defs t (out-Ty t) refl bad))

-- ---- constants

-- an integer constant expression has an integer type
abbrev pub ConstantFits : Constant → Ty → Type 0
ConstantFits constant.Other t = Unit {0}
ConstantFits constant.Divides t = is_integer t ≡ true
ConstantFits (constant.Value v) t = is_integer t ≡ true

pub zero-integer : (c : Constant) (t : Ty) → ConstantFits c t → is_zero_constant c ≡ true → is_integer t ≡ true
zero-integer constant.Other t fits h = cc
zero-integer constant.Divides t fits h = cc
zero-integer (constant.Value v) t fits h = fits

-- ---- conversions

-- they are the same, or both are scalars
abbrev pub Converts : Ty → Ty → Type 0
Converts from to = (same from to ≡ true) ⊎ ((is_scalar from ≡ true) × (is_scalar to ≡ true))

pub type_converts-split : (from to : Ty) → type_converts from to ≡ true → Converts from to
unfolding type_converts
type_converts-split from to h =
    ⊎_elim (λ s. inl s)
    (⊎_elim (λ i. inr (integer-scalar from (first (is_integer from) (is_integer to) i), integer-scalar to (second (is_integer from) (is_integer to) i)))
    (⊎_elim (λ p. inr (void_pointer-scalar from (first (is_void_pointer from) (is_object_pointer to) p), object_pointer-scalar to (second (is_void_pointer from) (is_object_pointer to) p)))
    (λ p. inr (object_pointer-scalar from (first (is_object_pointer from) (is_void_pointer to) p), void_pointer-scalar to (second (is_object_pointer from) (is_void_pointer to) p)))))
    (four (same from to) (is_integer from && is_integer to) (is_void_pointer from && is_object_pointer to) (is_object_pointer from && is_void_pointer to) h)

-- the same of a value's type, where the value may be a constant 0
pub converts-split : (from to : Ty) (null : Bool) → (null ≡ true → is_scalar from ≡ true) → (type_converts from to || (null && is_pointer to)) ≡ true → Converts from to
converts-split from to null zero h =
    ⊎_elim (λ c. type_converts-split from to c)
    (λ n. inr (zero (first null (is_pointer to) n), pointer-scalar to (second null (is_pointer to) n)))
    (either (type_converts from to) (null && is_pointer to) h)

module _ (equal : SameIsEquality) where
  pub same-equal : (a b : Ty) → same a b ≡ true → a ≡ b
  same-equal a b h = (equal a b).0 h

  -- what converts to a scalar is one
  pub to-scalar : (from to : Ty) → is_scalar to ≡ true → Converts from to → is_scalar from ≡ true
  to-scalar from to s (inl e) = subst (λ t. is_scalar t ≡ true) (sym (same-equal from to e)) s
  to-scalar from to s (inr both) = both.0

  -- what converts to a struct is the same struct
  pub to-struct : (from to : Ty) → is_struct to ≡ true → Converts from to → from ≡ to
  to-struct from to s (inl e) = same-equal from to e
  to-struct from to s (inr both) = absurd (let never : is_scalar to ≡ false = struct-no_scalar to s in let yes : is_scalar to ≡ true = both.1 in cc)

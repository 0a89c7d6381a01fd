-- The kinds of types, and what a type becomes where its value is used.
use Rattle.std.specs.Prelude.{ℕ, Bool, true, false, not, Option, Some, None, is_some}
use Rattle.c_types.specs.declared.ty.Ty.{Ty, out-Ty}
use Rattle.c_types.specs.declared.ty.Ty.TheVariants as ty
use Rattle.c_types.specs.declared.ty.Ty.TheOpen.{Ty-F}
use Rattle.c_types.specs.declared.ty.FnTy.{FnTy}

-- a type with its parts as they are
abbrev pub Outer : Type 0
Outer = Ty-F Ty FnTy

abbrev pub is_integer_at : Outer → Bool
is_integer_at Ty-F.Int = true
is_integer_at Ty-F.Char = true
is_integer_at _ = false

-- `int` and `char`
unfoldable pub is_integer : Ty → Bool
is_integer t = is_integer_at (out-Ty t)

abbrev pub is_scalar_at : Outer → Bool
is_scalar_at Ty-F.Int = true
is_scalar_at Ty-F.Char = true
is_scalar_at (Ty-F.Pointer target) = true
is_scalar_at _ = false

-- integers and pointers
unfoldable pub is_scalar : Ty → Bool
is_scalar t = is_scalar_at (out-Ty t)

abbrev pub is_void_at : Outer → Bool
is_void_at Ty-F.Void = true
is_void_at _ = false

unfoldable pub is_void : Ty → Bool
is_void t = is_void_at (out-Ty t)

abbrev pub is_function_at : Outer → Bool
is_function_at (Ty-F.Function f) = true
is_function_at _ = false

unfoldable pub is_function : Ty → Bool
is_function t = is_function_at (out-Ty t)

abbrev pub decay_at : Ty → Outer → Ty
decay_at t (Ty-F.Array element bound) = ty.Pointer element
decay_at t (Ty-F.Function f) = ty.Pointer t
decay_at t _ = t

-- an array becomes the pointer to its element, a function the pointer to it
unfoldable pub decay : Ty → Ty
decay t = decay_at t (out-Ty t)

abbrev pub is_char_at : Outer → Bool
is_char_at Ty-F.Char = true
is_char_at _ = false

unfoldable pub is_char : Ty → Bool
is_char t = is_char_at (out-Ty t)

abbrev pub target_at : Outer → Option Ty
target_at (Ty-F.Pointer t) = Some t
target_at _ = None

-- what a pointer points to
unfoldable pub target_of : Ty → Option Ty
target_of t = target_at (out-Ty t)

abbrev pub function_at : Outer → Option FnTy
function_at (Ty-F.Function f) = Some f
function_at _ = None

unfoldable pub function_of : Ty → Option FnTy
function_of t = function_at (out-Ty t)

abbrev pub struct_at : Outer → Option ℕ
struct_at (Ty-F.Struct s) = Some s
struct_at _ = None

-- the number of a struct
unfoldable pub struct_of : Ty → Option ℕ
struct_of t = struct_at (out-Ty t)

abbrev pub element_at : Outer → Option Ty
element_at (Ty-F.Array t n) = Some t
element_at _ = None

-- the element of an array
unfoldable pub element_of : Ty → Option Ty
element_of t = element_at (out-Ty t)

abbrev pub bound_at : Outer → Option ℕ
bound_at (Ty-F.Array t n) = Some n
bound_at _ = None

-- the bound of an array
unfoldable pub bound_of : Ty → Option ℕ
bound_of t = bound_at (out-Ty t)

-- there is one, and it passes the test
abbrev pub passes : {A : Type 0} → (A → Bool) → Option A → Bool
passes test None = false
passes test (Some a) = test a

unfoldable pub is_pointer : Ty → Bool
is_pointer t = is_some (target_of t)

unfoldable pub is_void_pointer : Ty → Bool
is_void_pointer t = passes is_void (target_of t)

-- a pointer whose target isn't a function
unfoldable pub is_object_pointer : Ty → Bool
is_object_pointer t = passes (λ u. not (is_function u)) (target_of t)

unfoldable pub is_struct : Ty → Bool
is_struct t = is_some (struct_of t)

unfoldable pub is_array : Ty → Bool
is_array t = is_some (element_of t)

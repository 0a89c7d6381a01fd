-- What holds of the initialiser of a part of this type: each part of it that is given takes what gives it.
use Rattle.std.specs.Prelude.{ℕ, suc, Bool, true, ◌&&◌, if◌then◌else◌, nat_lt, IsTrue, List, [], ◌∷◌, length}
use Rattle.std.specs.Prelude.{Option, Some, None, slice_get}
use Rattle.std.specs.Option.{option_map, option_and_then}
use Rattle.c_types.specs.declared.structs.StructDef.{StructDef}
use Rattle.c_types.specs.declared.ty.Ty.{Ty, out-Ty}
use Rattle.c_types.specs.declared.ty.Ty.TheOpen.{Ty-F}
use Rattle.c_types.specs.Kinds.{Outer, bound_of, element_of, is_char, passes}
use Rattle.c_types.specs.Structs.{body_of}
use Rattle.c_typed.specs.declared.statement.TypedInit.{TypedInit, every-TypedInit, fold-TypedInit}
use Rattle.c_typed.specs.declared.statement.TypedInit.TheOpen.{TypedInit-F}
use Rattle.c_operators.specs.Operators.{converts, takes_value}
use Rattle.c_typed_rows.specs.Contexts.{Context}
use Rattle.c_typed_rows.specs.Expressions.{IsTypedValue}

-- an element that the array has, or a member of the struct
abbrev pub part_at : List StructDef → ℕ → Outer → Option Ty
part_at defs i (Ty-F.Array t n) = if nat_lt i n then Some t else None
part_at defs i (Ty-F.Struct s) = option_map (λ m. m.ty) (option_and_then (λ ms. slice_get ms i) (body_of defs s))
part_at defs i _ = None

-- the type of a part by its number
unfoldable pub part_of : List StructDef → ℕ → Ty → Option Ty
part_of defs i t = part_at defs i (out-Ty t)

-- how many units of a char array a string may fill
unfoldable pub char_bound : Ty → Option ℕ
char_bound t = if passes is_char (element_of t) then bound_of t else None

-- each of these is given to a part of the type, from this one on
abbrev pub parts_fit : List StructDef → Ty → ℕ → List (Ty → Bool) → Bool
parts_fit defs t i [] = true
parts_fit defs t i (p ∷ ps) = passes p (part_of defs i t) && parts_fit defs t (suc i) ps

-- a value converts, a string fits into a char array with a 0 behind it, and braces have no more parts than the type
abbrev pub fits_step : List StructDef → TypedInit-F (Ty → Bool) → Ty → Bool
fits_step defs (TypedInit-F.Expr x) t = takes_value t && converts x t
fits_step defs (TypedInit-F.Text bytes) t = passes (nat_lt (length bytes)) (char_bound t)
fits_step defs (TypedInit-F.Braces parts) t = parts_fit defs t 0 parts

unfoldable pub init_fits : List StructDef → TypedInit → Ty → Bool
init_fits defs = fold-TypedInit (Ty → Bool) (fits_step defs)

-- the expressions in it are typed
abbrev pub InitLevel : Context → TypedInit-F TypedInit → Type 0
InitLevel k (TypedInit-F.Expr x) = IsTypedValue k x
InitLevel k _ = Unit {0}

pub record IsTypedInit (k : Context) (t : Ty) (i : TypedInit) : Type 0 where
  pub fits : IsTrue (init_fits k.structs i t)
  pub levels : every-TypedInit (InitLevel k) i

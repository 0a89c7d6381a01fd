-- The type that a spec and a declarator make. A declarator is a list of layers, read from its name outwards: the
-- suffixes from left to right, then the stars, of the declarator at the name, then of the one around it, and so on.
use Rattle.std.specs.Prelude.{ℕ, zero, suc, Bool, true, false, ◌&&◌, ◌||◌, if◌then◌else◌, nat_le, List, [], ◌∷◌, map, Option, Some, None}
use Rattle.c_layers.specs.declared.layer.Layer.{Layer}
use Rattle.c_layers.specs.declared.layer.Layer.TheVariants as layer
use Rattle.c_layers.specs.declared.layer.Shape.{Shape}
use Rattle.c_layers.specs.declared.layer.Shape.TheVariants as shape
use Rattle.c_types.specs.declared.structs.StructDef.{StructDef}
use Rattle.c_types.specs.declared.ty.FnTy.{FnTy, roll-FnTy}
use Rattle.c_types.specs.declared.ty.Ty.{Ty}
use Rattle.c_types.specs.declared.ty.Ty.TheVariants as ty
use Rattle.c_types.specs.Kinds.{is_scalar, is_void, is_function, decay}
use Rattle.c_types.specs.Parts.{parts, most_parts}
use Rattle.c_types.specs.Units.{has_units}

abbrev pub function : Ty → List Ty → FnTy
function result params = roll-FnTy (record { result = result; params = params })

-- a type of at most 1,000 parts
unfoldable pub limited : Ty → Shape
limited t = if nat_le (parts t) most_parts then shape.Whole t else shape.Broken (is_function t)

abbrev pub pointed : Shape → Shape
pointed (shape.Whole t) = limited (ty.Pointer t)
pointed _ = shape.Broken false

abbrev pub pointed_by : ℕ → Shape → Shape
pointed_by zero s = s
pointed_by (suc n) s = pointed (pointed_by n s)

abbrev pub called : List Ty → Shape → Shape
called params (shape.Whole t) = limited (ty.Function (function t params))
called params _ = shape.Broken true

-- a function may return it, as far as it is a type
abbrev pub is_result : Shape → Bool
is_result (shape.Whole t) = is_scalar t || is_void t
is_result _ = true

module _ (defs : List StructDef) where
  -- an element has units; only the outermost bound may be missing
  abbrev pub arrayed : Option ℕ → Shape → Shape
  arrayed None (shape.Whole t) = if has_units defs t then shape.Open t else shape.Broken false
  arrayed (Some n) (shape.Whole t) = if has_units defs t then limited (ty.Array t n) else shape.Broken false
  arrayed bound _ = shape.Broken false

  abbrev pub layered : Layer → Shape → Shape
  layered (layer.Array bound) s = arrayed bound s
  layered (layer.Function params) s = called (map (λ p. p.ty) params) s
  layered (layer.Pointers n) s = pointed_by n s

  -- what the layers make of the spec's type
  abbrev pub shaped : Ty → List Layer → Shape
  shaped base [] = shape.Whole base
  shaped base (l ∷ ls) = layered l (shaped base ls)

  -- the results of the functions inside are scalars or `void`
  abbrev pub results_fit : Ty → List Layer → Bool
  results_fit base [] = true
  results_fit base (layer.Function params ∷ ls) = is_result (shaped base ls) && results_fit base ls
  results_fit base (l ∷ ls) = results_fit base ls

-- the layer of so many stars, if there are any
abbrev pub stars_of : ℕ → List Layer
stars_of zero = []
stars_of (suc n) = layer.Pointers (suc n) ∷ []

abbrev pub whole_of : Shape → Option Ty
whole_of (shape.Whole t) = Some t
whole_of _ = None

abbrev pub is_function_shape : Shape → Bool
is_function_shape (shape.Whole t) = is_function t
is_function_shape (shape.Open t) = false
is_function_shape (shape.Broken b) = b

-- a parameter that is an array or a function is a pointer
abbrev pub adjusted : Shape → Shape
adjusted (shape.Whole t) = limited (decay t)
adjusted s = s

-- A type that layers are put round, with what is known of it.
use Rattle.std.specs.Prelude.{◌≡◌, ℕ, ◌+◌, Bool, true, min, List, map, IfSome, Ok}
use Rattle.c_types.specs.declared.structs.StructDef.{StructDef}
use Rattle.c_types.specs.declared.ty.Ty.{Ty}
use Rattle.c_types.specs.declared.ty.Ty.TheVariants as ty
use Rattle.c_types.specs.Parts.{parts, most_parts}
use Rattle.c_types.specs.Units.{units_of}
use Rattle.c_layers.specs.declared.layer.Layer.{Layer}
use Rattle.c_layers.specs.declared.layer.Layer.TheVariants as layer
use Rattle.c_layers.specs.declared.layer.Parameter.{Parameter}
use Rattle.c_layers.specs.declared.layer.Shape.{Shape}
use Rattle.c_layers.specs.declared.layer.Shape.TheVariants as shape
use Rattle.c_layers.specs.declared.stage.Counted.{Counted}
use Rattle.c_layers.specs.declared.stage.Stage.{Stage}
use Rattle.c_layers.specs.declared.stage.Stage.TheVariants as stage
use Rattle.c_layers.specs.Shapes.{function, is_result}

-- what it is, without what is known of it
abbrev pub shape_of : Stage → Shape
shape_of (stage.Whole inner) = shape.Whole inner.ty
shape_of (stage.Open element) = shape.Open element
shape_of (stage.Broken is_function) = shape.Broken is_function

-- up to one more than a type may have
abbrev pub counted : ℕ → ℕ
counted n = min n (most_parts + 1)

-- what is known is so
pub record IsCounted (defs : List StructDef) (c : Counted) : Type 0 where
  pub parts_are : c.parts ≡ counted (parts c.ty)
  pub units_are : IfSome c.units (λ units. units_of defs c.ty ≡ Ok units)

abbrev pub IsKnown : List StructDef → Stage → Type 0
IsKnown defs (stage.Whole inner) = IsCounted defs inner
IsKnown defs _ = Unit {0}

-- a function and its parameters
abbrev pub function_type : Ty → List Parameter → Ty
function_type t params = ty.Function (function t (map (λ p. p.ty) params))

-- a function returns a scalar or nothing
abbrev pub fits_inside : Layer → Shape → Bool
fits_inside (layer.Function params) inner = is_result inner
fits_inside _ inner = true

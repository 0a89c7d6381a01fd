-- Layers round what is no type.
use Rattle.std.proofs.Common.{◌≡◌, ℕ, zero, suc, ◌<◌, false, List, Option, Some, None, refl, ap, arith}
use Rattle.c_types.specs.declared.structs.StructDef.{StructDef}
use Rattle.c_layers.specs.declared.layer.Shape.{Shape}
use Rattle.c_layers.specs.declared.layer.Shape.TheVariants as shape
use Rattle.c_layers.specs.Shapes.{arrayed, pointed, pointed_by, whole_of}

one_star : (s : Shape) → whole_of s ≡ None → pointed s ≡ shape.Broken false
one_star (shape.Whole t) none = absurd (cc)
one_star (shape.Open t) none = refl
one_star (shape.Broken b) none = refl

some_stars : (n : ℕ) (s : Shape) → whole_of s ≡ None → pointed_by (suc n) s ≡ shape.Broken false
some_stars zero s none = one_star s none
some_stars (suc n) s none = ap pointed (some_stars n s none)

pub stars : (n : ℕ) (s : Shape) → 0 < n → whole_of s ≡ None → pointed_by n s ≡ shape.Broken false
stars zero s some none = absurd (omega arith)
stars (suc n) s some none = some_stars n s none

pub array : (defs : List StructDef) (bound : Option ℕ) (s : Shape) → whole_of s ≡ None → arrayed defs bound s ≡ shape.Broken false
array defs bound (shape.Whole t) none = absurd (cc)
array defs None (shape.Open t) none = refl
array defs (Some n) (shape.Open t) none = refl
array defs None (shape.Broken b) none = refl
array defs (Some n) (shape.Broken b) none = refl

-- Stars in front of a type, one at a time and all at once.
use Rattle.std.proofs.Common.{◌≡◌, ℕ, zero, suc, ◌+◌, ◌≤◌, ◌<◌, false, refl, ap, ◌∙◌, inl, inr, arith}
use Rattle.std.proofs.lemmas.Bool.{cases_lt}
use Rattle.c_types.specs.declared.ty.Ty.{Ty}
use Rattle.c_types.specs.declared.ty.Ty.TheVariants as ty
use Rattle.c_types.specs.Parts.{parts, most_parts}
use Rattle.c_layers.specs.declared.layer.Shape.TheVariants as shape
use Rattle.c_layers.specs.Shapes.{pointed, pointed_by}
use Rattle.c_layers.proofs.PartsOfLayers.{few, many, parts_pointer, pointer_is_no_function}

-- the type with so many stars
abbrev pointers : ℕ → Ty → Ty
pointers zero t = t
pointers (suc n) t = ty.Pointer (pointers n t)

parts_pointers : (n : ℕ) (t : Ty) → parts (pointers n t) ≡ parts t + n
parts_pointers zero t = omega arith
parts_pointers (suc n) t = parts_pointer (pointers n t) ∙ omega (arith, parts_pointers n t)

-- one star more
pub one_star : (t : Ty) → parts t < most_parts → pointed (shape.Whole t) ≡ shape.Whole (ty.Pointer t)
one_star t low = few (ty.Pointer t) (omega (arith, parts_pointer t))

one_too_many : (t : Ty) → most_parts ≤ parts t → pointed (shape.Whole t) ≡ shape.Broken false
one_too_many t high = many (ty.Pointer t) (omega (arith, parts_pointer t)) ∙ ap shape.Broken (pointer_is_no_function t)

stars_fit : (n : ℕ) (t : Ty) → parts t + n ≤ most_parts → pointed_by n (shape.Whole t) ≡ shape.Whole (pointers n t)
stars_fit zero t low = refl
stars_fit (suc n) t low =
    ap pointed (stars_fit n t (omega arith)) ∙ one_star (pointers n t) (omega (arith, parts_pointers n t))

too_many_stars : (n : ℕ) (t : Ty) → most_parts < parts t + suc n → pointed_by (suc n) (shape.Whole t) ≡ shape.Broken false
too_many_stars zero t high = one_too_many t (omega arith)
too_many_stars (suc n) t high =
    elim (cases_lt most_parts (parts t + suc n)) [
      | inl more ↦ ap pointed (too_many_stars n t more)
      | inr low ↦ ap pointed (stars_fit (suc n) t low) ∙ one_too_many (pointers (suc n) t) (omega (arith, parts_pointers (suc n) t))
    ]

pub too_many : (n : ℕ) (t : Ty) → 0 < n → most_parts < parts t + n → pointed_by n (shape.Whole t) ≡ shape.Broken false
too_many zero t some high = absurd (omega arith)
too_many (suc n) t some high = too_many_stars n t high

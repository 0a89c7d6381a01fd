-- What an array of a type is, by the units and parts of its element.
use Rattle.std.proofs.Common.{◌≡◌, ℕ, ◌+◌, ◌*◌, ◌≤◌, ◌<◌, Bool, true, false, if◌then◌else◌, nat_le, List, Option, Some, None, Result, Ok, Err, refl, sym, ap, ◌∙◌, arith}
use Rattle.std.specs.Prelude.{is_ok, is_some, IfSome}
use Rattle.std.specs.Result.{result_ok}
use Rattle.c_types.specs.declared.error.LayoutRefusal.{LayoutRefusal}
use Rattle.c_types.specs.declared.structs.StructDef.{StructDef}
use Rattle.c_types.specs.declared.ty.Ty.{Ty}
use Rattle.c_types.specs.declared.ty.Ty.TheVariants as ty
use Rattle.c_types.specs.Parts.{parts, most_parts}
use Rattle.c_types.specs.Units.{has_units, most_units, units_of}
use Rattle.c_layers.specs.declared.layer.Shape.TheVariants as shape
use Rattle.c_layers.specs.Shapes.{arrayed, limited}
use Rattle.c_layers.specs.inner.Stages.{IsCounted, counted}
use Rattle.c_layers.proofs.PartsOfLayers.{array_is_no_function, few, many, parts_array}
use Rattle.c_layers.proofs.UnitsOfArrays.{units_array}

kept : (r : Result ℕ LayoutRefusal) (o : Option ℕ) → o ≡ result_ok r → is_some o ≡ is_ok r
kept (Ok n) o is = ap is_some is
kept (Err e) o is = ap is_some is

answered : (r : Result ℕ LayoutRefusal) (u : ℕ) → Some u ≡ result_ok r → r ≡ Ok u
answered (Ok n) u is = cc
answered (Err e) u is = absurd (cc)

module _ (defs : List StructDef) (t : Ty) where
  has : (o : Option ℕ) → o ≡ result_ok (units_of defs t) → is_some o ≡ has_units defs t
  unfolding has_units
  has o is = kept (units_of defs t) o is

  by_units : (b : Bool) → b ≡ has_units defs t → (bound : Option ℕ) → b ≡ false → arrayed defs bound (shape.Whole t) ≡ shape.Broken false
  by_units b is None lacks = ap (λ c. if c then shape.Open t else shape.Broken false) (sym is ∙ lacks)
  by_units b is (Some n) lacks = ap (λ c. if c then limited (ty.Array t n) else shape.Broken false) (sym is ∙ lacks)

  -- an element without units
  pub no_units : (bound : Option ℕ) → None ≡ result_ok (units_of defs t) → arrayed defs bound (shape.Whole t) ≡ shape.Broken false
  no_units bound is = by_units false (has None is) bound refl

  module _ (units : ℕ) (are : Some units ≡ result_ok (units_of defs t)) where
    -- a bound that is missing
    pub open_array : arrayed defs None (shape.Whole t) ≡ shape.Open t
    open_array = ap (λ c. if c then shape.Open t else shape.Broken false) (sym (has (Some units) are))

    bounded : (n : ℕ) → arrayed defs (Some n) (shape.Whole t) ≡ limited (ty.Array t n)
    bounded n = ap (λ c. if c then limited (ty.Array t n) else shape.Broken false) (sym (has (Some units) are))

    pub array : (n : ℕ) → parts t < most_parts → arrayed defs (Some n) (shape.Whole t) ≡ shape.Whole (ty.Array t n)
    array n low = bounded n ∙ few (ty.Array t n) (omega (arith, parts_array t n))

    pub too_many_parts : (n : ℕ) → most_parts ≤ parts t → arrayed defs (Some n) (shape.Whole t) ≡ shape.Broken false
    too_many_parts n high =
        bounded n ∙ many (ty.Array t n) (omega (arith, parts_array t n)) ∙ ap shape.Broken (array_is_no_function t n)

    units_by : (n : ℕ) (b : Bool) → nat_le (units * n) most_units ≡ b → IfSome (if b then Some (units * n) else None) (λ u. units_of defs (ty.Array t n) ≡ Ok u)
    units_by n true is = units_array defs t n units (answered (units_of defs t) units are) is
    units_by n false is = tt

    -- what is known of it
    pub array_known : (n p : ℕ) → p ≡ counted (parts t) → p < most_parts → IsCounted defs (record { ty = ty.Array t n; parts = p + 1; units = if nat_le (units * n) most_units then Some (units * n) else None })
    array_known n p is low = record {
      parts_are = omega (arith, parts_array t n);
      units_are = units_by n (nat_le (units * n) most_units) refl;
    }

-- The type that a spec and layers make passes, where theirs do.
use Rattle.std.proofs.Common.{◌≡◌, ◌≤◌, length, ℕ, zero, suc, Bool, true, false, if◌then◌else◌, nat_le, List, [], ◌∷◌, ◌++◌, map, Option, Some, None, refl, ap, sym, subst}
use Rattle.std.specs.List.{AllByRecursion}
use Rattle.c_layers.specs.declared.layer.Layer.{Layer}
use Rattle.c_layers.specs.declared.layer.Layer.TheVariants as layer
use Rattle.c_layers.specs.declared.layer.Parameter.{Parameter}
use Rattle.c_layers.specs.declared.layer.Shape.{Shape}
use Rattle.c_layers.specs.declared.layer.Shape.TheVariants as shape
use Rattle.c_layers.specs.Shapes.{adjusted, arrayed, called, function, is_result, limited, pointed, pointed_by, results_fit, shaped, stars_of, whole_of}
use Rattle.c_types.specs.declared.structs.StructDef.{StructDef}
use Rattle.c_types.specs.declared.ty.Ty.{Ty}
use Rattle.c_types.specs.declared.ty.Ty.TheVariants as ty
use Rattle.c_types.specs.Kinds.{decay, is_function}
use Rattle.c_types.specs.Parts.{most_parts, parts}
use Rattle.c_types.specs.Units.{has_units}
use Rattle.c_scope.specs.Declarations.{most_parameters}
use Rattle.c_typing_types.proofs.Good.{Allowed, Fine, Good, ParamFine, both, decay-fine, function_type-fine, pointer-fine}

-- the types of a shape, of a parameter and of a layer
abbrev pub ShapeFine : Good → Shape → Type 0
ShapeFine g (shape.Whole t) = Fine g t
ShapeFine g (shape.Open t) = Fine g t
ShapeFine g (shape.Broken b) = Unit {0}

abbrev pub ParameterFine : Good → Parameter → Type 0
ParameterFine g p = ParamFine g p.ty

abbrev pub LayerFine : Good → Layer → Type 0
LayerFine g (layer.Array None) = Unit {0}
LayerFine g (layer.Array (Some n)) = Allowed g n
LayerFine g (layer.Function ps) = AllByRecursion (ParameterFine g) ps × (length ps ≤ most_parameters)
LayerFine g (layer.Pointers n) = Unit {0}

abbrev pub LayersFine : Good → List Layer → Type 0
LayersFine g ls = AllByRecursion (LayerFine g) ls

types-length : (ps : List Parameter) → length (map (λ p. p.ty) ps) ≡ length ps
types-length [] = refl
types-length (p ∷ ps) = ap suc (types-length ps)

module _ (g : Good) where
  limited_by : (few : Bool) (t : Ty) → Fine g t → ShapeFine g (if few then shape.Whole t else shape.Broken (is_function t))
  limited_by true t fine = fine
  limited_by false t fine = tt

  pub limited-fine : (t : Ty) → Fine g t → ShapeFine g (limited t)
  unfolding limited
  limited-fine t fine = limited_by (nat_le (parts t) most_parts) t fine

  pointed-fine : (s : Shape) → ShapeFine g s → ShapeFine g (pointed s)
  pointed-fine (shape.Whole t) fine = limited-fine (ty.Pointer t) (pointer-fine g t fine)
  pointed-fine (shape.Open t) fine = tt
  pointed-fine (shape.Broken b) fine = tt

  pointed_by-fine : (n : ℕ) (s : Shape) → ShapeFine g s → ShapeFine g (pointed_by n s)
  pointed_by-fine zero s fine = fine
  pointed_by-fine (suc n) s fine = pointed-fine (pointed_by n s) (pointed_by-fine n s fine)

  types-fine : (ps : List Parameter) → AllByRecursion (ParameterFine g) ps → AllByRecursion (ParamFine g) (map (λ p. p.ty) ps)
  types-fine [] all = tt
  types-fine (p ∷ ps) all = (all.0, types-fine ps all.1)

  called-fine : (ps : List Parameter) (s : Shape) → LayerFine g (layer.Function ps) → is_result s ≡ true → ShapeFine g s → ShapeFine g (called (map (λ p. p.ty) ps) s)
  called-fine ps (shape.Whole t) all result fine =
      let ts : List Ty = map (λ p. p.ty) ps in
      limited-fine (ty.Function (function t ts)) (function_type-fine g (function t ts) (g.made t ts fine result (types-fine ps all.0) (subst (λ n. n ≤ most_parameters) (sym (types-length ps)) all.1)))
  called-fine ps (shape.Open t) all result fine = tt
  called-fine ps (shape.Broken b) all result fine = tt

  open_by : (sized : Bool) (t : Ty) → Fine g t → ShapeFine g (if sized then shape.Open t else shape.Broken false)
  open_by true t fine = fine
  open_by false t fine = tt

  array_by : (sized : Bool) (t : Ty) (n : ℕ) → Fine g t → Allowed g n → ShapeFine g (if sized then limited (ty.Array t n) else shape.Broken false)
  array_by true t n fine allowed = limited-fine (ty.Array t n) (g.array t n fine allowed)
  array_by false t n fine allowed = tt

  arrayed-fine : (defs : List StructDef) (bound : Option ℕ) (s : Shape) → LayerFine g (layer.Array bound) → ShapeFine g s → ShapeFine g (arrayed defs bound s)
  arrayed-fine defs None (shape.Whole t) allowed fine = open_by (has_units defs t) t fine
  arrayed-fine defs (Some n) (shape.Whole t) allowed fine = array_by (has_units defs t) t n fine allowed
  arrayed-fine defs None (shape.Open t) allowed fine = tt
  arrayed-fine defs (Some n) (shape.Open t) allowed fine = tt
  arrayed-fine defs None (shape.Broken b) allowed fine = tt
  arrayed-fine defs (Some n) (shape.Broken b) allowed fine = tt

  -- what a spec's type and layers make, where the functions in it return scalars or nothing
  pub shaped-fine : (defs : List StructDef) (base : Ty) (ls : List Layer) → Fine g base → LayersFine g ls → results_fit defs base ls ≡ true → ShapeFine g (shaped defs base ls)
  shaped-fine defs base [] fine all fit = fine
  shaped-fine defs base (layer.Array bound ∷ ls) fine all fit = arrayed-fine defs bound (shaped defs base ls) all.0 (shaped-fine defs base ls fine all.1 fit)
  shaped-fine defs base (layer.Function ps ∷ ls) fine all fit =
      let h = both (is_result (shaped defs base ls)) (results_fit defs base ls) fit in
      called-fine ps (shaped defs base ls) all.0 h.0 (shaped-fine defs base ls fine all.1 h.1)
  shaped-fine defs base (layer.Pointers n ∷ ls) fine all fit = pointed_by-fine n (shaped defs base ls) (shaped-fine defs base ls fine all.1 fit)

  pub adjusted-fine : (s : Shape) → ShapeFine g s → ShapeFine g (adjusted s)
  adjusted-fine (shape.Whole t) fine = limited-fine (decay t) (decay-fine g t fine)
  adjusted-fine (shape.Open t) fine = fine
  adjusted-fine (shape.Broken b) fine = fine

  pub whole-fine : (s : Shape) (t : Ty) → whole_of s ≡ Some t → ShapeFine g s → Fine g t
  whole-fine (shape.Whole u) t is fine = let same : u ≡ t = cc in subst (Fine g) same fine
  whole-fine (shape.Open u) t is fine = cc
  whole-fine (shape.Broken b) t is fine = cc

  -- ---- lists of layers

  pub layers-joined : (ls ms : List Layer) → LayersFine g ls → LayersFine g ms → LayersFine g (ls ++ ms)
  layers-joined [] ms first second = second
  layers-joined (l ∷ ls) ms first second = (first.0, layers-joined ls ms first.1 second)

  pub stars-fine : (n : ℕ) → LayersFine g (stars_of n)
  stars-fine zero = tt
  stars-fine (suc n) = (tt, tt)

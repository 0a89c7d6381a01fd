-- How many parts a type has with one more layer round it, and what that makes of it.
use Rattle.std.proofs.Common.{◌≡◌, ℕ, suc, ◌+◌, ◌≤◌, ◌<◌, Bool, true, false, if◌then◌else◌, nat_le, sum, sum_by, List, [], ◌∷◌, map, refl, sym, ap, ◌∙◌, arith, rules, tests}
use Rattle.std.proofs.lemmas.List.Sums.{sum_by-cons}
use Rattle.c_types.specs.declared.ty.Ty.{Ty, roll-Ty, map-Ty, fold-roll-Ty}
use Rattle.c_types.specs.declared.ty.Ty.TheVariants as ty
use Rattle.c_types.specs.declared.ty.Ty.TheOpen.{Ty-F}
use Rattle.c_types.specs.declared.ty.FnTy.{FnTy, fold-roll-FnTy}
use Rattle.c_types.specs.Kinds.{is_function, is_function_at}
use Rattle.c_types.specs.Parts.{parts, function_parts, parts_step, function_step, most_parts}
use Rattle.c_layers.specs.declared.layer.Parameter.{Parameter}
use Rattle.c_layers.specs.declared.layer.Shape.TheVariants as shape
use Rattle.c_layers.specs.Shapes.{function, limited}
use Rattle.c_layers.specs.inner.Stages.{function_type}

-- ---- parts

rolled : (y : Ty-F Ty FnTy) → parts (roll-Ty y) ≡ parts_step (map-Ty Ty FnTy ℕ ℕ parts function_parts y)
unfolding parts function_parts
rolled y = fold-roll-Ty ℕ ℕ parts_step function_step y

pub parts_pointer : (t : Ty) → parts (ty.Pointer t) ≡ suc (parts t)
parts_pointer t = ap parts (sym (ty.rolls-Pointer t)) ∙ rolled (Ty-F.Pointer t) ∙ omega arith

pub parts_array : (t : Ty) (bound : ℕ) → parts (ty.Array t bound) ≡ suc (parts t)
parts_array t bound = ap parts (sym (ty.rolls-Array t bound)) ∙ rolled (Ty-F.Array t bound) ∙ omega arith

of_function : (t : Ty) (params : List Ty) → function_parts (function t params) ≡ 1 + parts t + sum (map parts params)
unfolding parts function_parts
of_function t params = fold-roll-FnTy ℕ ℕ parts_step function_step (record { result = t; params = params })

parts_function : (t : Ty) (params : List Ty) → parts (ty.Function (function t params)) ≡ suc (parts t + sum (map parts params))
parts_function t params =
    ap parts (sym (ty.rolls-Function (function t params))) ∙ rolled (Ty-F.Function (function t params)) ∙ of_function t params ∙ omega arith

sum_of_params : (ps : List Parameter) → sum (map parts (map (λ p. p.ty) ps)) ≡ sum_by (λ p. parts p.ty) ps
sum_of_params [] = refl
sum_of_params (p ∷ ps) =
    sum_by-cons (λ n. n) (parts p.ty) (map parts (map (λ p. p.ty) ps))
    ∙ ap (λ n. parts p.ty + n) (sum_of_params ps)
    ∙ sym (sum_by-cons (λ p. parts p.ty) p ps)

-- a function and its parameters
pub parts_called : (t : Ty) (ps : List Parameter) → parts (function_type t ps) ≡ suc (parts t + sum_by (λ p. parts p.ty) ps)
parts_called t ps = parts_function t (map (λ p. p.ty) ps) ∙ ap (λ n. suc (parts t + n)) (sum_of_params ps)

-- ---- which are functions

pub function_is_one : (f : FnTy) → is_function (ty.Function f) ≡ true
unfolding is_function
function_is_one f = ap is_function_at (ty.outs-Function f)

pub array_is_no_function : (t : Ty) (bound : ℕ) → is_function (ty.Array t bound) ≡ false
unfolding is_function
array_is_no_function t bound = ap is_function_at (ty.outs-Array t bound)

pub pointer_is_no_function : (t : Ty) → is_function (ty.Pointer t) ≡ false
unfolding is_function
pointer_is_no_function t = ap is_function_at (ty.outs-Pointer t)

-- ---- a type of so many parts

limited_by : (t : Ty) (b : Bool) → nat_le (parts t) most_parts ≡ b → limited t ≡ (if b then shape.Whole t else shape.Broken (is_function t))
unfolding limited
limited_by t b is = ap (λ c. if c then shape.Whole t else shape.Broken (is_function t)) is

pub few : (t : Ty) → parts t ≤ most_parts → limited t ≡ shape.Whole t
few t low = limited_by t true (search (tests, rules))

pub many : (t : Ty) → most_parts < parts t → limited t ≡ shape.Broken (is_function t)
many t high = limited_by t false (search (tests, rules))

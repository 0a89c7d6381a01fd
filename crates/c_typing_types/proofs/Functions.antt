-- The test of the functions in a type is one that declarators decide, and what it says of a function.
use Rattle.std.proofs.Common.{◌≡◌, ◌∙◌, ◌≤◌, ℕ, suc, Bool, true, ◌&&◌, ◌||◌, nat_le, List, [], ◌∷◌, length, map, le-leb, leb-true, refl, ap, sym, subst}
use Rattle.std.specs.List.{AllByRecursion, list_all}
use Rattle.c_layers.specs.Shapes.{function}
use Rattle.c_types.specs.declared.ty.FnTy.{FnTy, fold-roll-FnTy, map-FnTy, out-FnTy, roll-FnTy, roll-out-FnTy}
use Rattle.c_types.specs.declared.ty.Ty.{Ty, fold-roll-Ty, map-Ty, out-Ty, roll-Ty, roll-out-Ty}
use Rattle.c_types.specs.declared.ty.Ty.TheOpen.{FnTy-F, Ty-F}
use Rattle.c_types.specs.declared.ty.Ty.TheVariants as ty
use Rattle.c_types.specs.Kinds.{Outer, is_scalar, is_scalar_at, is_void, is_void_at}
use Rattle.c_scope.specs.Declarations.{most_parameters}
use Rattle.c_typing_types.specs.Types.{IsDeclarable, Tested, declared_step, function_fits, functions_fit, functions_step, tested}
use Rattle.c_typing_types.proofs.Good.{Good, IsResult, both, both_true}

tested-made : (y : Outer) → tested (roll-Ty y) ≡ functions_step (map-Ty Ty FnTy Tested Bool tested function_fits y)
unfolding tested function_fits
tested-made y = fold-roll-Ty Tested Bool functions_step declared_step y

function-made : (y : FnTy-F Ty FnTy) → function_fits (roll-FnTy y) ≡ declared_step (map-FnTy Ty FnTy Tested Bool tested function_fits y)
unfolding tested function_fits
function-made y = fold-roll-FnTy Tested Bool functions_step declared_step y

-- ---- kinds

scalar_at-is : (o : Outer) → (tested (roll-Ty o)).scalar ≡ is_scalar_at o
scalar_at-is Ty-F.Int = ap (λ r. r.scalar) (tested-made Ty-F.Int)
scalar_at-is Ty-F.Char = ap (λ r. r.scalar) (tested-made Ty-F.Char)
scalar_at-is Ty-F.Void = ap (λ r. r.scalar) (tested-made Ty-F.Void)
scalar_at-is (Ty-F.Struct s) = ap (λ r. r.scalar) (tested-made (Ty-F.Struct s))
scalar_at-is (Ty-F.Pointer t) = ap (λ r. r.scalar) (tested-made (Ty-F.Pointer t))
scalar_at-is (Ty-F.Array t n) = ap (λ r. r.scalar) (tested-made (Ty-F.Array t n))
scalar_at-is (Ty-F.Function f) = ap (λ r. r.scalar) (tested-made (Ty-F.Function f))

void_at-is : (o : Outer) → (tested (roll-Ty o)).void ≡ is_void_at o
void_at-is Ty-F.Int = ap (λ r. r.void) (tested-made Ty-F.Int)
void_at-is Ty-F.Char = ap (λ r. r.void) (tested-made Ty-F.Char)
void_at-is Ty-F.Void = ap (λ r. r.void) (tested-made Ty-F.Void)
void_at-is (Ty-F.Struct s) = ap (λ r. r.void) (tested-made (Ty-F.Struct s))
void_at-is (Ty-F.Pointer t) = ap (λ r. r.void) (tested-made (Ty-F.Pointer t))
void_at-is (Ty-F.Array t n) = ap (λ r. r.void) (tested-made (Ty-F.Array t n))
void_at-is (Ty-F.Function f) = ap (λ r. r.void) (tested-made (Ty-F.Function f))

scalar-is : (t : Ty) → (tested t).scalar ≡ is_scalar t
unfolding is_scalar
scalar-is t = ap (λ u. (tested u).scalar) (sym (roll-out-Ty t)) ∙ scalar_at-is (out-Ty t)

void-is : (t : Ty) → (tested t).void ≡ is_void t
unfolding is_void
void-is t = ap (λ u. (tested u).void) (sym (roll-out-Ty t)) ∙ void_at-is (out-Ty t)

result-is : (t : Ty) → ((tested t).scalar || (tested t).void) ≡ (is_scalar t || is_void t)
result-is t = ap (λ b. b || (tested t).void) (scalar-is t) ∙ ap (λ b. is_scalar t || b) (void-is t)

-- ---- functions

tested-length : (ts : List Ty) → length (map tested ts) ≡ length ts
tested-length [] = refl
tested-length (t ∷ ts) = ap suc (tested-length ts)

params-fit : (ts : List Ty) → AllByRecursion (λ u. (functions_fit u ≡ true) × (is_scalar u ≡ true)) ts → list_all (λ p. p.fits && p.scalar) (map tested ts) ≡ true
unfolding functions_fit
params-fit [] all = refl
params-fit (t ∷ ts) all = both_true ((tested t).fits && (tested t).scalar) (list_all (λ p. p.fits && p.scalar) (map tested ts))
    (both_true (tested t).fits (tested t).scalar all.0.0 (scalar-is t ∙ all.0.1)) (params-fit ts all.1)

few-fit : (ts : List Ty) → length ts ≤ most_parameters → nat_le (length (map tested ts)) most_parameters ≡ true
few-fit ts few = le-leb (length (map tested ts)) most_parameters (subst (λ n. n ≤ most_parameters) (sym (tested-length ts)) few)

pub made-fits : (t : Ty) (ts : List Ty) → functions_fit t ≡ true → IsResult t → AllByRecursion (λ u. (functions_fit u ≡ true) × (is_scalar u ≡ true)) ts → length ts ≤ most_parameters
    → function_fits (function t ts) ≡ true
unfolding functions_fit
made-fits t ts fits result all few =
    function-made (record { result = t; params = ts })
    ∙ both_true ((tested t).fits && ((tested t).scalar || (tested t).void)) (list_all (λ p. p.fits && p.scalar) (map tested ts) && nat_le (length (map tested ts)) most_parameters)
    (both_true (tested t).fits ((tested t).scalar || (tested t).void) fits (result-is t ∙ result))
    (both_true (list_all (λ p. p.fits && p.scalar) (map tested ts)) (nat_le (length (map tested ts)) most_parameters) (params-fit ts all) (few-fit ts few))

-- what the test says of a function's parts
pub record Said (f : FnTy) : Type 0 where
  pub result_fits : functions_fit (out-FnTy f).result ≡ true
  pub result : ((tested (out-FnTy f).result).scalar || (tested (out-FnTy f).result).void) ≡ true
  pub params : list_all (λ p. p.fits && p.scalar) (map tested (out-FnTy f).params) ≡ true
  pub few : nat_le (length (map tested (out-FnTy f).params)) most_parameters ≡ true

pub said : (f : FnTy) → function_fits f ≡ true → Said f
unfolding functions_fit
said f fits =
    let t : Ty = (out-FnTy f).result in
    let ts : List Ty = (out-FnTy f).params in
    let h = both ((tested t).fits && ((tested t).scalar || (tested t).void)) (list_all (λ p. p.fits && p.scalar) (map tested ts) && nat_le (length (map tested ts)) most_parameters)
    (sym (function-made (out-FnTy f)) ∙ ap function_fits (roll-out-FnTy f) ∙ fits) in
    let r = both (tested t).fits ((tested t).scalar || (tested t).void) h.0 in
    let p = both (list_all (λ p. p.fits && p.scalar) (map tested ts)) (nat_le (length (map tested ts)) most_parameters) h.1 in
    record { result_fits = r.0; result = r.1; params = p.0; few = p.1 }

scalars-said : (ts : List Ty) → list_all (λ p. p.fits && p.scalar) (map tested ts) ≡ true → list_all is_scalar ts ≡ true
scalars-said [] all = refl
scalars-said (t ∷ ts) all =
    let h = both ((tested t).fits && (tested t).scalar) (list_all (λ p. p.fits && p.scalar) (map tested ts)) all in
    both_true (is_scalar t) (list_all is_scalar ts) (sym (scalar-is t) ∙ (both (tested t).fits (tested t).scalar h.0).1) (scalars-said ts h.1)

pub declarable : (f : FnTy) → function_fits f ≡ true → IsDeclarable f
declarable f fits =
    let h = said f fits in
    record {
      params = scalars-said (out-FnTy f).params h.params;
      few = subst (λ n. n ≤ most_parameters) (tested-length (out-FnTy f).params) (leb-true (length (map tested (out-FnTy f).params)) most_parameters h.few);
      result = sym (result-is (out-FnTy f).result) ∙ h.result;
    }

-- ---- the test

pub fits-Function : (f : FnTy) → functions_fit (ty.Function f) ≡ function_fits f
unfolding functions_fit
fits-Function f = ap (λ t. (tested t).fits) (sym (ty.rolls-Function f)) ∙ ap (λ r. r.fits) (tested-made (Ty-F.Function f))

pub fits-Array : (t : Ty) (n : ℕ) → functions_fit (ty.Array t n) ≡ functions_fit t
unfolding functions_fit
fits-Array t n = ap (λ t. (tested t).fits) (sym (ty.rolls-Array t n)) ∙ ap (λ r. r.fits) (tested-made (Ty-F.Array t n))

pub fits-Pointer : (t : Ty) → functions_fit (ty.Pointer t) ≡ functions_fit t
unfolding functions_fit
fits-Pointer t = ap (λ t. (tested t).fits) (sym (ty.rolls-Pointer t)) ∙ ap (λ r. r.fits) (tested-made (Ty-F.Pointer t))

pub fits-Struct : (s : ℕ) → functions_fit (ty.Struct s) ≡ true
unfolding functions_fit
fits-Struct s = ap (λ t. (tested t).fits) (sym (ty.rolls-Struct s)) ∙ ap (λ r. r.fits) (tested-made (Ty-F.Struct s))

pub fits-Int : functions_fit ty.Int ≡ true
unfolding functions_fit
fits-Int = ap (λ t. (tested t).fits) (sym ty.rolls-Int) ∙ ap (λ r. r.fits) (tested-made Ty-F.Int)

pub fits-Char : functions_fit ty.Char ≡ true
unfolding functions_fit
fits-Char = ap (λ t. (tested t).fits) (sym ty.rolls-Char) ∙ ap (λ r. r.fits) (tested-made Ty-F.Char)

pub fits-Void : functions_fit ty.Void ≡ true
unfolding functions_fit
fits-Void = ap (λ t. (tested t).fits) (sym ty.rolls-Void) ∙ ap (λ r. r.fits) (tested-made Ty-F.Void)

abbrev pub functions : ℕ → Good
functions n = record {
  count = n;
  free = true;
  good = functions_fit;
  good_function = function_fits;
  int = fits-Int;
  char = fits-Char;
  void = fits-Void;
  struct_below = λ s below. fits-Struct s;
  pointer = fits-Pointer;
  element = λ t bound fits. sym (fits-Array t bound) ∙ fits;
  array = λ t bound fits allowed. fits-Array t bound ∙ fits;
  as_type = fits-Function;
  made = made-fits;
  result = λ f fits. (said f fits).result_fits;
}

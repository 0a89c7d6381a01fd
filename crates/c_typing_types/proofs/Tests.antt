-- That structs are of a table and that bounds are at least 1 are tests that declarators decide.
use Rattle.std.proofs.Common.{◌≡◌, ◌∙◌, ℕ, Bool, true, false, ◌&&◌, nat_le, List, [], ◌∷◌, map, refl, ap, sym}
use Rattle.std.proofs.lemmas.Bool.Decides.{Decides-ltb}
use Rattle.std.specs.List.{AllByRecursion, list_all}
use Rattle.c_types.specs.declared.ty.FnTy.{FnTy, fold-roll-FnTy, out-FnTy, roll-FnTy, roll-out-FnTy}
use Rattle.c_types.specs.declared.ty.Ty.{Ty, fold-roll-Ty, map-Ty, roll-Ty}
use Rattle.c_types.specs.declared.ty.Ty.TheOpen.{FnTy-F, Ty-F}
use Rattle.c_types.specs.declared.ty.Ty.TheVariants as ty
use Rattle.c_types.specs.Kinds.{Outer, is_scalar}
use Rattle.c_types.specs.Sound.{function_names_below, function_step, names_below, names_below_step}
use Rattle.c_typing_types.specs.Types.{bounds_step, function_has_bounds, has_bounds}
use Rattle.c_typing_types.proofs.Good.{Good, both, both_true}

pub all-pass : (test : Ty → Bool) (ts : List Ty) → AllByRecursion (λ u. (test u ≡ true) × (is_scalar u ≡ true)) ts → list_all (λ b. b) (map test ts) ≡ true
all-pass test [] all = refl
all-pass test (t ∷ ts) all = both_true (test t) (list_all (λ b. b) (map test ts)) all.0.0 (all-pass test ts all.1)

-- ---- structs

module _ (n : ℕ) where
  pub names-made : (y : Outer) → names_below n (roll-Ty y) ≡ names_below_step n (map-Ty Ty FnTy Bool Bool (names_below n) (function_names_below n) y)
  unfolding names_below function_names_below
  names-made y = fold-roll-Ty Bool Bool (names_below_step n) function_step y

  pub names-parts : (y : FnTy-F Ty FnTy) → function_names_below n (roll-FnTy y) ≡ (names_below n y.result && list_all (λ b. b) (map (names_below n) y.params))
  unfolding names_below function_names_below
  names-parts y = fold-roll-FnTy Bool Bool (names_below_step n) function_step y

  pub names-Array : (t : Ty) (bound : ℕ) → names_below n (ty.Array t bound) ≡ names_below n t
  names-Array t bound = ap (names_below n) (sym (ty.rolls-Array t bound)) ∙ names-made (Ty-F.Array t bound)

  abbrev pub names : Good
  names = record {
    count = n;
    free = true;
    good = names_below n;
    good_function = function_names_below n;
    int = ap (names_below n) (sym ty.rolls-Int) ∙ names-made Ty-F.Int;
    char = ap (names_below n) (sym ty.rolls-Char) ∙ names-made Ty-F.Char;
    void = ap (names_below n) (sym ty.rolls-Void) ∙ names-made Ty-F.Void;
    struct_below = λ s below. ap (names_below n) (sym (ty.rolls-Struct s)) ∙ names-made (Ty-F.Struct s) ∙ (Decides-ltb s n).1 below;
    pointer = λ t. ap (names_below n) (sym (ty.rolls-Pointer t)) ∙ names-made (Ty-F.Pointer t);
    element = λ t bound fine. sym (names-Array t bound) ∙ fine;
    array = λ t bound fine allowed. names-Array t bound ∙ fine;
    as_type = λ f. ap (names_below n) (sym (ty.rolls-Function f)) ∙ names-made (Ty-F.Function f);
    made = λ t ts fine result all few. names-parts (record { result = t; params = ts }) ∙ both_true (names_below n t) (list_all (λ b. b) (map (names_below n) ts)) fine (all-pass (names_below n) ts all);
    result = λ f fine. (both (names_below n (out-FnTy f).result) (list_all (λ b. b) (map (names_below n) (out-FnTy f).params)) (sym (names-parts (out-FnTy f)) ∙ ap (function_names_below n) (roll-out-FnTy f) ∙ fine)).0;
  }

-- ---- bounds

pub bounds-made : (y : Outer) → has_bounds (roll-Ty y) ≡ bounds_step (map-Ty Ty FnTy Bool Bool has_bounds function_has_bounds y)
unfolding has_bounds function_has_bounds
bounds-made y = fold-roll-Ty Bool Bool bounds_step function_step y

pub bounds-parts : (y : FnTy-F Ty FnTy) → function_has_bounds (roll-FnTy y) ≡ (has_bounds y.result && list_all (λ b. b) (map has_bounds y.params))
unfolding has_bounds function_has_bounds
bounds-parts y = fold-roll-FnTy Bool Bool bounds_step function_step y

pub bounds-Array : (t : Ty) (bound : ℕ) → has_bounds (ty.Array t bound) ≡ (has_bounds t && nat_le 1 bound)
bounds-Array t bound = ap has_bounds (sym (ty.rolls-Array t bound)) ∙ bounds-made (Ty-F.Array t bound)

abbrev pub bounds : ℕ → Good
bounds n = record {
  count = n;
  free = false;
  good = has_bounds;
  good_function = function_has_bounds;
  int = ap has_bounds (sym ty.rolls-Int) ∙ bounds-made Ty-F.Int;
  char = ap has_bounds (sym ty.rolls-Char) ∙ bounds-made Ty-F.Char;
  void = ap has_bounds (sym ty.rolls-Void) ∙ bounds-made Ty-F.Void;
  struct_below = λ s below. ap has_bounds (sym (ty.rolls-Struct s)) ∙ bounds-made (Ty-F.Struct s);
  pointer = λ t. ap has_bounds (sym (ty.rolls-Pointer t)) ∙ bounds-made (Ty-F.Pointer t);
  element = λ t bound fine. (both (has_bounds t) (nat_le 1 bound) (sym (bounds-Array t bound) ∙ fine)).0;
  array = λ t bound fine allowed. bounds-Array t bound ∙ both_true (has_bounds t) (nat_le 1 bound) fine allowed;
  as_type = λ f. ap has_bounds (sym (ty.rolls-Function f)) ∙ bounds-made (Ty-F.Function f);
  made = λ t ts fine result all few. bounds-parts (record { result = t; params = ts }) ∙ both_true (has_bounds t) (list_all (λ b. b) (map has_bounds ts)) fine (all-pass has_bounds ts all);
  result = λ f fine. (both (has_bounds (out-FnTy f).result) (list_all (λ b. b) (map has_bounds (out-FnTy f).params)) (sym (bounds-parts (out-FnTy f)) ∙ ap function_has_bounds (roll-out-FnTy f) ∙ fine)).0;
}

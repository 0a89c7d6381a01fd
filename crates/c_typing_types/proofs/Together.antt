-- Two tests that declarators decide, as one.
use Rattle.std.proofs.Common.{◌≡◌, ◌∙◌, ◌<◌, ◌≤◌, ℕ, Bool, true, false, ◌&&◌, ◌||◌, nat_le, List, [], ◌∷◌, length, refl, ap, subst}
use Rattle.std.specs.List.{AllByRecursion}
use Rattle.c_layers.specs.Shapes.{function}
use Rattle.c_types.specs.declared.ty.FnTy.{FnTy, out-FnTy}
use Rattle.c_types.specs.declared.ty.Ty.{Ty}
use Rattle.c_types.specs.declared.ty.Ty.TheVariants as ty
use Rattle.c_types.specs.Kinds.{is_scalar}
use Rattle.c_scope.specs.Declarations.{most_parameters}
use Rattle.c_typing_types.proofs.Good.{Good, IsResult, both, both_true}

pub both-equal : (a b c d : Bool) → a ≡ c → b ≡ d → (a && b) ≡ (c && d)
both-equal a b c d p q = ap (λ x. x && b) p ∙ ap (λ y. c && y) q

free-first : (a b c : Bool) → ((a && b) || c) ≡ true → (a || c) ≡ true
free-first true b c is = refl
free-first false b c is = is

free-second : (a b c : Bool) → ((a && b) || c) ≡ true → (b || c) ≡ true
free-second true b c is = is
free-second false true c is = refl
free-second false false c is = is

module _ (g h : Good) (same : g.count ≡ h.count) where
  abbrev test : Ty → Bool
  test t = g.good t && h.good t

  abbrev function_test : FnTy → Bool
  function_test f = g.good_function f && h.good_function f

  abbrev Params : (Ty → Bool) → List Ty → Type 0
  Params passes ts = AllByRecursion (λ u. (passes u ≡ true) × (is_scalar u ≡ true)) ts

  firsts : (ts : List Ty) → Params test ts → Params g.good ts
  firsts [] all = tt
  firsts (t ∷ ts) all = (((both (g.good t) (h.good t) all.0.0).0, all.0.1), firsts ts all.1)

  seconds : (ts : List Ty) → Params test ts → Params h.good ts
  seconds [] all = tt
  seconds (t ∷ ts) all = (((both (g.good t) (h.good t) all.0.0).1, all.0.1), seconds ts all.1)

  pub made-fine : (t : Ty) (ts : List Ty) → test t ≡ true → IsResult t → Params test ts → length ts ≤ most_parameters → function_test (function t ts) ≡ true
  made-fine t ts fine result all few =
      let parts = both (g.good t) (h.good t) fine in
      both_true (g.good_function (function t ts)) (h.good_function (function t ts)) (g.made t ts parts.0 result (firsts ts all) few) (h.made t ts parts.1 result (seconds ts all) few)

  pub array-fine : (t : Ty) (bound : ℕ) → test t ≡ true → ((g.free && h.free) || nat_le 1 bound) ≡ true → test (ty.Array t bound) ≡ true
  array-fine t bound fine allowed =
      let parts = both (g.good t) (h.good t) fine in
      both_true (g.good (ty.Array t bound)) (h.good (ty.Array t bound))
      (g.array t bound parts.0 (free-first g.free h.free (nat_le 1 bound) allowed)) (h.array t bound parts.1 (free-second g.free h.free (nat_le 1 bound) allowed))

  pub element-fine : (t : Ty) (bound : ℕ) → test (ty.Array t bound) ≡ true → test t ≡ true
  element-fine t bound fine =
      let parts = both (g.good (ty.Array t bound)) (h.good (ty.Array t bound)) fine in both_true (g.good t) (h.good t) (g.element t bound parts.0) (h.element t bound parts.1)

  pub result-fine : (f : FnTy) → function_test f ≡ true → test (out-FnTy f).result ≡ true
  result-fine f fine =
      let parts = both (g.good_function f) (h.good_function f) fine in both_true (g.good (out-FnTy f).result) (h.good (out-FnTy f).result) (g.result f parts.0) (h.result f parts.1)

  abbrev pub together : Good
  together = record {
    count = g.count;
    free = g.free && h.free;
    good = test;
    good_function = function_test;
    int = both_true (g.good ty.Int) (h.good ty.Int) g.int h.int;
    char = both_true (g.good ty.Char) (h.good ty.Char) g.char h.char;
    void = both_true (g.good ty.Void) (h.good ty.Void) g.void h.void;
    struct_below = λ s below. both_true (g.good (ty.Struct s)) (h.good (ty.Struct s)) (g.struct_below s below) (h.struct_below s (subst (λ n. s < n) same below));
    pointer = λ t. both-equal (g.good (ty.Pointer t)) (h.good (ty.Pointer t)) (g.good t) (h.good t) (g.pointer t) (h.pointer t);
    element = element-fine;
    array = array-fine;
    as_type = λ f. both-equal (g.good (ty.Function f)) (h.good (ty.Function f)) (g.good_function f) (h.good_function f) (g.as_type f) (h.as_type f);
    made = made-fine;
    result = result-fine;
  }

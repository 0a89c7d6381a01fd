-- Units up to the cap are the exact units, capped.
use Rattle.std.proofs.Common.{◌≡◌, ℕ, zero, suc, ◌+◌, ◌*◌, ◌≤◌, Option, Some, None, refl, sym, ap, ◌∙◌, subst, inl, inr, arith}
use Rattle.std.specs.Option.{option_map}
use Rattle.std.proofs.lemmas.Bool.{cases_lt}
use Rattle.std.proofs.Math.Nat.{le-mul_of_pos_right}
use Rattle.c_types.specs.declared.ty.Ty.{Ty, roll-Ty, map-Ty, fold-roll-Ty, ind-Ty}
use Rattle.c_types.specs.declared.ty.Ty.TheOpen.{Ty-F}
use Rattle.c_types.specs.declared.ty.FnTy.{FnTy, fold-FnTy}
use Rattle.c_types.specs.Units.{sized, sized_step}
use Rattle.c_types.specs.inner.Layouts.{capped, kept, kept_step}

pub capped_sum : (a b : ℕ) → capped (capped a + b) ≡ capped (a + b)
capped_sum a b = omega arith

capped_low : (a : ℕ) → a ≤ 65537 → capped a ≡ a
capped_low a low = omega arith

capped_high : (a : ℕ) → 65537 ≤ a → capped a ≡ 65537
capped_high a high = omega arith

high_times : (a b : ℕ) → 65537 ≤ a → 65537 ≤ a * suc b
high_times a b high = omega (arith, le-mul_of_pos_right {m = suc b} a (omega arith))

capped_times : (a b : ℕ) → capped (capped a * b) ≡ capped (a * b)
capped_times a zero = omega arith
capped_times a (suc b) =
    elim (cases_lt a 65537) [
      | inl low ↦ ap (λ n. capped (n * suc b)) (capped_low a (omega arith))
      | inr high ↦ ap (λ n. capped (n * suc b)) (capped_high a high) ∙ capped_high (65537 * suc b) (high_times 65537 b (omega arith)) ∙ sym (capped_high (a * suc b) (high_times a b high))
    ]

times : (b : ℕ) (o p : Option ℕ) → o ≡ option_map capped p → option_map (λ n. capped (n * b)) o ≡ option_map capped (option_map (λ n. n * b) p)
times b o None is = ap (λ q. option_map (λ n. capped (n * b)) q) is
times b o (Some n) is = ap (λ q. option_map (λ n. capped (n * b)) q) is ∙ ap Some (capped_times n b)

module _ (f g : ℕ → Option ℕ) (capped_here : (s : ℕ) → g s ≡ option_map capped (f s)) where
  abbrev IsKept : Ty → Type 0
  IsKept t = kept g t ≡ option_map capped (sized f t)

  abbrev AnyFn : FnTy → Type 0
  AnyFn h = Unit {0}

  abbrev bare : Ty-F ((t : Ty) × IsKept t) ((h : FnTy) × AnyFn h) → Ty-F Ty FnTy
  bare y = map-Ty ((t : Ty) × IsKept t) ((h : FnTy) × AnyFn h) Ty FnTy (λ e. e.0) (λ e. e.0) y

  -- whatever is said of functions
  rolled : (i j : FnTy → Option ℕ) (y : Ty-F ((t : Ty) × IsKept t) ((h : FnTy) × AnyFn h))
      → kept_step g (map-Ty Ty FnTy (Option ℕ) (Option ℕ) (kept g) i (bare y)) ≡ option_map capped (sized_step f (map-Ty Ty FnTy (Option ℕ) (Option ℕ) (sized f) j (bare y)))
  rolled i j Ty-F.Int = refl
  rolled i j Ty-F.Char = refl
  rolled i j Ty-F.Void = refl
  rolled i j (Ty-F.Struct s) = capped_here s
  rolled i j (Ty-F.Pointer e) = refl
  rolled i j (Ty-F.Array e b) = times b (kept g e.0) (sized f e.0) e.1
  rolled i j (Ty-F.Function e) = refl

  kept_rolled : (y : Ty-F ((t : Ty) × IsKept t) ((h : FnTy) × AnyFn h)) → IsKept (roll-Ty (bare y))
  unfolding kept sized
  kept_rolled y =
      fold-roll-Ty (Option ℕ) (Option ℕ) (kept_step g) (λ h. None) (bare y)
      ∙ rolled (fold-FnTy (Option ℕ) (Option ℕ) (kept_step g) (λ h. None)) (fold-FnTy (Option ℕ) (Option ℕ) (sized_step f) (λ h. None)) y
      ∙ ap (option_map capped) (sym (fold-roll-Ty (Option ℕ) (Option ℕ) (sized_step f) (λ h. None) (bare y)))

  pub kept_sized : (t : Ty) → kept g t ≡ option_map capped (sized f t)
  kept_sized = ind-Ty IsKept AnyFn (λ x y is. subst (λ z. IsKept (roll-Ty z)) is (kept_rolled y)) (λ x y is. tt)

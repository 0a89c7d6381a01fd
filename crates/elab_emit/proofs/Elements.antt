-- Types taken apart by folds that give each part with itself: innermost elements and scalars.
use Rattle.std.proofs.Common.{◌≡◌, ◌∙◌, ℕ, List, [], ◌∷◌, map, ap, sym, refl, subst}
use Rattle.c_types.specs.declared.ty.Ty.{Ty, out-Ty, roll-Ty, roll-out-Ty, map-Ty, fold-Ty, fold-roll-Ty, fold_out-Ty, ind-Ty}
use Rattle.c_types.specs.declared.ty.Ty.TheOpen.{Ty-F, FnTy-F}
use Rattle.c_types.specs.declared.ty.Ty.TheVariants as ty
use Rattle.c_types.specs.declared.ty.FnTy.{FnTy, roll-FnTy, map-FnTy, fold-FnTy, fold-roll-FnTy, ind-FnTy}
use Rattle.core_ir.specs.Typed.{element_of, element_step, function_step as function_of_parts}
use Rattle.elab_rows.specs.Units.{function_step, scalars_in, scalars_step}
use Rattle.elab_emit.specs.inner.Elements.{element_by, scalars_by}

-- ---- a fold that gives each type with itself

abbrev with_itself : (A : Type 0) → FnTy-F (Ty × A) FnTy → FnTy
with_itself A f = roll-FnTy (record { result = f.result.0; params = map (λ t. t.0) f.params })

module _ (A : Type 0) (step : Ty-F (Ty × A) FnTy → Ty × A)
    (keeps : (y : Ty-F (Ty × A) FnTy) → (step y).0 ≡ roll-Ty (map-Ty (Ty × A) FnTy Ty FnTy (λ p. p.0) (λ f. f) y)) where
  abbrev folded : Ty → Ty × A
  folded = fold-Ty (Ty × A) FnTy step (with_itself A)

  abbrev folded_fn : FnTy → FnTy
  folded_fn = fold-FnTy (Ty × A) FnTy step (with_itself A)

  abbrev Kept : Ty → Type 0
  Kept t = (folded t).0 ≡ t

  abbrev KeptFn : FnTy → Type 0
  KeptFn f = folded_fn f ≡ f

  abbrev Held : Type 0
  Held = (t : Ty) × Kept t

  abbrev HeldFn : Type 0
  HeldFn = (f : FnTy) × KeptFn f

  abbrev bare : Ty-F Held HeldFn → Ty-F Ty FnTy
  bare y = map-Ty Held HeldFn Ty FnTy (λ e. e.0) (λ e. e.0) y

  abbrev bare_fn : FnTy-F Held HeldFn → FnTy-F Ty FnTy
  bare_fn y = map-FnTy Held HeldFn Ty FnTy (λ e. e.0) (λ e. e.0) y

  whole : (y : Ty-F Held HeldFn)
      → map-Ty (Ty × A) FnTy Ty FnTy (λ p. p.0) (λ f. f) (map-Ty Ty FnTy (Ty × A) FnTy folded folded_fn (bare y)) ≡ bare y
  whole Ty-F.Int = refl
  whole Ty-F.Char = refl
  whole Ty-F.Void = refl
  whole (Ty-F.Struct s) = refl
  whole (Ty-F.Pointer e) = ap Ty-F.Pointer e.1
  whole (Ty-F.Array e n) = ap (λ (t : Ty). Ty-F.Array t n) e.1
  whole (Ty-F.Function e) = ap Ty-F.Function e.1

  kept : (y : Ty-F Held HeldFn) → Kept (roll-Ty (bare y))
  kept y =
      ap (λ p. p.0) (fold-roll-Ty (Ty × A) FnTy step (with_itself A) (bare y))
      ∙ keeps (map-Ty Ty FnTy (Ty × A) FnTy folded folded_fn (bare y)) ∙ ap roll-Ty (whole y)

  whole_list : (hs : List Held) → map (λ (p : Ty × A). p.0) (map folded (map (λ (e : Held). e.0) hs)) ≡ map (λ (e : Held). e.0) hs
  whole_list [] = refl
  whole_list (h ∷ hs) = λ i. h.1 i ∷ whole_list hs i

  kept_fn : (y : FnTy-F Held HeldFn) → KeptFn (roll-FnTy (bare_fn y))
  kept_fn y =
      fold-roll-FnTy (Ty × A) FnTy step (with_itself A) (bare_fn y)
      ∙ ap roll-FnTy (λ i. record { result = y.result.1 i; params = whole_list y.params i })

  pub keeps_type : (t : Ty) → (fold-Ty (Ty × A) FnTy step (with_itself A) t).0 ≡ t
  keeps_type = ind-Ty Kept KeptFn (λ x y is. subst (λ z. Kept (roll-Ty z)) is (kept y)) (λ x y is. subst (λ z. KeptFn (roll-FnTy z)) is (kept_fn y))

  pub keeps_function : (f : FnTy) → fold-FnTy (Ty × A) FnTy step (with_itself A) f ≡ f
  keeps_function = ind-FnTy Kept KeptFn (λ x y is. subst (λ z. Kept (roll-Ty z)) is (kept y)) (λ x y is. subst (λ z. KeptFn (roll-FnTy z)) is (kept_fn y))

-- ---- innermost elements

element_keeps : (y : Ty-F (Ty × Ty) FnTy) → (element_step y).0 ≡ roll-Ty (map-Ty (Ty × Ty) FnTy Ty FnTy (λ p. p.0) (λ f. f) y)
element_keeps Ty-F.Int = sym ty.rolls-Int
element_keeps Ty-F.Char = sym ty.rolls-Char
element_keeps Ty-F.Void = sym ty.rolls-Void
element_keeps (Ty-F.Struct s) = sym (ty.rolls-Struct s)
element_keeps (Ty-F.Pointer t) = sym (ty.rolls-Pointer t.0)
element_keeps (Ty-F.Array t n) = sym (ty.rolls-Array t.0 n)
element_keeps (Ty-F.Function f) = sym (ty.rolls-Function f)

element_rolled : (z : Ty-F Ty FnTy)
    → (element_step (map-Ty Ty FnTy (Ty × Ty) FnTy (fold-Ty (Ty × Ty) FnTy element_step function_of_parts) (fold-FnTy (Ty × Ty) FnTy element_step function_of_parts) z)).1
    ≡ element_by (roll-Ty z) z
unfolding element_of
element_rolled Ty-F.Int = sym ty.rolls-Int
element_rolled Ty-F.Char = sym ty.rolls-Char
element_rolled Ty-F.Void = sym ty.rolls-Void
element_rolled (Ty-F.Struct s) = sym (ty.rolls-Struct s)
element_rolled (Ty-F.Pointer t) = ap ty.Pointer (keeps_type Ty element_step element_keeps t) ∙ sym (ty.rolls-Pointer t)
element_rolled (Ty-F.Array t n) = refl
element_rolled (Ty-F.Function f) = ap ty.Function (keeps_function Ty element_step element_keeps f) ∙ sym (ty.rolls-Function f)

pub element_is : (t : Ty) → element_of t ≡ element_by t (out-Ty t)
unfolding element_of
element_is t =
    ap (λ p. p.1) (fold_out-Ty (Ty × Ty) FnTy element_step function_of_parts t)
    ∙ element_rolled (out-Ty t) ∙ ap (λ u. element_by u (out-Ty t)) (roll-out-Ty t)

-- ---- scalars

module _ (of_struct : ℕ → List Ty) where
  scalars_keeps : (y : Ty-F (Ty × List Ty) FnTy)
      → (scalars_step of_struct y).0 ≡ roll-Ty (map-Ty (Ty × List Ty) FnTy Ty FnTy (λ p. p.0) (λ f. f) y)
  scalars_keeps Ty-F.Int = sym ty.rolls-Int
  scalars_keeps Ty-F.Char = sym ty.rolls-Char
  scalars_keeps Ty-F.Void = sym ty.rolls-Void
  scalars_keeps (Ty-F.Struct s) = sym (ty.rolls-Struct s)
  scalars_keeps (Ty-F.Pointer t) = sym (ty.rolls-Pointer t.0)
  scalars_keeps (Ty-F.Array t n) = sym (ty.rolls-Array t.0 n)
  scalars_keeps (Ty-F.Function f) = sym (ty.rolls-Function f)

  scalars_rolled : (z : Ty-F Ty FnTy)
      → (scalars_step of_struct (map-Ty Ty FnTy (Ty × List Ty) FnTy
      (fold-Ty (Ty × List Ty) FnTy (scalars_step of_struct) (function_step of_struct))
      (fold-FnTy (Ty × List Ty) FnTy (scalars_step of_struct) (function_step of_struct)) z)).1
      ≡ scalars_by of_struct (roll-Ty z) z
  unfolding scalars_in
  scalars_rolled Ty-F.Int = ap (λ t. t ∷ []) (sym ty.rolls-Int)
  scalars_rolled Ty-F.Char = ap (λ t. t ∷ []) (sym ty.rolls-Char)
  scalars_rolled Ty-F.Void = refl
  scalars_rolled (Ty-F.Struct s) = refl
  scalars_rolled (Ty-F.Pointer t) =
      ap (λ u. u ∷ []) (ap ty.Pointer (keeps_type (List Ty) (scalars_step of_struct) scalars_keeps t) ∙ sym (ty.rolls-Pointer t))
  scalars_rolled (Ty-F.Array t n) = refl
  scalars_rolled (Ty-F.Function f) = refl

  pub scalars_is : (t : Ty) → scalars_in of_struct t ≡ scalars_by of_struct t (out-Ty t)
  unfolding scalars_in
  scalars_is t =
      ap (λ p. p.1) (fold_out-Ty (Ty × List Ty) FnTy (scalars_step of_struct) (function_step of_struct) t)
      ∙ scalars_rolled (out-Ty t) ∙ ap (λ u. scalars_by of_struct u (out-Ty t)) (roll-out-Ty t)

-- The units of types stay when more is known of structs.
use Rattle.std.proofs.Common.{◌≡◌, ℕ, zero, suc, ◌+◌, ◌*◌, ◌≤◌, List, [], ◌∷◌, map, Option, Some, None, refl, sym, ap, ◌∙◌, subst, arith}
use Rattle.std.specs.Option.{option_map, option_and_then}
use Rattle.c_types.specs.declared.ty.Ty.{Ty, roll-Ty, map-Ty, fold-roll-Ty, ind-Ty}
use Rattle.c_types.specs.declared.ty.Ty.TheVariants as ty
use Rattle.c_types.specs.declared.ty.Ty.TheOpen.{Ty-F}
use Rattle.c_types.specs.declared.ty.FnTy.{FnTy}
use Rattle.c_types.specs.declared.structs.Member.{Member}
use Rattle.c_types.specs.declared.structs.StructDef.{StructDef}
use Rattle.c_types.specs.Structs.{body_of}
use Rattle.c_types.specs.Units.{sized, sized_step, total, struct_units}

-- what the first answers the second answers
abbrev pub Covers : Option ℕ → Option ℕ → Type 0
Covers o p = (n : ℕ) → o ≡ Some n → p ≡ Some n

-- the second knows what the first knows
abbrev pub Knows : (ℕ → Option ℕ) → (ℕ → Option ℕ) → Type 0
Knows f g = (s : ℕ) → Covers (f s) (g s)

-- ---- the units of each form of type

module _ (f : ℕ → Option ℕ) where
  rolled : (y : Ty-F Ty FnTy) → sized f (roll-Ty y) ≡ sized_step f (map-Ty Ty FnTy (Option ℕ) (Option ℕ) (sized f) (λ h. None) y)
  unfolding sized
  rolled Ty-F.Int = fold-roll-Ty (Option ℕ) (Option ℕ) (sized_step f) (λ h. None) Ty-F.Int
  rolled Ty-F.Char = fold-roll-Ty (Option ℕ) (Option ℕ) (sized_step f) (λ h. None) Ty-F.Char
  rolled Ty-F.Void = fold-roll-Ty (Option ℕ) (Option ℕ) (sized_step f) (λ h. None) Ty-F.Void
  rolled (Ty-F.Struct s) = fold-roll-Ty (Option ℕ) (Option ℕ) (sized_step f) (λ h. None) (Ty-F.Struct s)
  rolled (Ty-F.Pointer t) = fold-roll-Ty (Option ℕ) (Option ℕ) (sized_step f) (λ h. None) (Ty-F.Pointer t)
  rolled (Ty-F.Array t b) = fold-roll-Ty (Option ℕ) (Option ℕ) (sized_step f) (λ h. None) (Ty-F.Array t b)
  rolled (Ty-F.Function h) = fold-roll-Ty (Option ℕ) (Option ℕ) (sized_step f) (λ h. None) (Ty-F.Function h)

  pub sized_int : sized f ty.Int ≡ Some 1
  sized_int = ap (sized f) (sym ty.rolls-Int) ∙ rolled Ty-F.Int

  pub sized_char : sized f ty.Char ≡ Some 1
  sized_char = ap (sized f) (sym ty.rolls-Char) ∙ rolled Ty-F.Char

  pub sized_void : sized f ty.Void ≡ None
  sized_void = ap (sized f) (sym ty.rolls-Void) ∙ rolled Ty-F.Void

  pub sized_struct : (s : ℕ) → sized f (ty.Struct s) ≡ f s
  sized_struct s = ap (sized f) (sym (ty.rolls-Struct s)) ∙ rolled (Ty-F.Struct s)

  pub sized_pointer : (t : Ty) → sized f (ty.Pointer t) ≡ Some 1
  sized_pointer t = ap (sized f) (sym (ty.rolls-Pointer t)) ∙ rolled (Ty-F.Pointer t)

  pub sized_array : (t : Ty) (b : ℕ) → sized f (ty.Array t b) ≡ option_map (λ n. n * b) (sized f t)
  sized_array t b = ap (sized f) (sym (ty.rolls-Array t b)) ∙ rolled (Ty-F.Array t b)

  pub sized_function : (h : FnTy) → sized f (ty.Function h) ≡ None
  sized_function h = ap (sized f) (sym (ty.rolls-Function h)) ∙ rolled (Ty-F.Function h)

-- ---- more is known of structs

covers_times : (b : ℕ) (o p : Option ℕ) → Covers o p → Covers (option_map (λ n. n * b) o) (option_map (λ n. n * b) p)
covers_times b None p covers n is = cc
covers_times b (Some m) p covers n is = subst (λ q. option_map (λ n. n * b) q ≡ Some n) (sym (covers m refl)) is

covers_sum : (a b c d : Option ℕ) → Covers a b → Covers c d → Covers (option_and_then (λ m. option_map (λ n. m + n) c) a) (option_and_then (λ m. option_map (λ n. m + n) d) b)
covers_sum None b c d ab cd n is = cc
covers_sum (Some l) b None d ab cd n is = cc
covers_sum (Some l) b (Some m) d ab cd n is =
    subst (λ q. option_and_then (λ m. option_map (λ n. m + n) d) q ≡ Some n) (sym (ab l refl)) (subst (λ q. option_map (λ n. l + n) q ≡ Some n) (sym (cd m refl)) is)

module _ (f g : ℕ → Option ℕ) (more : Knows f g) where
  abbrev Kept : Ty → Type 0
  Kept t = Covers (sized f t) (sized g t)

  abbrev AnyFn : FnTy → Type 0
  AnyFn h = Unit {0}

  abbrev bare : Ty-F ((t : Ty) × Kept t) ((h : FnTy) × AnyFn h) → Ty-F Ty FnTy
  bare y = map-Ty ((t : Ty) × Kept t) ((h : FnTy) × AnyFn h) Ty FnTy (λ e. e.0) (λ e. e.0) y

  along : {a b c d : Option ℕ} → a ≡ b → c ≡ d → Covers b d → Covers a c
  along {a} {b} {c} {d} ab cd covers n is = cd ∙ covers n (sym ab ∙ is)

  grown : (y : Ty-F ((t : Ty) × Kept t) ((h : FnTy) × AnyFn h)) → Kept (roll-Ty (bare y))
  grown Ty-F.Int = along (rolled f Ty-F.Int) (rolled g Ty-F.Int) (λ n is. is)
  grown Ty-F.Char = along (rolled f Ty-F.Char) (rolled g Ty-F.Char) (λ n is. is)
  grown Ty-F.Void = along (rolled f Ty-F.Void) (rolled g Ty-F.Void) (λ n is. is)
  grown (Ty-F.Struct s) = along (rolled f (Ty-F.Struct s)) (rolled g (Ty-F.Struct s)) (more s)
  grown (Ty-F.Pointer e) = along (rolled f (Ty-F.Pointer e.0)) (rolled g (Ty-F.Pointer e.0)) (λ n is. is)
  grown (Ty-F.Array e b) = along (rolled f (Ty-F.Array e.0 b)) (rolled g (Ty-F.Array e.0 b)) (covers_times b (sized f e.0) (sized g e.0) e.1)
  grown (Ty-F.Function e) = along (rolled f (Ty-F.Function e.0)) (rolled g (Ty-F.Function e.0)) (λ n is. is)

  pub sized_more : (t : Ty) → Covers (sized f t) (sized g t)
  sized_more = ind-Ty Kept AnyFn (λ x y is. subst (λ z. Kept (roll-Ty z)) is (grown y)) (λ x y is. tt)

  pub total_more : (ms : List Member) → Covers (total (map (λ m. sized f m.ty) ms)) (total (map (λ m. sized g m.ty) ms))
  total_more [] = λ n is. is
  total_more (m ∷ ms) = covers_sum (sized f m.ty) (sized g m.ty) (total (map (λ m. sized f m.ty) ms)) (total (map (λ m. sized g m.ty) ms)) (sized_more m.ty) (total_more ms)

-- ---- more levels, and tables that keep the bodies of structs

-- each body stays
abbrev pub BodiesStay : List StructDef → List StructDef → Type 0
BodiesStay defs more = (s : ℕ) (ms : List Member) → body_of defs s ≡ Some ms → body_of more s ≡ Some ms

abbrev body_total : (ℕ → Option ℕ) → Option (List Member) → Option ℕ
body_total f o = option_and_then (λ ms. total (map (λ m. sized f m.ty) ms)) o

body_more : (f g : ℕ → Option ℕ) → Knows f g → (o p : Option (List Member)) → ((ms : List Member) → o ≡ Some ms → p ≡ Some ms) → Covers (body_total f o) (body_total g p)
body_more f g more None p stay n is = cc
body_more f g more (Some ms) p stay n is = subst (λ q. body_total g q ≡ Some n) (sym (stay ms refl)) (total_more f g more ms n is)

module _ (defs more : List StructDef) (stay : BodiesStay defs more) where
  pub struct_units_more : (k j : ℕ) → k ≤ j → Knows (struct_units k defs) (struct_units j more)
  unfolding struct_units
  struct_units_more zero j below s n is = cc
  struct_units_more (suc k) zero below s n is = absurd (omega arith)
  struct_units_more (suc k) (suc j) below s n is = body_more (struct_units k defs) (struct_units j more) (struct_units_more k j (omega arith)) (body_of defs s) (body_of more s) (stay s) n is

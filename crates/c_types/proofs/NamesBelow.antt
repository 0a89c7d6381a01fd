-- Structs of the first so many are of the first of more.
use Rattle.std.proofs.Common.{◌≡◌, ℕ, ◌≤◌, ◌<◌, Bool, true, false, ◌&&◌, List, [], ◌∷◌, map, refl, sym, ap, ◌∙◌, subst, arith}
use Rattle.std.specs.List.{list_all}
use Rattle.std.proofs.lemmas.Bool.{ltb-true, lt-ltb}
use Rattle.c_types.specs.declared.ty.Ty.{Ty, roll-Ty, map-Ty, fold-roll-Ty, ind-Ty}
use Rattle.c_types.specs.declared.ty.Ty.TheOpen.{Ty-F, FnTy-F}
use Rattle.c_types.specs.declared.ty.FnTy.{FnTy, roll-FnTy, map-FnTy, fold-FnTy, fold-roll-FnTy}
use Rattle.c_types.specs.Sound.{names_below, names_below_step, function_step}

both_more : (a b c d : Bool) → (a ≡ true → c ≡ true) → (b ≡ true → d ≡ true) → (a && b) ≡ true → (c && d) ≡ true
both_more true b c d ac bd is = ap (λ e. e && d) (ac refl) ∙ bd is
both_more false b c d ac bd is = absurd (cc)

along : {a b c d : Bool} → a ≡ b → c ≡ d → (b ≡ true → d ≡ true) → a ≡ true → c ≡ true
along {a} {b} {c} {d} ab cd more is = cd ∙ more (sym ab ∙ is)

module _ (few many : ℕ) (more : few ≤ many) where
  abbrev fn_below : ℕ → FnTy → Bool
  fn_below count = fold-FnTy Bool Bool (names_below_step count) function_step

  abbrev Stays : Ty → Type 0
  Stays t = names_below few t ≡ true → names_below many t ≡ true

  abbrev StaysFn : FnTy → Type 0
  StaysFn f = fn_below few f ≡ true → fn_below many f ≡ true

  abbrev Held : Type 0
  Held = (t : Ty) × Stays t

  abbrev HeldFn : Type 0
  HeldFn = (f : FnTy) × StaysFn f

  abbrev bare : Ty-F Held HeldFn → Ty-F Ty FnTy
  bare y = map-Ty Held HeldFn Ty FnTy (λ e. e.0) (λ e. e.0) y

  abbrev bare_fn : FnTy-F Held HeldFn → FnTy-F Ty FnTy
  bare_fn y = map-FnTy Held HeldFn Ty FnTy (λ e. e.0) (λ e. e.0) y

  rolled : (count : ℕ) (y : Ty-F Ty FnTy) → names_below count (roll-Ty y) ≡ names_below_step count (map-Ty Ty FnTy Bool Bool (names_below count) (fn_below count) y)
  unfolding names_below
  rolled count y = fold-roll-Ty Bool Bool (names_below_step count) function_step y

  rolled_fn : (count : ℕ) (y : FnTy-F Ty FnTy) → fn_below count (roll-FnTy y) ≡ function_step (map-FnTy Ty FnTy Bool Bool (names_below count) (fn_below count) y)
  unfolding names_below
  rolled_fn count y = fold-roll-FnTy Bool Bool (names_below_step count) function_step y

  step : (y : Ty-F Held HeldFn) → names_below_step few (map-Ty Ty FnTy Bool Bool (names_below few) (fn_below few) (bare y)) ≡ true → names_below_step many (map-Ty Ty FnTy Bool Bool (names_below many) (fn_below many) (bare y)) ≡ true
  step Ty-F.Int is = refl
  step Ty-F.Char is = refl
  step Ty-F.Void is = refl
  step (Ty-F.Struct s) is = let below : s < few = ltb-true s few is in lt-ltb s many (omega arith)
  step (Ty-F.Pointer e) is = e.1 is
  step (Ty-F.Array e b) is = e.1 is
  step (Ty-F.Function e) is = e.1 is

  all_more : (hs : List Held) → list_all (λ b. b) (map (names_below few) (map (λ (e : Held). e.0) hs)) ≡ true → list_all (λ b. b) (map (names_below many) (map (λ (e : Held). e.0) hs)) ≡ true
  all_more [] is = refl
  all_more (h ∷ hs) is =
      both_more (names_below few h.0) (list_all (λ b. b) (map (names_below few) (map (λ (e : Held). e.0) hs))) (names_below many h.0) (list_all (λ b. b) (map (names_below many) (map (λ (e : Held). e.0) hs))) h.1 (all_more hs) is

  step_fn : (y : FnTy-F Held HeldFn) → function_step (map-FnTy Ty FnTy Bool Bool (names_below few) (fn_below few) (bare_fn y)) ≡ true → function_step (map-FnTy Ty FnTy Bool Bool (names_below many) (fn_below many) (bare_fn y)) ≡ true
  step_fn y is =
      both_more (names_below few y.result.0) (list_all (λ b. b) (map (names_below few) (map (λ (e : Held). e.0) y.params))) (names_below many y.result.0) (list_all (λ b. b) (map (names_below many) (map (λ (e : Held). e.0) y.params))) y.result.1 (all_more y.params) is

  pub names_below_more : (t : Ty) → names_below few t ≡ true → names_below many t ≡ true
  names_below_more =
      ind-Ty Stays StaysFn
      (λ x y is. subst (λ z. Stays (roll-Ty z)) is (along (rolled few (bare y)) (rolled many (bare y)) (step y)))
      (λ x y is. subst (λ z. StaysFn (roll-FnTy z)) is (along (rolled_fn few (bare_fn y)) (rolled_fn many (bare_fn y)) (step_fn y)))

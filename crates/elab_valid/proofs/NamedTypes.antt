-- Types that name structs of the table, and the scalars of which they consist.
use Rattle.std.proofs.Common.{◌≡◌, ◌∙◌, ℕ, zero, suc, ◌<◌, Bool, true, ◌&&◌, List, [], ◌∷◌, ◌++◌, length, map, Contains, Option, Some, None, unwrap_or, refl, ap, sym, subst, arith}
use Rattle.std.specs.List.{list_all}
use Rattle.std.proofs.lemmas.Option.{same_Some}
use Rattle.c_types.specs.declared.structs.Member.{Member}
use Rattle.c_types.specs.declared.structs.StructDef.{StructDef}
use Rattle.c_types.specs.declared.ty.FnTy.{FnTy, roll-FnTy, out-FnTy, map-FnTy, fold-FnTy, fold-roll-FnTy, fold_out-FnTy}
use Rattle.c_types.specs.declared.ty.Ty.{Ty, roll-Ty, out-Ty, out-roll-Ty, map-Ty, fold-Ty, fold-roll-Ty, fold_out-Ty, ind-Ty}
use Rattle.c_types.specs.declared.ty.Ty.TheOpen.{Ty-F, FnTy-F}
use Rattle.c_types.specs.declared.ty.Ty.TheVariants as ty
use Rattle.c_types.specs.Kinds.{Outer, decay, decay_at, function_at, function_of, is_scalar, is_scalar_at, target_at, target_of, element_at}
use Rattle.c_types.specs.Sound.{IsSound, function_names_below, function_step, is_member_type, names_below, names_below_step}
use Rattle.c_types.specs.Structs.{body_of}
use Rattle.c_types.specs.Units.{has_units}
use Rattle.core_ir.specs.Parts as parts
use Rattle.core_ir.specs.Parts.{HasPart}
use Rattle.elab_laws.specs.Touching.{HasParts}
use Rattle.elab_rows.specs.Units.{each_scalars, function_step as fold_step, repeated, scalars, scalars_in, scalars_step, struct_scalars}
use Rattle.elab_valid.proofs.TypeKinds.{first, out-Int, out-Pointer, out-Void, second}

-- ---- names

module _ (count : ℕ) where
  abbrev below_by : Outer → Bool
  below_by o = names_below_step count (map-Ty Ty FnTy Bool Bool (names_below count) (function_names_below count) o)

  below-out : (t : Ty) → names_below count t ≡ below_by (out-Ty t)
  unfolding names_below function_names_below
  below-out t = fold_out-Ty Bool Bool (names_below_step count) function_step t

  pub function-out : (f : FnTy) → function_names_below count f ≡ function_step (map-FnTy Ty FnTy Bool Bool (names_below count) (function_names_below count) (out-FnTy f))
  unfolding names_below function_names_below
  function-out f = fold_out-FnTy Bool Bool (names_below_step count) function_step f

  pub named-by : (t : Ty) (o : Outer) → out-Ty t ≡ o → below_by o ≡ true → names_below count t ≡ true
  named-by t o e h = below-out t ∙ ap below_by e ∙ h

  pub named-at : (t : Ty) (o : Outer) → out-Ty t ≡ o → names_below count t ≡ true → below_by o ≡ true
  named-at t o e h = ap below_by (sym e) ∙ sym (below-out t) ∙ h

  pub int-named : names_below count ty.Int ≡ true
  int-named = named-by ty.Int Ty-F.Int out-Int refl

  pub void-named : names_below count ty.Void ≡ true
  void-named = named-by ty.Void Ty-F.Void out-Void refl

  pub pointer-named : (u : Ty) → names_below count u ≡ true → names_below count (ty.Pointer u) ≡ true
  pointer-named u h = named-by (ty.Pointer u) (Ty-F.Pointer u) (out-Pointer u) h

  target_named_at : (o : Outer) (u : Ty) → below_by o ≡ true → target_at o ≡ Some u → names_below count u ≡ true
  target_named_at Ty-F.Int u h e = absurd (cc)
  target_named_at Ty-F.Char u h e = absurd (cc)
  target_named_at Ty-F.Void u h e = absurd (cc)
  target_named_at (Ty-F.Struct s) u h e = absurd (cc)
  target_named_at (Ty-F.Pointer v) u h e = subst (λ w. names_below count w ≡ true) (same_Some v u e) h
  target_named_at (Ty-F.Array v n) u h e = absurd (cc)
  target_named_at (Ty-F.Function f) u h e = absurd (cc)

  pub target-named : (t u : Ty) → names_below count t ≡ true → target_of t ≡ Some u → names_below count u ≡ true
  unfolding target_of
  target-named t u h e = target_named_at (out-Ty t) u (named-at t (out-Ty t) refl h) e

  element_named_at : (o : Outer) (u : Ty) → below_by o ≡ true → element_at o ≡ Some u → names_below count u ≡ true
  element_named_at Ty-F.Int u h e = absurd (cc)
  element_named_at Ty-F.Char u h e = absurd (cc)
  element_named_at Ty-F.Void u h e = absurd (cc)
  element_named_at (Ty-F.Struct s) u h e = absurd (cc)
  element_named_at (Ty-F.Pointer v) u h e = absurd (cc)
  element_named_at (Ty-F.Array v n) u h e = subst (λ w. names_below count w ≡ true) (same_Some v u e) h
  element_named_at (Ty-F.Function f) u h e = absurd (cc)

  decay_named_at : (t : Ty) (o : Outer) → names_below count t ≡ true → below_by o ≡ true → names_below count (decay_at t o) ≡ true
  decay_named_at t Ty-F.Int h b = h
  decay_named_at t Ty-F.Char h b = h
  decay_named_at t Ty-F.Void h b = h
  decay_named_at t (Ty-F.Struct s) h b = h
  decay_named_at t (Ty-F.Pointer v) h b = h
  decay_named_at t (Ty-F.Array v n) h b = pointer-named v b
  decay_named_at t (Ty-F.Function f) h b = pointer-named t h

  pub decay-named : (t : Ty) → names_below count t ≡ true → names_below count (decay t) ≡ true
  unfolding decay
  decay-named t h = decay_named_at t (out-Ty t) h (named-at t (out-Ty t) refl h)

  function_named_at : (o : Outer) (f : FnTy) → below_by o ≡ true → function_at o ≡ Some f → function_names_below count f ≡ true
  function_named_at Ty-F.Int f h e = absurd (cc)
  function_named_at Ty-F.Char f h e = absurd (cc)
  function_named_at Ty-F.Void f h e = absurd (cc)
  function_named_at (Ty-F.Struct s) f h e = absurd (cc)
  function_named_at (Ty-F.Pointer v) f h e = absurd (cc)
  function_named_at (Ty-F.Array v n) f h e = absurd (cc)
  function_named_at (Ty-F.Function g) f h e = subst (λ w. function_names_below count w ≡ true) (same_Some g f e) h

  pub function-named : (t : Ty) (f : FnTy) → names_below count t ≡ true → function_of t ≡ Some f → function_names_below count f ≡ true
  unfolding function_of
  function-named t f h e = function_named_at (out-Ty t) f (named-at t (out-Ty t) refl h) e

  -- each of these names structs of the table
  abbrev pub AreNamed : List Ty → Type 0
  AreNamed [] = Unit {0}
  AreNamed (t ∷ ts) = (names_below count t ≡ true) × AreNamed ts

  list-named : (ts : List Ty) → list_all (λ b. b) (map (names_below count) ts) ≡ true → AreNamed ts
  list-named [] h = tt
  list-named (t ∷ ts) h =
      (first (names_below count t) (list_all (λ b. b) (map (names_below count) ts)) h, list-named ts (second (names_below count t) (list_all (λ b. b) (map (names_below count) ts)) h))

  pub params-named : (f : FnTy) → function_names_below count f ≡ true → AreNamed (out-FnTy f).params
  params-named f h =
      let both = sym (function-out f) ∙ h in
      list-named (out-FnTy f).params (second (names_below count (out-FnTy f).result) (list_all (λ b. b) (map (names_below count) (out-FnTy f).params)) both)

  pub result-named : (f : FnTy) → function_names_below count f ≡ true → names_below count (out-FnTy f).result ≡ true
  result-named f h =
      let both = sym (function-out f) ∙ h in
      first (names_below count (out-FnTy f).result) (list_all (λ b. b) (map (names_below count) (out-FnTy f).params)) both

-- ---- parts of parts

pub part-more : (defs : List StructDef) (a b c : Ty) → HasPart defs a b → HasPart defs b c → HasPart defs a c
part-more defs a b c (parts.whole t) h = h
part-more defs a b c (parts.element t x n q) h = parts.element t c n (part-more defs t x c q h)
part-more defs a b c (parts.member s ms m x body there q) h = parts.member s ms m c body there (part-more defs m.ty x c q h)

-- ---- scalars of types

module _ (defs : List StructDef) where
  -- scalars that are parts of the type, and name structs of the table
  abbrev pub ScalarsOf : Ty → List Ty → Type 0
  ScalarsOf t [] = Unit {0}
  ScalarsOf t (x ∷ xs) = (HasPart defs t x × (is_scalar x ≡ true) × (names_below (length defs) x ≡ true)) × ScalarsOf t xs

  widened : (t u : Ty) (xs : List Ty) → ((x : Ty) → HasPart defs t x → HasPart defs u x) → ScalarsOf t xs → ScalarsOf u xs
  widened t u [] wider h = tt
  widened t u (x ∷ xs) wider h = ((wider x h.0.0, h.0.1, h.0.2), widened t u xs wider h.1)

  joined : (t : Ty) (xs ys : List Ty) → ScalarsOf t xs → ScalarsOf t ys → ScalarsOf t (xs ++ ys)
  joined t [] ys hx hy = hy
  joined t (x ∷ xs) ys hx hy = (hx.0, joined t xs ys hx.1 hy)

  all-repeated : (t : Ty) (n : ℕ) (xs : List Ty) → ScalarsOf t xs → ScalarsOf t (repeated n xs)
  all-repeated t zero xs h = tt
  all-repeated t (suc n) xs h = joined t xs (repeated n xs) h (all-repeated t n xs h)

  pub parts-of : (root t : Ty) (xs : List Ty) → HasPart defs root t → ScalarsOf t xs → HasParts defs root xs
  parts-of root t [] part h = tt
  parts-of root t (x ∷ xs) part h = (part-more defs root t x part h.0.0, parts-of root t xs part h.1)

  module _ (of : ℕ → List Ty) (sound : (s : ℕ) → ScalarsOf (ty.Struct s) (of s)) where
    abbrev folded : Ty → Ty × List Ty
    folded = fold-Ty (Ty × List Ty) FnTy (scalars_step of) (fold_step of)

    abbrev folded_fn : FnTy → FnTy
    folded_fn = fold-FnTy (Ty × List Ty) FnTy (scalars_step of) (fold_step of)

    abbrev Split : Ty → Type 0
    Split t = ((folded t).0 ≡ t) × (names_below (length defs) t ≡ true → ScalarsOf t (folded t).1)

    abbrev SplitFn : FnTy → Type 0
    SplitFn f = folded_fn f ≡ f

    abbrev Held : Type 0
    Held = (t : Ty) × Split t

    abbrev HeldFn : Type 0
    HeldFn = (f : FnTy) × SplitFn f

    abbrev bare : Ty-F Held HeldFn → Outer
    bare y = map-Ty Held HeldFn Ty FnTy (λ e. e.0) (λ e. e.0) y

    abbrev bare_fn : FnTy-F Held HeldFn → FnTy-F Ty FnTy
    bare_fn y = map-FnTy Held HeldFn Ty FnTy (λ e. e.0) (λ e. e.0) y

    made : (y : Outer) → folded (roll-Ty y) ≡ scalars_step of (map-Ty Ty FnTy (Ty × List Ty) FnTy folded folded_fn y)
    made y = fold-roll-Ty (Ty × List Ty) FnTy (scalars_step of) (fold_step of) y

    one : (t u : Ty) → folded t ≡ (u, u ∷ []) → u ≡ t → is_scalar t ≡ true → Split t
    one t u e is s = (
      ap (λ z. z.0) e ∙ is,
      λ named. subst (ScalarsOf t) (sym (ap (λ z. z.1) e)) ((subst (HasPart defs t) (sym is) (parts.whole t), subst (λ z. is_scalar z ≡ true) (sym is) s, subst (λ z. names_below (length defs) z ≡ true) (sym is) named), tt),
    )

    none : (t u : Ty) → folded t ≡ (u, []) → u ≡ t → Split t
    none t u e is = (ap (λ z. z.0) e ∙ is, λ named. subst (ScalarsOf t) (sym (ap (λ z. z.1) e)) tt)

    scalar-roll : (y : Outer) → is_scalar_at y ≡ true → is_scalar (roll-Ty y) ≡ true
    unfolding is_scalar
    scalar-roll y h = ap is_scalar_at (out-roll-Ty y) ∙ h

    array-split : (e : Held) (n : ℕ) → Split (roll-Ty (Ty-F.Array e.0 n))
    array-split e n =
        let t = roll-Ty (Ty-F.Array e.0 n) in
        let is : ty.Array (folded e.0).0 n ≡ t = ap (λ u. ty.Array u n) e.1.0 ∙ sym (ty.rolls-Array e.0 n) in (
          ap (λ z. z.0) (made (Ty-F.Array e.0 n)) ∙ is,
          λ named.
              let element = named-at (length defs) t (Ty-F.Array e.0 n) (out-roll-Ty (Ty-F.Array e.0 n)) named in
              subst (ScalarsOf t) (sym (ap (λ z. z.1) (made (Ty-F.Array e.0 n))))
              (all-repeated t n (folded e.0).1
              (widened e.0 t (folded e.0).1 (λ x h. subst (λ u. HasPart defs u x) (sym (ty.rolls-Array e.0 n)) (parts.element e.0 x n h)) (e.1.1 element))),
        )

    struct-split : (s : ℕ) → Split (roll-Ty (Ty-F.Struct s))
    struct-split s =
        let t = roll-Ty (Ty-F.Struct s) in (
          ap (λ z. z.0) (made (Ty-F.Struct s)) ∙ sym (ty.rolls-Struct s),
          λ named. subst (ScalarsOf t) (sym (ap (λ z. z.1) (made (Ty-F.Struct s)))) (subst (λ u. ScalarsOf u (of s)) (sym (ty.rolls-Struct s)) (sound s)),
        )

    split-step : (y : Ty-F Held HeldFn) → Split (roll-Ty (bare y))
    split-step Ty-F.Int = one (roll-Ty Ty-F.Int) ty.Int (made Ty-F.Int) (sym ty.rolls-Int) (scalar-roll Ty-F.Int refl)
    split-step Ty-F.Char = one (roll-Ty Ty-F.Char) ty.Char (made Ty-F.Char) (sym ty.rolls-Char) (scalar-roll Ty-F.Char refl)
    split-step Ty-F.Void = none (roll-Ty Ty-F.Void) ty.Void (made Ty-F.Void) (sym ty.rolls-Void)
    split-step (Ty-F.Struct s) = struct-split s
    split-step (Ty-F.Pointer e) =
        one (roll-Ty (Ty-F.Pointer e.0)) (ty.Pointer (folded e.0).0) (made (Ty-F.Pointer e.0)) (ap ty.Pointer e.1.0 ∙ sym (ty.rolls-Pointer e.0)) (scalar-roll (Ty-F.Pointer e.0) refl)
    split-step (Ty-F.Array e n) = array-split e n
    split-step (Ty-F.Function e) = none (roll-Ty (Ty-F.Function e.0)) (ty.Function (folded_fn e.0)) (made (Ty-F.Function e.0)) (ap ty.Function e.1 ∙ sym (ty.rolls-Function e.0))

    whole_list : (hs : List Held) → map (λ (q : Ty × List Ty). q.0) (map folded (map (λ (e : Held). e.0) hs)) ≡ map (λ (e : Held). e.0) hs
    whole_list [] = refl
    whole_list (h ∷ hs) = λ i. h.1.0 i ∷ whole_list hs i

    fn-step : (y : FnTy-F Held HeldFn) → SplitFn (roll-FnTy (bare_fn y))
    fn-step y =
        fold-roll-FnTy (Ty × List Ty) FnTy (scalars_step of) (fold_step of) (bare_fn y)
        ∙ ap roll-FnTy (λ i. record { result = y.result.1.0 i; params = whole_list y.params i })

    split : (t : Ty) → Split t
    split = ind-Ty Split SplitFn (λ x y is. subst (λ z. Split (roll-Ty z)) is (split-step y)) (λ x y is. subst (λ z. SplitFn (roll-FnTy z)) is (fn-step y))

    type-scalars : (t : Ty) → names_below (length defs) t ≡ true → ScalarsOf t (scalars_in of t)
    unfolding scalars_in
    type-scalars t h = (split t).1 h

    member-scalars : (s : ℕ) (all ms : List Member) → body_of defs s ≡ Some all → ((m : Member) → Contains ms m → Contains all m) → list_all (λ m. is_member_type defs m.ty) ms ≡ true
        → ScalarsOf (ty.Struct s) (each_scalars of ms)
    unfolding is_member_type
    member-scalars s all [] body within h = tt
    member-scalars s all (m ∷ ms) body within h =
        let here = first (has_units defs m.ty && names_below (length defs) m.ty) (list_all (λ m. is_member_type defs m.ty) ms) h in
        let named = second (has_units defs m.ty) (names_below (length defs) m.ty) here in
        let this : Contains all m = within m (0, omega arith, refl) in
        joined (ty.Struct s) (scalars_in of m.ty) (each_scalars of ms)
        (widened m.ty (ty.Struct s) (scalars_in of m.ty) (λ x q. parts.member s all m x body this q) (type-scalars m.ty named))
        (member-scalars s all ms body (λ n there. within n (suc there.0, (let lt : there.0 < length ms = there.1 in omega arith), there.2))
        (second (has_units defs m.ty && names_below (length defs) m.ty) (list_all (λ m. is_member_type defs m.ty) ms) h))

  module _ (table : IsSound defs) where
    body-scalars : (of : ℕ → List Ty) → ((s : ℕ) → ScalarsOf (ty.Struct s) (of s)) → (s : ℕ) (o : Option (List Member)) → body_of defs s ≡ o → ScalarsOf (ty.Struct s) (each_scalars of (unwrap_or o []))
    body-scalars of sound s None e = tt
    body-scalars of sound s (Some ms) e = member-scalars of sound s ms ms e (λ m h. h) (table.members_fit s ms e)

    struct-scalars : (depth s : ℕ) → ScalarsOf (ty.Struct s) (struct_scalars depth defs s)
    unfolding struct_scalars
    struct-scalars zero s = tt
    struct-scalars (suc depth) s = body-scalars (struct_scalars depth defs) (struct-scalars depth) s (body_of defs s) refl

    pub scalars-of : (t : Ty) → names_below (length defs) t ≡ true → ScalarsOf t (scalars defs t)
    unfolding scalars
    scalars-of t h = type-scalars (struct_scalars (length defs) defs) (struct-scalars (length defs)) t h

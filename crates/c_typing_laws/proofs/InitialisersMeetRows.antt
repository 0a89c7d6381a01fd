-- The walk of an initialiser finds one that follows its type.
use Rattle.std.proofs.Common.{◌≡◌, ◌≤◌, ◌<◌, ◌∙◌, ℕ, zero, suc, ◌+◌, Bool, true, false, not, ◌&&◌, ◌||◌, if◌then◌else◌, inl, List, [], ◌∷◌, length, map, Option, Some, None, is_some, slice_get, nat_lt, refl, ap, sym, subst, arith}
use Rattle.std.proofs.lemmas.Bool.Decides.{nat_tests}
use Rattle.std.specs.List.{AllByRecursion}
use Rattle.std.specs.Option.{option_map, option_and_then}
use Rattle.c_types.specs.declared.structs.Member.{Member}
use Rattle.c_types.specs.declared.structs.StructDef.{StructDef}
use Rattle.c_types.specs.declared.ty.Ty.{Ty, out-Ty}
use Rattle.c_types.specs.declared.ty.Ty.TheOpen.{Ty-F}
use Rattle.c_types.specs.Kinds.{Outer, passes}
use Rattle.c_types.specs.Structs.{body_of}
use Rattle.c_types.specs.Theorems.{TablesGrow, UnitsStay}
use Rattle.c_tree.specs.declared.expression.Expr.{Expr}
use Rattle.c_tree.specs.declared.statement.Init.{Init, roll-Init, map-Init, fold-roll-Init, ind-Init}
use Rattle.c_tree.specs.declared.statement.Init.TheOpen.{Init-F}
use Rattle.c_typed.specs.declared.expression.TypedExpr.{TypedExpr}
use Rattle.c_typed.specs.declared.statement.TypedInit.{TypedInit, every-TypedInit, every_made-TypedInit, fold-roll-TypedInit, map-TypedInit, roll-TypedInit}
use Rattle.c_typed.specs.declared.statement.TypedInit.TheOpen.{TypedInit-F}
use Rattle.c_typed.specs.declared.statement.TypedInit.TheVariants as init
use Rattle.c_scope.specs.declared.rule.Rule.TheVariants as broken
use Rattle.c_scope.specs.declared.scopes.Binding.{Binding}
use Rattle.c_scope.specs.declared.world.World.{World}
use Rattle.c_scope.specs.Walk.{each, rule}
use Rattle.c_rules.specs.declared.place.Place.TheVariants.{Value}
use Rattle.c_operators.specs.Operators.{converts, takes_value}
use Rattle.c_declaration_typing.specs.Initialisers as walk
use Rattle.c_declaration_typing.specs.Initialisers.{OfInit, braces, given_by, given_text, given_value, has_parts, init_step, leaf_rules, one_part, parts_from, parts_rule, text_of, typed_init, value_rules}
use Rattle.c_declaration_typing.specs.Leaves.{is_constant_leaf}
use Rattle.c_typed_rows.specs.Contexts.{Context, global_type}
use Rattle.c_typed_rows.specs.Expressions.{IsTypedValue}
use Rattle.c_typed_rows.specs.Initialisers.{InitLevel, char_bound, fits_step, init_fits, part_at, part_of, parts_fit}
use Rattle.c_typing_laws.specs.Worlds.{HaveNoParameter}
use Rattle.c_typing_laws.specs.inner.Goes.{Goes, after, ends, never, ruled, weaker}
use Rattle.c_typing_laws.proofs.RulesMeetRows as rules
use Rattle.c_typing_laws.proofs.WalksMeetRows.{expr-meets}
use Rattle.c_typing_laws.proofs.WorldSteps.{IsQuiet, quiet}

-- ---- parts of types

-- the words of the walk and those of the rows are the same
same_part_at : (defs : List StructDef) (i : ℕ) (o : Outer) → walk.part_at defs i o ≡ part_at defs i o
same_part_at defs i (Ty-F.Array t n) = refl
same_part_at defs i (Ty-F.Struct s) = refl
same_part_at defs i Ty-F.Int = refl
same_part_at defs i Ty-F.Char = refl
same_part_at defs i Ty-F.Void = refl
same_part_at defs i (Ty-F.Pointer t) = refl
same_part_at defs i (Ty-F.Function f) = refl

same_part : (defs : List StructDef) (i : ℕ) (t : Ty) → walk.part_of defs i t ≡ part_of defs i t
unfolding walk.part_of part_of
same_part defs i t = same_part_at defs i (out-Ty t)

same_bound : (t : Ty) → walk.char_bound t ≡ char_bound t
unfolding walk.char_bound char_bound
same_bound t = refl

-- bodies decide
part_at-by : (a b : List StructDef) → ((s : ℕ) → body_of a s ≡ body_of b s) → (i : ℕ) (o : Outer) → part_at a i o ≡ part_at b i o
part_at-by a b same i (Ty-F.Array t n) = refl
part_at-by a b same i (Ty-F.Struct s) = ap (λ o. option_map (λ m. m.ty) (option_and_then (λ ms. slice_get ms i) o)) (same s)
part_at-by a b same i Ty-F.Int = refl
part_at-by a b same i Ty-F.Char = refl
part_at-by a b same i Ty-F.Void = refl
part_at-by a b same i (Ty-F.Pointer t) = refl
part_at-by a b same i (Ty-F.Function f) = refl

part_of-by : (a b : List StructDef) → ((s : ℕ) → body_of a s ≡ body_of b s) → (i : ℕ) (t : Ty) → part_of a i t ≡ part_of b i t
unfolding part_of
part_of-by a b same i t = part_at-by a b same i (out-Ty t)

member-stays : (u : Ty) (i : ℕ) (o p : Option (List Member)) → ((ms : List Member) → o ≡ Some ms → p ≡ Some ms)
    → option_map (λ m. m.ty) (option_and_then (λ ms. slice_get ms i) o) ≡ Some u → option_map (λ m. m.ty) (option_and_then (λ ms. slice_get ms i) p) ≡ Some u
member-stays u i None p stays is = cc
member-stays u i (Some ms) p stays is = subst (λ q. option_map (λ m. m.ty) (option_and_then (λ ms. slice_get ms i) q) ≡ Some u) (sym (stays ms refl)) is

part_at-stays : (a b : List StructDef) → ((s : ℕ) (ms : List Member) → body_of a s ≡ Some ms → body_of b s ≡ Some ms) → (i : ℕ) (u : Ty) (o : Outer) → part_at a i o ≡ Some u → part_at b i o ≡ Some u
part_at-stays a b grown i u (Ty-F.Array t n) is = is
part_at-stays a b grown i u (Ty-F.Struct s) is = member-stays u i (body_of a s) (body_of b s) (grown s) is
part_at-stays a b grown i u Ty-F.Int is = cc
part_at-stays a b grown i u Ty-F.Char is = cc
part_at-stays a b grown i u Ty-F.Void is = cc
part_at-stays a b grown i u (Ty-F.Pointer t) is = cc
part_at-stays a b grown i u (Ty-F.Function f) is = cc

part_of-stays : (a b : List StructDef) → ((s : ℕ) (ms : List Member) → body_of a s ≡ Some ms → body_of b s ≡ Some ms) → (i : ℕ) (u t : Ty) → part_of a i t ≡ Some u → part_of b i t ≡ Some u
unfolding part_of
part_of-stays a b grown i u t is = part_at-stays a b grown i u (out-Ty t) is

-- where the last of some parts is there, so is each before it

bound_by : (t : Ty) (n i m : ℕ) (b : Bool) → nat_lt m n ≡ b → i ≤ m → is_some (if b then Some t else None) ≡ true → nat_lt i n ≡ true
bound_by t n i m true last below is = grind (arith, nat_tests, below, last)
bound_by t n i m false last below is = cc

bound_there : (t : Ty) (n i m : ℕ) → i ≤ m → is_some (if nat_lt m n then Some t else None) ≡ true → (u : Ty) × ((if nat_lt i n then Some t else None) ≡ Some u)
bound_there t n i m below is = (t, ap (λ b. if b then Some t else None) (bound_by t n i m (nat_lt m n) refl below is))

element_there : {A : Type 0} (xs : List A) (i m : ℕ) → i ≤ m → is_some (slice_get xs m) ≡ true → (a : A) × (slice_get xs i ≡ Some a)
element_there [] i m below is = cc
element_there (x ∷ xs) zero m below is = (x, refl)
element_there (x ∷ xs) (suc i) zero below is = absurd (omega arith)
element_there (x ∷ xs) (suc i) (suc m) below is = element_there xs i m (omega arith) is

some_of_map : (o : Option Member) → is_some (option_map (λ m. m.ty) o) ≡ true → is_some o ≡ true
some_of_map None is = cc
some_of_map (Some m) is = refl

member_there : (o : Option (List Member)) (i m : ℕ) → i ≤ m → is_some (option_map (λ m. m.ty) (option_and_then (λ ms. slice_get ms m) o)) ≡ true
    → (u : Ty) × (option_map (λ m. m.ty) (option_and_then (λ ms. slice_get ms i) o) ≡ Some u)
member_there None i m below is = cc
member_there (Some ms) i m below is = let a = element_there ms i m below (some_of_map (slice_get ms m) is) in (a.0.ty, ap (option_map (λ m. m.ty)) a.1)

part_at-there : (defs : List StructDef) (o : Outer) (i m : ℕ) → i ≤ m → is_some (part_at defs m o) ≡ true → (u : Ty) × (part_at defs i o ≡ Some u)
part_at-there defs (Ty-F.Array t n) i m below is = bound_there t n i m below is
part_at-there defs (Ty-F.Struct s) i m below is = member_there (body_of defs s) i m below is
part_at-there defs Ty-F.Int i m below is = cc
part_at-there defs Ty-F.Char i m below is = cc
part_at-there defs Ty-F.Void i m below is = cc
part_at-there defs (Ty-F.Pointer t) i m below is = cc
part_at-there defs (Ty-F.Function f) i m below is = cc

part_of-there : (defs : List StructDef) (t : Ty) (i m : ℕ) → i ≤ m → is_some (part_of defs m t) ≡ true → (u : Ty) × (part_of defs i t ≡ Some u)
unfolding part_of
part_of-there defs t i m below is = part_at-there defs (out-Ty t) i m below is

parts_there : (defs : List StructDef) (t : Ty) (n i : ℕ) → i < n → has_parts defs n t ≡ true → (u : Ty) × (part_of defs i t ≡ Some u)
unfolding has_parts
parts_there defs t zero i below is = absurd (omega arith)
parts_there defs t (suc m) i below is = part_of-there defs t i m (omega arith) (subst (λ o. is_some o ≡ true) (same_part defs m t) is)

has_parts-by : (a b : List StructDef) → ((s : ℕ) → body_of a s ≡ body_of b s) → (n : ℕ) (t : Ty) → has_parts a n t ≡ true → has_parts b n t ≡ true
unfolding has_parts
has_parts-by a b same zero t is = refl
has_parts-by a b same (suc n) t is = subst (λ o. is_some o ≡ true) (same_part a n t ∙ part_of-by a b same n t ∙ sym (same_part b n t)) is

-- ---- initialisers that follow types

fits-made : (defs : List StructDef) (node : TypedInit-F TypedInit) → init_fits defs (roll-TypedInit node) ≡ fits_step defs (map-TypedInit TypedInit (Ty → Bool) (init_fits defs) node)
unfolding init_fits
fits-made defs node = fold-roll-TypedInit (Ty → Bool) (fits_step defs) node

fits-Expr : (defs : List StructDef) (x : TypedExpr) (t : Ty) → init_fits defs (init.Expr x) t ≡ (takes_value t && converts x t)
fits-Expr defs x t = ap (λ i. init_fits defs i t) (sym (init.rolls-Expr x)) ∙ ap (λ f. f t) (fits-made defs (TypedInit-F.Expr x))

fits-Text : (defs : List StructDef) (bytes : List ℕ) (t : Ty) → init_fits defs (init.Text bytes) t ≡ passes (nat_lt (length bytes)) (char_bound t)
fits-Text defs bytes t = ap (λ i. init_fits defs i t) (sym (init.rolls-Text bytes)) ∙ ap (λ f. f t) (fits-made defs (TypedInit-F.Text bytes))

fits-Braces : (defs : List StructDef) (xs : List TypedInit) (t : Ty) → init_fits defs (init.Braces xs) t ≡ parts_fit defs t 0 (map (init_fits defs) xs)
fits-Braces defs xs t = ap (λ i. init_fits defs i t) (sym (init.rolls-Braces xs)) ∙ ap (λ f. f t) (fits-made defs (TypedInit-F.Braces xs))

module _ (stay : UnitsStay) (grow : TablesGrow) (k : Context) (gs : List Ty) (ahead : (n : ℕ) (t : Ty) → slice_get gs n ≡ Some t → global_type k n ≡ Some t) where
  abbrev Levels : TypedInit → Type 0
  Levels = every-TypedInit (InitLevel k)

  levels-Expr : (x : TypedExpr) → IsTypedValue k x → Levels (init.Expr x)
  levels-Expr x h = subst Levels (init.rolls-Expr x) (every_made-TypedInit (InitLevel k) (TypedInit-F.Expr x) (TypedInit-F.Expr x) refl h)

  levels-Text : (bytes : List ℕ) → Levels (init.Text bytes)
  levels-Text bytes = subst Levels (init.rolls-Text bytes) (every_made-TypedInit (InitLevel k) (TypedInit-F.Text bytes) (TypedInit-F.Text bytes) refl tt)

  held_levels : (xs : List TypedInit) → AllByRecursion Levels xs → List ((x : TypedInit) × Levels x)
  held_levels [] hs = []
  held_levels (x ∷ xs) hs = (x, hs.0) ∷ held_levels xs hs.1

  held_levels-are : (xs : List TypedInit) (hs : AllByRecursion Levels xs) → map (λ h. h.0) (held_levels xs hs) ≡ xs
  unfolding held_levels
  held_levels-are [] hs = refl
  held_levels-are (x ∷ xs) hs = ap (λ ys. x ∷ ys) (held_levels-are xs hs.1)

  levels-Braces : (xs : List TypedInit) → AllByRecursion Levels xs → Levels (init.Braces xs)
  levels-Braces xs hs = subst Levels (init.rolls-Braces xs) (every_made-TypedInit (InitLevel k) (TypedInit-F.Braces xs) (TypedInit-F.Braces (held_levels xs hs)) (ap TypedInit-F.Braces (held_levels-are xs hs)) tt)

  module _ (ss : List (List Binding)) (ls : List Ty) where
    abbrev Here : World → Type 0
    Here w = rules.Here stay grow k gs ahead ss ls w

    later : (w v : World) → IsQuiet w v → Here w → Here v
    later w v q here = rules.here-later stay grow k gs ahead ss ls w v q here

    -- typed where no name is a parameter's, and following the type of its part, if there is one
    pub record FollowsType (to : Option Ty) (x : TypedInit) : Type 0 where
      pub levels : HaveNoParameter ss → Levels x
      pub fits : (t : Ty) → to ≡ Some t → init_fits k.structs x t ≡ true

    constant-goes : (P : Type 0) (b : Bool) (w : World) → P → Goes k gs quiet w (rule broken.NotConstant b w) (λ u. P)
    constant-goes P true w holds = ends k gs (λ below. holds)
    constant-goes P false w holds = never k gs

    value_rules-go : (is_global : Bool) (t : Ty) (x : TypedExpr) (w : World) → Goes k gs quiet w (value_rules is_global t x w) (λ u. (takes_value t && converts x t) ≡ true)
    unfolding value_rules
    value_rules-go is_global t x w = ruled k gs broken.Form (takes_value t) _ (λ takes. ruled k gs broken.Unconverted (converts x t) _ (λ fits.
        constant-goes _ (not is_global || is_constant_leaf x) w (rules.and_true (takes_value t) (converts x t) takes fits)))

    leaf_rules-go : (is_global : Bool) (to : Option Ty) (x : TypedExpr) (w : World) → Goes k gs quiet w (leaf_rules is_global to x w) (λ u. (t : Ty) → to ≡ Some t → (takes_value t && converts x t) ≡ true)
    leaf_rules-go is_global None x w = ends k gs (λ below t is. cc)
    leaf_rules-go is_global (Some s) x w = weaker k gs _ (λ u holds t is. let same : s ≡ t = cc in subst (λ r. (takes_value r && converts x r) ≡ true) same holds) (value_rules-go is_global s x w)

    value-goes : (is_global : Bool) (to : Option Ty) (e : Expr) (w : World) → Here w → Goes k gs quiet w (given_value is_global to e w) (FollowsType to)
    value-goes is_global to e w here =
        after k gs _ _ (expr-meets stay grow k gs ahead e ss ls Value w here) (λ x v q.
        after k gs _ _ (leaf_rules-go is_global to x v) (λ u s r.
        ends k gs (λ below holds hx. record {
          levels = λ c. levels-Expr x (record { levels = hx.typed (inl c); value = hx.value });
          fits = λ t is. fits-Expr k.structs x t ∙ holds t is;
        })))

    text_target : (bytes : List ℕ) (n : ℕ) (to : Option Ty) (t : Ty) → option_and_then walk.char_bound to ≡ Some n → to ≡ Some t → char_bound t ≡ Some n
    text_target bytes n None t bound is = cc
    text_target bytes n (Some s) t bound is = let same : s ≡ t = cc in ap char_bound (sym same) ∙ sym (same_bound s) ∙ bound

    text-goes : (bytes : List ℕ) (n : ℕ) (to : Option Ty) (w : World) → option_and_then walk.char_bound to ≡ Some n → Goes k gs quiet w (given_text bytes n w) (FollowsType to)
    text-goes bytes n to w bound = ruled k gs broken.Form (nat_lt (length bytes) n) _ (λ short. ends k gs (λ below. record {
      levels = λ c. levels-Text bytes;
      fits = λ t is. fits-Text k.structs bytes t ∙ ap (passes (nat_lt (length bytes))) (text_target bytes n to t bound is) ∙ short;
    }))

    given-goes : (is_global : Bool) (to : Option Ty) (e : Expr) (o : Option (List ℕ)) (n : Option ℕ) (w : World) → option_and_then walk.char_bound to ≡ n → Here w
        → Goes k gs quiet w (given_by is_global to e o n w) (FollowsType to)
    given-goes is_global to e (Some bytes) (Some n) w bound here = text-goes bytes n to w bound
    given-goes is_global to e (Some bytes) None w bound here = value-goes is_global to e w here
    given-goes is_global to e None n w bound here = value-goes is_global to e w here

    -- ---- braces

    -- each of these, from this one on, follows the type of its part in this table
    abbrev PartsFollow : List StructDef → Ty → ℕ → List TypedInit → Type 0
    PartsFollow defs t i [] = Unit {0}
    PartsFollow defs t i (x ∷ xs) = ((u : Ty) → part_of defs i t ≡ Some u → init_fits k.structs x u ≡ true) × PartsFollow defs t (suc i) xs

    both_fit : (p : Ty → Bool) (u : Ty) (o : Option Ty) (rest : Bool) → o ≡ Some u → p u ≡ true → rest ≡ true → (passes p o && rest) ≡ true
    both_fit p u None rest is here there = cc
    both_fit p u (Some s) true is here there = let same : s ≡ u = cc in rules.and_true (p s) true (ap p same ∙ here) refl
    both_fit p u (Some s) false is here there = cc

    parts-fit : (defs : List StructDef) → ((s : ℕ) (ms : List Member) → body_of defs s ≡ Some ms → body_of k.structs s ≡ Some ms) → (t : Ty) (n i : ℕ) (xs : List TypedInit) → has_parts defs n t ≡ true → i + length xs ≡ n → PartsFollow defs t i xs
        → parts_fit k.structs t i (map (init_fits k.structs) xs) ≡ true
    parts-fit defs grown t n i [] has count follow = refl
    parts-fit defs grown t n i (x ∷ xs) has count follow =
        let u = parts_there defs t n i (omega arith) has in
        both_fit (init_fits k.structs x) u.0 (part_of k.structs i t) _ (part_of-stays defs k.structs grown i u.0 t u.1) (follow.0 u.0 u.1)
        (parts-fit defs grown t n (suc i) xs has (omega arith) follow.1)

    -- what is known of parts in a walk that leaves the bodies of this table
    abbrev PartsFound : List StructDef → Option Ty → ℕ → List TypedInit → Type 0
    PartsFound defs to i xs = (HaveNoParameter ss → AllByRecursion Levels xs) × ((t : Ty) → to ≡ Some t → PartsFollow defs t i xs)

    module _ (is_global : Bool) where
      abbrev MeetsInit : Init → Type 0
      MeetsInit i = (to : Option Ty) (w : World) → Here w → Goes k gs quiet w (typed_init is_global i to w) (FollowsType to)

      abbrev MetInit : Type 0
      MetInit = (i : Init) × MeetsInit i

      part-target : (defs : List StructDef) (w : World) → ((s : ℕ) → body_of defs s ≡ body_of w.structs s) → (i : ℕ) (to : Option Ty) (t u : Ty) → to ≡ Some t → part_of defs i t ≡ Some u
          → option_and_then (walk.part_of w.structs i) to ≡ Some u
      part-target defs w bodies i None t u is found = cc
      part-target defs w bodies i (Some s) t u is found =
          let same : s ≡ t = cc in
          same_part w.structs i s ∙ ap (part_of w.structs i) same ∙ sym (part_of-by defs w.structs bodies i t) ∙ found

      parts-go : (defs : List StructDef) (i : ℕ) (to : Option Ty) (hs : List MetInit) (w : World) → ((s : ℕ) → body_of defs s ≡ body_of w.structs s) → Here w
          → Goes k gs quiet w (each (parts_from i to (map (typed_init is_global) (map (λ (h : MetInit). h.0) hs))) w) (PartsFound defs to i)
      parts-go defs i to [] w bodies here = ends k gs (λ below. (λ c. tt, λ t is. tt))
      parts-go defs i to (h ∷ hs) w bodies here =
          after k gs (one_part i to (typed_init is_global h.0) w) _ (h.1 (option_and_then (walk.part_of w.structs i) to) w here) (λ x v q.
          after k gs _ _ (parts-go defs (suc i) to hs v (λ s. bodies s ∙ sym (q.bodies s)) (later w v q here)) (λ xs u r.
          ends k gs (λ below hxs hx.
          (λ c. (hx.levels c, hxs.0 c), λ t is. (λ u found. hx.fits u (part-target defs w bodies i to t u is found), hxs.1 t is)))))

      by_rule : (defs more : List StructDef) (t : Ty) (n : ℕ) (w : World) → ((s : ℕ) → body_of more s ≡ body_of defs s) → (b : Bool) → has_parts more n t ≡ b
          → Goes k gs quiet w (rule broken.Form b w) (λ u. has_parts defs n t ≡ true)
      by_rule defs more t n w bodies true has = ends k gs (λ below. has_parts-by more defs bodies n t has)
      by_rule defs more t n w bodies false has = never k gs

      rule_of-parts : (defs : List StructDef) (to : Option Ty) (n : ℕ) (w : World) → ((s : ℕ) → body_of w.structs s ≡ body_of defs s)
          → Goes k gs quiet w (parts_rule to n w) (λ u. (t : Ty) → to ≡ Some t → has_parts defs n t ≡ true)
      rule_of-parts defs None n w bodies = ends k gs (λ below t is. cc)
      rule_of-parts defs (Some s) n w bodies = weaker k gs _ (λ u has t is. let same : s ≡ t = cc in subst (λ r. has_parts defs n r ≡ true) same has)
          (by_rule defs w.structs s n w bodies (has_parts w.structs n s) refl)

      braces-go : (to : Option Ty) (hs : List MetInit) (w : World) → Here w → Goes k gs quiet w (braces to (map (typed_init is_global) (map (λ (h : MetInit). h.0) hs)) w) (FollowsType to)
      braces-go to hs w here =
          after k gs _ _ (parts-go w.structs 0 to hs w (λ s. refl) here) (λ xs v q.
          after k gs _ _ (rule_of-parts w.structs to (length xs) v q.bodies) (λ u s r.
          ends k gs (λ below has found. record {
            levels = λ c. levels-Braces xs (found.0 c);
            fits = λ t is. fits-Braces k.structs xs t ∙ parts-fit w.structs (λ n ms has_body. below.structs.bodies n ms (r.bodies n ∙ q.bodies n ∙ has_body)) t (length xs) 0 xs (has t is) (omega arith) (found.1 t is);
          })))

      step : (node : Init-F Init) → typed_init is_global (roll-Init node) ≡ init_step is_global (map-Init Init OfInit (typed_init is_global) node)
      unfolding typed_init
      step node = fold-roll-Init OfInit (init_step is_global) node

      by : (node : Init-F Init) → ((to : Option Ty) (w : World) → Here w → Goes k gs quiet w (init_step is_global (map-Init Init OfInit (typed_init is_global) node) to w) (FollowsType to)) → MeetsInit (roll-Init node)
      by node meets to w here = subst (λ (p : OfInit). Goes k gs quiet w (p to w) (FollowsType to)) (sym (step node)) (meets to w here)

      met : (y : Init-F MetInit) → MeetsInit (roll-Init (map-Init MetInit Init (λ h. h.0) y))
      met (Init-F.Expr e) = by (Init-F.Expr e) (λ to w here. given-goes is_global to e (text_of e) (option_and_then walk.char_bound to) w refl here)
      met (Init-F.Braces hs) = by (Init-F.Braces (map (λ (h : MetInit). h.0) hs)) (λ to w here. braces-go to hs w here)

      pub init-meets : (i : Init) → MeetsInit i
      init-meets = ind-Init MeetsInit (λ x y is. subst (λ z. MeetsInit (roll-Init z)) is (met y))

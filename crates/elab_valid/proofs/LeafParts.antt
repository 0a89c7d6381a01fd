-- The leaves of an initialiser: each is for a part of the variable, which takes what gives it.
use Rattle.std.proofs.Common.{◌≡◌, ◌∙◌, ℕ, zero, suc, ◌+◌, Bool, true, ◌&&◌, List, [], ◌∷◌, ◌++◌, length, map, nat_lt, Option, Some, None, option_map, option_and_then, unwrap_or, refl, ap, sym, subst, slice_get, arith}
use Rattle.std.proofs.lemmas.Bool.{lt-ltb}
use Rattle.std.specs.Prelude.{if◌then◌else◌}
use Rattle.c_types.specs.declared.structs.Member.{Member}
use Rattle.c_types.specs.declared.structs.StructDef.{StructDef}
use Rattle.c_types.specs.declared.ty.Ty.{Ty, out-Ty, roll-Ty, roll-out-Ty}
use Rattle.c_types.specs.declared.ty.Ty.TheOpen.{Ty-F}
use Rattle.c_types.specs.declared.ty.Ty.TheVariants as ty
use Rattle.c_types.specs.Kinds.{Outer, is_scalar, passes, is_integer}
use Rattle.c_types.specs.Sound.{IsSound, is_member_type, names_below}
use Rattle.c_types.specs.Structs.{body_of}
use Rattle.c_types.specs.Units.{has_units}
use Rattle.c_typed.specs.declared.expression.TypedExpr.{TypedExpr}
use Rattle.c_typed.specs.declared.statement.TypedInit.{TypedInit, every-TypedInit, every_here-TypedInit, every_held-TypedInit, fold-roll-TypedInit, ind-TypedInit, map-TypedInit, out-roll-TypedInit, roll-TypedInit}
use Rattle.c_typed.specs.declared.statement.TypedInit.TheOpen.{TypedInit-F}
use Rattle.c_operators.specs.Operators.{converts, takes_value}
use Rattle.c_typed_rows.specs.Initialisers.{fits_step, init_fits, part_at, part_of, parts_fit}
use Rattle.core_ir.specs.Parts as parts
use Rattle.core_ir.specs.Parts.{HasPart}
use Rattle.elab_rows.specs.Units.{repeated, scalars, units}
use Rattle.elab_pieces.specs.Initialisers.{ByByte, ByExpr, Given, Leaf, Leaves, Missing, all_scalars, brace_leaves, leaves, leaves_step, missing, part_types, part_types_at, text_leaves}
use Rattle.elab_valid.proofs.MemberParts.{there-at, passes-at}
use Rattle.elab_valid.proofs.NamedTypes.{ScalarsOf, named-at, part-more, scalars-of}
use Rattle.elab_valid.proofs.TextScalars.{AllIntegers, text-integers}
use Rattle.elab_valid.proofs.TypeKinds.{first, second}

-- ---- initialisers taken apart

abbrev pub EachInit : (TypedInit → Type 0) → List TypedInit → Type 0
EachInit Q [] = Unit {0}
EachInit Q (i ∷ is) = Q i × EachInit Q is

abbrev pub InitParts : (TypedInit → Type 0) → TypedInit-F TypedInit → Type 0
InitParts Q (TypedInit-F.Braces is) = EachInit Q is
InitParts Q _ = Unit {0}

module _ (Q : TypedInit → Type 0) where
  list-held : (ys : List ((i : TypedInit) × Q i)) → EachInit Q (map (λ (e : (i : TypedInit) × Q i). e.0) ys)
  list-held [] = tt
  list-held (y ∷ ys) = (y.1, list-held ys)

  init-parts : (y : TypedInit-F ((i : TypedInit) × Q i)) → InitParts Q (map-TypedInit ((i : TypedInit) × Q i) TypedInit (λ e. e.0) y)
  init-parts (TypedInit-F.Expr e) = tt
  init-parts (TypedInit-F.Text bytes) = tt
  init-parts (TypedInit-F.Braces is) = list-held is

pub opened-init : (N : TypedInit-F TypedInit → Type 0) (x : TypedInit-F TypedInit) → every-TypedInit N (roll-TypedInit x) → N x × InitParts (every-TypedInit N) x
opened-init N x h =
    let held = every_held-TypedInit N (roll-TypedInit x) h in
    (subst N (out-roll-TypedInit x) (every_here-TypedInit N (roll-TypedInit x) h), subst (InitParts (every-TypedInit N)) (held.1 ∙ out-roll-TypedInit x) (init-parts (every-TypedInit N) held.0))

-- ---- leaves

module _ (defs : List StructDef) (table : IsSound defs) (Q : TypedExpr → Type 0) where
  abbrev Named : Ty → Type 0
  Named t = names_below (length defs) t ≡ true

  abbrev pub GivenFits : Ty → Given → Type 0
  GivenFits t (ByExpr e) = Q e × ((takes_value t && converts e t) ≡ true)
  GivenFits t (ByByte n) = (is_scalar t ≡ true) × (is_integer t ≡ true)
  GivenFits t Missing = is_scalar t ≡ true

  -- of a variable of this type
  abbrev pub LeafFits : Ty → Leaf → Type 0
  LeafFits root l = HasPart defs root l.ty × Named l.ty × GivenFits l.ty l.given

  abbrev pub AllLeaves : Ty → List Leaf → Type 0
  AllLeaves root [] = Unit {0}
  AllLeaves root (l ∷ ls) = LeafFits root l × AllLeaves root ls

  both-leaves : (root : Ty) (xs ys : List Leaf) → AllLeaves root xs → AllLeaves root ys → AllLeaves root (xs ++ ys)
  both-leaves root [] ys hx hy = hy
  both-leaves root (x ∷ xs) ys hx hy = (hx.0, both-leaves root xs ys hx.1 hy)

  -- scalars that are parts of the root
  abbrev ScalarsIn : Ty → List Ty → Type 0
  ScalarsIn root [] = Unit {0}
  ScalarsIn root (x ∷ xs) = (HasPart defs root x × (is_scalar x ≡ true) × Named x) × ScalarsIn root xs

  scalars-in : (root t : Ty) (xs : List Ty) → HasPart defs root t → ScalarsOf defs t xs → ScalarsIn root xs
  scalars-in root t [] part h = tt
  scalars-in root t (x ∷ xs) part h = ((part-more defs root t x part h.0.0, h.0.1, h.0.2), scalars-in root t xs part h.1)

  both-scalars : (root : Ty) (xs ys : List Ty) → ScalarsIn root xs → ScalarsIn root ys → ScalarsIn root (xs ++ ys)
  both-scalars root [] ys hx hy = hy
  both-scalars root (x ∷ xs) ys hx hy = (hx.0, both-scalars root xs ys hx.1 hy)

  missing-leaves : (root : Ty) (xs : List Ty) (k : ℕ) → ScalarsIn root xs → AllLeaves root (missing xs k)
  missing-leaves root [] k h = tt
  missing-leaves root (x ∷ xs) k h = ((h.0.0, h.0.2, h.0.1), missing-leaves root xs (k + 1) h.1)

  text-fit : (root : Ty) (bs : List ℕ) (xs : List Ty) (k : ℕ) → ScalarsIn root xs → AllIntegers xs → AllLeaves root (text_leaves bs xs k)
  text-fit root [] xs k h ints = missing-leaves root xs k h
  text-fit root (b ∷ bs) [] k h ints = tt
  text-fit root (b ∷ bs) (x ∷ xs) k h ints = ((h.0.0, h.0.2, (h.0.1, ints.0)), text-fit root bs xs (k + 1) h.1 ints.1)

  -- ---- the types of parts

  -- from this number on
  abbrev PartsFrom : Ty → ℕ → List Ty → Type 0
  PartsFrom t i [] = Unit {0}
  PartsFrom t i (u ∷ us) = ((part_of defs i t ≡ Some u) × HasPart defs t u × Named u) × PartsFrom t (suc i) us

  array-parts : (t e : Ty) (n : ℕ) → out-Ty t ≡ Ty-F.Array e n → Named e → (m i : ℕ) → i + m ≡ n → PartsFrom t i (repeated m (e ∷ []))
  unfolding part_of
  array-parts t e n out named zero i sum = tt
  array-parts t e n out named (suc m) i sum =
      let is : t ≡ ty.Array e n = sym (roll-out-Ty t) ∙ ap roll-Ty out ∙ ty.rolls-Array e n in
      let below : nat_lt i n ≡ true = lt-ltb i n (omega (arith, sum)) in (
        (ap (part_at defs i) out ∙ ap (λ (b : Bool). if b then Some e else None) below, subst (λ z. HasPart defs z e) (sym is) (parts.element e e n (parts.whole e)), named),
        array-parts t e n out named m (suc i) (omega (arith, sum)),
      )

  -- the members of a body from a number on
  abbrev MembersFrom : List Member → ℕ → List Member → Type 0
  MembersFrom all i [] = Unit {0}
  MembersFrom all i (m ∷ ms) = (slice_get all i ≡ Some m) × MembersFrom all (suc i) ms

  one-more : (x : Member) (all : List Member) (i : ℕ) (ms : List Member) → MembersFrom all i ms → MembersFrom (x ∷ all) (suc i) ms
  one-more x all i [] h = tt
  one-more x all i (m ∷ ms) h = (h.0, one-more x all (suc i) ms h.1)

  all-members : (all : List Member) → MembersFrom all 0 all
  all-members [] = tt
  all-members (m ∷ ms) = (refl, one-more m ms 0 ms (all-members ms))

  struct-parts : (t : Ty) (s : ℕ) (all : List Member) → out-Ty t ≡ Ty-F.Struct s → body_of defs s ≡ Some all → (i : ℕ) (ms : List Member) → MembersFrom all i ms → PartsFrom t i (map (λ (m : Member). m.ty) ms)
  unfolding part_of is_member_type
  struct-parts t s all out body i [] h = tt
  struct-parts t s all out body i (m ∷ ms) h =
      let is : t ≡ ty.Struct s = sym (roll-out-Ty t) ∙ ap roll-Ty out ∙ ty.rolls-Struct s in
      let fits = passes-at (λ (m : Member). is_member_type defs m.ty) all i m (table.members_fit s all body) h.0 in (
        (
          ap (part_at defs i) out ∙ ap (λ o. option_map (λ (m : Member). m.ty) (option_and_then (λ ms. slice_get ms i) o)) body ∙ ap (λ o. option_map (λ (m : Member). m.ty) o) h.0,
          subst (λ z. HasPart defs z m.ty) (sym is) (parts.member s all m m.ty body (there-at all i m h.0) (parts.whole m.ty)),
          second (has_units defs m.ty) (names_below (length defs) m.ty) fits,
        ),
        struct-parts t s all out body (suc i) ms h.1,
      )

  members-parts : (t : Ty) (s : ℕ) (o : Option (List Member)) → out-Ty t ≡ Ty-F.Struct s → body_of defs s ≡ o → PartsFrom t 0 (map (λ (m : Member). m.ty) (unwrap_or o []))
  members-parts t s None out body = tt
  members-parts t s (Some ms) out body = struct-parts t s ms out body 0 ms (all-members ms)

  parts-by : (t : Ty) (o : Outer) → out-Ty t ≡ o → Named t → PartsFrom t 0 (part_types_at defs o)
  parts-by t Ty-F.Int e named = tt
  parts-by t Ty-F.Char e named = tt
  parts-by t Ty-F.Void e named = tt
  parts-by t (Ty-F.Struct s) e named = members-parts t s (body_of defs s) e refl
  parts-by t (Ty-F.Pointer u) e named = tt
  parts-by t (Ty-F.Array u n) e named = array-parts t u n e (named-at (length defs) t (Ty-F.Array u n) e named) n 0 (omega arith)
  parts-by t (Ty-F.Function g) e named = tt

  -- the scalars of parts
  rest-scalars : (root t : Ty) (i : ℕ) (us : List Ty) → HasPart defs root t → PartsFrom t i us → ScalarsIn root (all_scalars defs us)
  rest-scalars root t i [] part h = tt
  rest-scalars root t i (u ∷ us) part h =
      both-scalars root (scalars defs u) (all_scalars defs us) (scalars-in root u (scalars defs u) (part-more defs root t u part h.0.1) (scalars-of defs table u h.0.2))
      (rest-scalars root t (suc i) us part h.1)

  -- ---- strings

  text-roll : (bytes : List ℕ) → leaves defs (roll-TypedInit (TypedInit-F.Text bytes)) ≡ leaves_step defs (TypedInit-F.Text bytes)
  unfolding leaves
  text-roll bytes = fold-roll-TypedInit Leaves (leaves_step defs) (TypedInit-F.Text bytes)

  -- a string that gives a whole variable
  pub text-roll-fit : (bytes : List ℕ) (t : Ty) (k : ℕ) → Named t → AllIntegers (scalars defs t) → AllLeaves t (leaves defs (roll-TypedInit (TypedInit-F.Text bytes)) t k)
  text-roll-fit bytes t k named ints =
      subst (λ (g : Leaves). AllLeaves t (g t k)) (sym (text-roll bytes))
      (text-fit t (bytes ++ 0 ∷ []) (scalars defs t) k (scalars-in t t (scalars defs t) (parts.whole t) (scalars-of defs table t named)) ints)

  -- ---- initialisers

  module _ (N M : TypedInit-F TypedInit → Type 0) (at-expr : (e : TypedExpr) → N (TypedInit-F.Expr e) → M (TypedInit-F.Expr e) → Q e) where
    abbrev Good : TypedInit → Type 0
    Good i = (root t : Ty) (k : ℕ) → HasPart defs root t → Named t → init_fits defs i t ≡ true → every-TypedInit N i → every-TypedInit M i → AllLeaves root (leaves defs i t k)

    abbrev Held : Type 0
    Held = (i : TypedInit) × Good i

    abbrev bare : TypedInit-F Held → TypedInit-F TypedInit
    bare y = map-TypedInit Held TypedInit (λ e. e.0) y

    leaves-made : (x : TypedInit-F TypedInit) → leaves defs (roll-TypedInit x) ≡ leaves_step defs (map-TypedInit TypedInit Leaves (leaves defs) x)
    unfolding leaves
    leaves-made x = fold-roll-TypedInit Leaves (leaves_step defs) x

    fits-made : (x : TypedInit-F TypedInit) → init_fits defs (roll-TypedInit x) ≡ fits_step defs (map-TypedInit TypedInit (Ty → Bool) (init_fits defs) x)
    unfolding init_fits
    fits-made x = fold-roll-TypedInit (Ty → Bool) (fits_step defs) x

    passes-some : (test : Ty → Bool) (o : Option Ty) (u : Ty) → o ≡ Some u → passes test o ≡ true → test u ≡ true
    passes-some test o u e h = subst (λ z. passes test z ≡ true) e h

    braces-fit : (root t : Ty) (ys : List Held) (us : List Ty) (i k : ℕ) → HasPart defs root t → PartsFrom t i us → parts_fit defs t i (map (init_fits defs) (map (λ (e : Held). e.0) ys)) ≡ true
        → EachInit (every-TypedInit N) (map (λ (e : Held). e.0) ys) → EachInit (every-TypedInit M) (map (λ (e : Held). e.0) ys) → AllLeaves root (brace_leaves defs (map (leaves defs) (map (λ (e : Held). e.0) ys)) us k)
    braces-fit root t [] us i k part from fit h m = missing-leaves root (all_scalars defs us) k (rest-scalars root t i us part from)
    braces-fit root t (y ∷ ys) [] i k part from fit h m = tt
    braces-fit root t (y ∷ ys) (u ∷ us) i k part from fit h m =
        let more = parts_fit defs t (suc i) (map (init_fits defs) (map (λ (e : Held). e.0) ys)) in
        let here = passes-some (init_fits defs y.0) (part_of defs i t) u from.0.0 (first (passes (init_fits defs y.0) (part_of defs i t)) more fit) in
        both-leaves root (leaves defs y.0 u k) (brace_leaves defs (map (leaves defs) (map (λ (e : Held). e.0) ys)) us (k + units defs u))
        (y.1 root u k (part-more defs root t u part from.0.1) from.0.2 here h.0 m.0)
        (braces-fit root t ys us (suc i) (k + units defs u) part from.1 (second (passes (init_fits defs y.0) (part_of defs i t)) more fit) h.1 m.1)

    good-by : (y : TypedInit-F Held) (root t : Ty) (k : ℕ) → HasPart defs root t → Named t → fits_step defs (map-TypedInit TypedInit (Ty → Bool) (init_fits defs) (bare y)) t ≡ true
        → N (bare y) × InitParts (every-TypedInit N) (bare y) → M (bare y) × InitParts (every-TypedInit M) (bare y) → AllLeaves root (leaves_step defs (map-TypedInit TypedInit Leaves (leaves defs) (bare y)) t k)
    good-by (TypedInit-F.Expr e) root t k part named fit h m = ((part, named, (at-expr e h.0 m.0, fit)), tt)
    good-by (TypedInit-F.Text bytes) root t k part named fit h m = text-fit root (bytes ++ 0 ∷ []) (scalars defs t) k (scalars-in root t (scalars defs t) part (scalars-of defs table t named)) (text-integers defs t (nat_lt (length bytes)) fit)
    good-by (TypedInit-F.Braces ys) root t k part named fit h m = braces-fit root t ys (part_types defs t) 0 k part (parts-by t (out-Ty t) refl named) fit h.1 m.1

    good-step : (y : TypedInit-F Held) → Good (roll-TypedInit (bare y))
    good-step y root t k part named fit h m =
        subst (λ (g : Leaves). AllLeaves root (g t k)) (sym (leaves-made (bare y)))
        (good-by y root t k part named (sym (ap (λ (g : Ty → Bool). g t) (fits-made (bare y))) ∙ fit) (opened-init N (bare y) h) (opened-init M (bare y) m))

    pub leaves-fit : (i : TypedInit) → Good i
    leaves-fit = ind-TypedInit Good (λ x y is. subst (λ z. Good (roll-TypedInit z)) is (good-step y))

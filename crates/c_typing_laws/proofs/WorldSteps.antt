-- What the changes of a world leave of it: a context that has all that is known behind one has what was known before.
use Rattle.std.proofs.Common.{◌≡◌, ◌≤◌, ◌∙◌, ℕ, zero, suc, Bool, true, false, ◌&&◌, if◌then◌else◌, List, [], ◌∷◌, ◌++◌, length, map, Option, Some, None, slice_get, is_none, nat_lt, Ok, refl, ap, sym, subst, arith, le_refl}
use Rattle.std.specs.Option.{option_and_then}
use Rattle.std.specs.Str.{bytes_eq}
use Rattle.std.proofs.lemmas.Option.{slice_get_within}
use Rattle.c_types.specs.declared.structs.Member.{Member}
use Rattle.c_types.specs.declared.structs.StructDef.{StructDef}
use Rattle.c_types.specs.declared.ty.Ty.{Ty}
use Rattle.c_types.specs.Sound.{are_members}
use Rattle.c_types.specs.Structs.{body_of, struct_named, with_body, with_tag}
use Rattle.c_types.specs.Theorems.{Extends, TablesGrow}
use Rattle.c_typed.specs.declared.unit.Local.{Local}
use Rattle.c_scope.specs.declared.rule.Rule.TheVariants as broken
use Rattle.c_scope.specs.declared.scopes.Binding.{Binding}
use Rattle.c_scope.specs.declared.world.KnownFunction.{KnownFunction}
use Rattle.c_scope.specs.declared.world.World.{World}
use Rattle.c_scope.specs.BuiltIns.{Name}
use Rattle.c_scope.specs.Declarations.{define, is_undefined, is_undefined_at}
use Rattle.c_scope.specs.Definitions.{marked}
use Rattle.c_scope.specs.Scopes.{known_function, most_tags, new_tag, outer, tag, tag_by, with_function}
use Rattle.c_scope.specs.Walk.{Outcome}
use Rattle.c_rules.specs.Rules.{addressed_at}
use Rattle.c_typed_rows.specs.Contexts.{Context, defined_as}
use Rattle.c_typing_laws.specs.Worlds.{Below, LocalStands, ScopesFit, defined_by, defined_in, local_types}
use Rattle.c_typing_laws.specs.inner.Goes.{Goes, Relation, Sound, ends, ruled}

-- ---- relations

-- each body is there, in a table as long at least
pub extends-same : (defs : List StructDef) → Extends defs defs
extends-same defs = record { longer = le_refl (length defs); bodies = λ s ms is. is }

pub extends-joined : (a b c : List StructDef) → Extends a b → Extends b c → Extends a c
extends-joined a b c first second = record {
  longer = let l : length a ≤ length b = first.longer in let m : length b ≤ length c = second.longer in omega arith;
  bodies = λ s ms is. second.bodies s ms (first.bodies s ms is);
}

-- the types of locals, the number of globals and the functions that are defined stay, and so do bodies of structs
pub record IsSteady (w v : World) : Type 0 where
  pub locals : local_types v ≡ local_types w
  pub globals : v.globals ≡ w.globals
  pub defined : (x : Name) → defined_in v.functions x ≡ defined_in w.functions x
  pub grown : Extends w.structs v.structs

pub steady-same : (w : World) → IsSteady w w
steady-same w = record { locals = refl; globals = refl; defined = λ x. refl; grown = extends-same w.structs }

pub steady-joined : (w v u : World) → IsSteady w v → IsSteady v u → IsSteady w u
steady-joined w v u first second = record {
  locals = second.locals ∙ first.locals;
  globals = second.globals ∙ first.globals;
  defined = λ x. second.defined x ∙ first.defined x;
  grown = extends-joined w.structs v.structs u.structs first.grown second.grown;
}

-- scopes and bodies of structs stay too
pub record IsQuiet (w v : World) : Type 0 where
  pub scopes : v.scopes ≡ w.scopes
  pub bodies : (s : ℕ) → body_of v.structs s ≡ body_of w.structs s
  pub steady : IsSteady w v

abbrev pub quiet : Relation
quiet = record {
  holds = IsQuiet;
  same = λ w. record { scopes = refl; bodies = λ s. refl; steady = steady-same w };
  joined = λ w v u first second. record { scopes = second.scopes ∙ first.scopes; bodies = λ s. second.bodies s ∙ first.bodies s; steady = steady-joined w v u first.steady second.steady };
}

-- the scopes outside the innermost stay
pub record IsInner (w v : World) : Type 0 where
  pub scopes : outer v.scopes ≡ outer w.scopes
  pub bodies : (s : ℕ) → body_of v.structs s ≡ body_of w.structs s
  pub steady : IsSteady w v

abbrev pub inner : Relation
inner = record {
  holds = IsInner;
  same = λ w. record { scopes = refl; bodies = λ s. refl; steady = steady-same w };
  joined = λ w v u first second. record { scopes = second.scopes ∙ first.scopes; bodies = λ s. second.bodies s ∙ first.bodies s; steady = steady-joined w v u first.steady second.steady };
}

-- structs may get bodies
pub record IsDefining (w v : World) : Type 0 where
  pub scopes : v.scopes ≡ w.scopes
  pub steady : IsSteady w v

abbrev pub defining : Relation
defining = record {
  holds = IsDefining;
  same = λ w. record { scopes = refl; steady = steady-same w };
  joined = λ w v u first second. record { scopes = second.scopes ∙ first.scopes; steady = steady-joined w v u first.steady second.steady };
}

pub quiet-is_inner : (w v : World) → IsQuiet w v → IsInner w v
quiet-is_inner w v q = record { scopes = ap outer q.scopes; bodies = q.bodies; steady = q.steady }

pub quiet-is_defining : (w v : World) → IsQuiet w v → IsDefining w v
quiet-is_defining w v q = record { scopes = q.scopes; steady = q.steady }

-- ---- lists

pub in_front : {A : Type 0} (xs ys : List A) (n : ℕ) (x : A) → slice_get xs n ≡ Some x → slice_get (xs ++ ys) n ≡ Some x
in_front [] ys n x is = cc
in_front (y ∷ xs) ys zero x is = is
in_front (y ∷ xs) ys (suc n) x is = in_front xs ys n x is

pub at_seam : {A : Type 0} (xs : List A) (x : A) → slice_get (xs ++ x ∷ []) (length xs) ≡ Some x
at_seam [] x = refl
at_seam (y ∷ xs) x = at_seam xs x

-- a new struct has no body
tagged-bodies : (defs : List StructDef) (x : Name) (s : ℕ) → body_of (with_tag defs x) s ≡ body_of defs s
tagged-bodies [] x zero = refl
tagged-bodies [] x (suc s) = refl
tagged-bodies (d ∷ ds) x zero = refl
tagged-bodies (d ∷ ds) x (suc s) = tagged-bodies ds x s

-- ---- functions

abbrev MarkedAs : KnownFunction → Option KnownFunction → Type 0
MarkedAs f None = ⊥
MarkedAs f (Some g) = (g.ty ≡ f.ty) × (f.is_used ≡ true → g.is_used ≡ true)

marked_here : (j : KnownFunction) (js : List KnownFunction) (y : Name) (f : KnownFunction) (named : Bool)
    → (if named then Some j else known_function js y) ≡ Some f → MarkedAs f (if named then Some (marked true false j) else known_function js y)
unfolding marked
marked_here j js y f true is = let same : j ≡ f = cc in (ap (λ g. g.ty) same, λ used. refl)
marked_here j js y f false is = subst (MarkedAs f) (sym is) (refl, λ used. used)

marked_later : (j : KnownFunction) (js changed : List KnownFunction) (y : Name) (f : KnownFunction) (named : Bool)
    → (known_function js y ≡ Some f → MarkedAs f (known_function changed y))
    → (if named then Some j else known_function js y) ≡ Some f → MarkedAs f (if named then Some j else known_function changed y)
marked_later j js changed y f true rest is = subst (MarkedAs f) (sym is) (refl, λ used. used)
marked_later j js changed y f false rest is = rest is

name-stays : (j : KnownFunction) → (marked true false j).name ≡ j.name
unfolding marked
name-stays j = refl

with_marked : (here : Bool) (j : KnownFunction) (js changed : List KnownFunction) (y : Name) (f : KnownFunction)
    → (known_function js y ≡ Some f → MarkedAs f (known_function changed y))
    → known_function (j ∷ js) y ≡ Some f
    → MarkedAs f (known_function (if here then marked true false j ∷ js else j ∷ changed) y)
unfolding marked
with_marked true j js changed y f rest is = marked_here j js y f (bytes_eq j.name y) is
with_marked false j js changed y f rest is = marked_later j js changed y f (bytes_eq j.name y) rest is

-- a mark leaves the type of each function
used-stays : (ks : List KnownFunction) (x y : Name) (f : KnownFunction) → known_function ks y ≡ Some f → MarkedAs f (known_function (with_function (marked true false) ks x) y)
used-stays [] x y f is = cc
used-stays (j ∷ js) x y f is = with_marked (bytes_eq j.name x) j js (with_function (marked true false) js x) y f (used-stays js x y f) is

-- a mark that a function is used defines none
defined_here : (j : KnownFunction) (js : List KnownFunction) (y : Name) (named : Bool)
    → defined_by (if named then Some (marked true false j) else known_function js y) ≡ defined_by (if named then Some j else known_function js y)
unfolding marked
defined_here j js y true = refl
defined_here j js y false = refl

defined_later : (j : KnownFunction) (js changed : List KnownFunction) (y : Name) (named : Bool) → defined_by (known_function changed y) ≡ defined_by (known_function js y)
    → defined_by (if named then Some j else known_function changed y) ≡ defined_by (if named then Some j else known_function js y)
defined_later j js changed y true rest = refl
defined_later j js changed y false rest = rest

defined_so : (here : Bool) (j : KnownFunction) (js changed : List KnownFunction) (y : Name) → defined_in changed y ≡ defined_in js y
    → defined_in (if here then marked true false j ∷ js else j ∷ changed) y ≡ defined_in (j ∷ js) y
unfolding marked
defined_so true j js changed y rest = defined_here j js y (bytes_eq j.name y)
defined_so false j js changed y rest = defined_later j js changed y (bytes_eq j.name y) rest

used-defined : (ks : List KnownFunction) (x y : Name) → defined_in (with_function (marked true false) ks x) y ≡ defined_in ks y
used-defined [] x y = refl
used-defined (j ∷ js) x y = defined_so (bytes_eq j.name x) j js (with_function (marked true false) js x) y (used-defined js x y)

-- the function that is marked is used
abbrev UsedAs : KnownFunction → Option KnownFunction → Type 0
UsedAs f None = ⊥
UsedAs f (Some g) = (g.ty ≡ f.ty) × (g.is_used ≡ true)

used_by : (j : KnownFunction) (js changed : List KnownFunction) (x : Name) (f : KnownFunction) (named : Bool) → bytes_eq j.name x ≡ named
    → (known_function js x ≡ Some f → UsedAs f (known_function changed x))
    → (if named then Some j else known_function js x) ≡ Some f
    → UsedAs f (known_function (if named then marked true false j ∷ js else j ∷ changed) x)
unfolding marked
used_by j js changed x f true is rest found =
    let same : j ≡ f = cc in
    subst (λ (b : Bool). UsedAs f (if b then Some (marked true false j) else known_function js x)) (sym is) (ap (λ g. g.ty) same, refl)
used_by j js changed x f false is rest found = subst (λ (b : Bool). UsedAs f (if b then Some j else known_function changed x)) (sym is) (rest found)

becomes-used : (ks : List KnownFunction) (x : Name) (f : KnownFunction) → known_function ks x ≡ Some f → UsedAs f (known_function (with_function (marked true false) ks x) x)
becomes-used [] x f is = cc
becomes-used (j ∷ js) x f is = used_by j js (with_function (marked true false) js x) x f (bytes_eq j.name x) refl (becomes-used js x f) is

-- ---- locals

addressed-types : (n : ℕ) (ls : List Local) → map (λ l. l.ty) (addressed_at n ls) ≡ map (λ l. l.ty) ls
addressed-types n [] = refl
addressed-types zero (l ∷ ls) = refl
addressed-types (suc n) (l ∷ ls) = ap (λ ts. l.ty ∷ ts) (addressed-types n ls)

addressed-stays : (n : ℕ) (ls : List Local) (m : ℕ) (l : Local) → slice_get ls m ≡ Some l → LocalStands l (slice_get (addressed_at n ls) m)
addressed-stays n [] m l is = cc
addressed-stays zero (j ∷ ls) zero l is = let same : j ≡ l = cc in (ap (λ k. k.ty) same, λ was. refl)
addressed-stays zero (j ∷ ls) (suc m) l is = subst (LocalStands l) (sym is) (refl, λ was. was)
addressed-stays (suc n) (j ∷ ls) zero l is = subst (LocalStands l) (sym is) (refl, λ was. was)
addressed-stays (suc n) (j ∷ ls) (suc m) l is = addressed-stays n ls m l is

-- a local of this number is one whose address is taken
pub addressed-there : (n : ℕ) (ls : List Local) (l : Local) → slice_get ls n ≡ Some l → (m : Local) × ((slice_get (addressed_at n ls) n ≡ Some m) × (m.is_addressed ≡ true))
addressed-there n [] l is = cc
addressed-there zero (j ∷ ls) l is = (record j { is_addressed = true }, (refl, refl))
addressed-there (suc n) (j ∷ ls) l is = addressed-there n ls l is

stands-joined : (l m : Local) (o : Option Local) → (m.ty ≡ l.ty) × (l.is_addressed ≡ true → m.is_addressed ≡ true) → LocalStands m o → LocalStands l o
stands-joined l m None first second = second
stands-joined l m (Some n) first second = (second.0 ∙ first.0, λ was. second.1 (first.1 was))

-- ---- worlds

module _ (grow : TablesGrow) (k : Context) (gs : List Ty) where
  sound-kept : (w v : World) → v.scopes ≡ w.scopes → IsSteady w v → Sound k gs w → Sound k gs v
  sound-kept w v scopes steady sound =
      subst (λ ss. ScopesFit gs (local_types v) ss) (sym scopes) (subst (λ ls. ScopesFit gs ls w.scopes) (sym steady.locals) sound)

  pub sound-quiet : (w v : World) → IsQuiet w v → Sound k gs w → Sound k gs v
  sound-quiet w v q sound = sound-kept w v q.scopes q.steady sound

  -- a change that leaves scopes and types of locals
  changed_found : {A : Type 0} (Q : A → Type 0) (a : A) (w v : World) → IsQuiet w v → (Below k v → Below k w × Q a) → (r : A × World)
      → (let o : Outcome (A × World) = Ok (a, v) in o) ≡ Ok r → Sound k gs w
      → IsQuiet w r.1 × Sound k gs r.1 × (Below k r.1 → Below k w × Q r.0)
  changed_found {A} Q a w v q below r is sound =
      let same : (a, v) ≡ r = cc in
      subst (λ (s : A × World). IsQuiet w s.1 × Sound k gs s.1 × (Below k s.1 → Below k w × Q s.0)) same (q, sound-quiet w v q sound, below)

  pub changed : {A : Type 0} {Q : A → Type 0} {a : A} (w v : World) → IsQuiet w v → (Below k v → Below k w × Q a) → Goes k gs quiet w (Ok (a, v)) Q
  changed {A} {Q} {a} w v q below = record { found = changed_found Q a w v q below }

  -- the same, where structs may get bodies
  defined_found : {A : Type 0} (Q : A → Type 0) (a : A) (w v : World) → IsDefining w v → (Below k v → Below k w × Q a) → (r : A × World)
      → (let o : Outcome (A × World) = Ok (a, v) in o) ≡ Ok r → Sound k gs w
      → IsDefining w r.1 × Sound k gs r.1 × (Below k r.1 → Below k w × Q r.0)
  defined_found {A} Q a w v q below r is sound =
      let same : (a, v) ≡ r = cc in
      subst (λ (s : A × World). IsDefining w s.1 × Sound k gs s.1 × (Below k s.1 → Below k w × Q s.0)) same (q, sound-kept w v q.scopes q.steady sound, below)

  pub redefined : {A : Type 0} {Q : A → Type 0} {a : A} (w v : World) → IsDefining w v → (Below k v → Below k w × Q a) → Goes k gs defining w (Ok (a, v)) Q
  redefined {A} {Q} {a} w v q below = record { found = defined_found Q a w v q below }

  -- a string more
  pub below-text : (w : World) (bytes : List ℕ) → Below k (record w { strings = w.strings ++ bytes ∷ [] }) → Below k w
  below-text w bytes b = record {
    structs = b.structs;
    functions = b.functions;
    strings = λ n bs is. b.strings n bs (in_front w.strings (bytes ∷ []) n bs is);
    locals = b.locals;
  }

  -- other structs
  pub below-structs : (w : World) (defs : List StructDef) → Extends w.structs defs → Below k (record w { structs = defs }) → Below k w
  below-structs w defs more b = record {
    structs = extends-joined w.structs defs k.structs more b.structs;
    functions = b.functions;
    strings = b.strings;
    locals = b.locals;
  }

  -- other scopes
  pub below-scopes : (w : World) (ss : List (List Binding)) → Below k (record w { scopes = ss }) → Below k w
  below-scopes w ss b = record { structs = b.structs; functions = b.functions; strings = b.strings; locals = b.locals }

  used_functions : (w v : World) (y : Name) (f : KnownFunction) (o : Option KnownFunction) → known_function v.functions y ≡ o → MarkedAs f o → Below k v
      → f.is_used ≡ true → defined_as k.functions y ≡ Some f.ty
  used_functions w v y f None is marked_so b used = absurd marked_so
  used_functions w v y f (Some g) is marked_so b used = b.functions y g is (marked_so.1 used) ∙ ap Some marked_so.0

  -- a function that is used
  pub below-used : (w : World) (x : Name) → Below k (record w { functions = with_function (marked true false) w.functions x }) → Below k w
  below-used w x b = record {
    structs = b.structs;
    functions = λ y f is used. used_functions w (record w { functions = with_function (marked true false) w.functions x }) y f _ refl (used-stays w.functions x y f is) b used;
    strings = b.strings;
    locals = b.locals;
  }

  used_now : (w v : World) (x : Name) (f : KnownFunction) (o : Option KnownFunction) → known_function v.functions x ≡ o → UsedAs f o → Below k v
      → defined_as k.functions x ≡ Some f.ty
  used_now w v x f None is used b = absurd used
  used_now w v x f (Some g) is used b = b.functions x g is used.1 ∙ ap Some used.0

  pub defined-now : (w : World) (x : Name) (f : KnownFunction) → known_function w.functions x ≡ Some f
      → Below k (record w { functions = with_function (marked true false) w.functions x }) → defined_as k.functions x ≡ Some f.ty
  defined-now w x f is b = used_now w (record w { functions = with_function (marked true false) w.functions x }) x f _ refl (becomes-used w.functions x f is) b

  addressed_locals : (w v : World) (m : ℕ) (l : Local) (o : Option Local) → slice_get v.locals m ≡ o → LocalStands l o → Below k v → LocalStands l (slice_get k.locals m)
  addressed_locals w v m l None is stands b = absurd stands
  addressed_locals w v m l (Some j) is stands b = stands-joined l j (slice_get k.locals m) stands (b.locals m j is)

  -- a local whose address is taken
  pub below-addressed : (w : World) (n : ℕ) → Below k (record w { locals = addressed_at n w.locals }) → Below k w
  below-addressed w n b = record {
    structs = b.structs;
    functions = b.functions;
    strings = b.strings;
    locals = λ m l is. addressed_locals w (record w { locals = addressed_at n w.locals }) m l _ refl (addressed-stays n w.locals m l is) b;
  }

  pub quiet-addressed : (w : World) (n : ℕ) → IsQuiet w (record w { locals = addressed_at n w.locals })
  quiet-addressed w n = record { scopes = refl; bodies = λ s. refl; steady = record { locals = addressed-types n w.locals; globals = refl; defined = λ x. refl; grown = extends-same w.structs } }

  pub quiet-text : (w : World) (bytes : List ℕ) → IsQuiet w (record w { strings = w.strings ++ bytes ∷ [] })
  quiet-text w bytes = record { scopes = refl; bodies = λ s. refl; steady = record { locals = refl; globals = refl; defined = λ x. refl; grown = extends-same w.structs } }

  pub quiet-used : (w : World) (x : Name) → IsQuiet w (record w { functions = with_function (marked true false) w.functions x })
  quiet-used w x = record { scopes = refl; bodies = λ s. refl; steady = record { locals = refl; globals = refl; defined = λ y. used-defined w.functions x y; grown = extends-same w.structs } }

  -- ---- tags and bodies of structs

  new_tag-goes : (x : Name) (w : World) → Goes k gs quiet w (new_tag x w) (λ n. Unit {0})
  new_tag-goes x w = ruled k gs broken.Tag (nat_lt (length w.structs) most_tags) _ (λ few.
      changed {a = length w.structs} w (record w { structs = with_tag w.structs x }) (record { scopes = refl; bodies = tagged-bodies w.structs x; steady = record { locals = refl; globals = refl; defined = λ y. refl; grown = grow.declared w.structs x } }) (λ b. (below-structs w (with_tag w.structs x) (grow.declared w.structs x) b, tt)))

  tag_by-goes : (x : Name) (o : Option ℕ) (w : World) → Goes k gs quiet w (tag_by x o w) (λ n. Unit {0})
  tag_by-goes x None w = new_tag-goes x w
  tag_by-goes x (Some n) w = ends k gs (λ b. tt)

  pub tag-goes : (x : Name) (w : World) → Goes k gs quiet w (tag x w) (λ n. Unit {0})
  unfolding tag
  tag-goes x w = tag_by-goes x (struct_named w.structs x) w

  none_of : {A : Type 0} (o : Option A) → is_none o ≡ true → o ≡ None
  none_of None is = refl
  none_of (Some a) is = cc

  undefined_by : (o : Option StructDef) → is_undefined_at o ≡ true → (d : StructDef) × ((o ≡ Some d) × (d.members ≡ None))
  undefined_by None is = cc
  undefined_by (Some d) is = (d, (refl, none_of d.members is))

  both : (a b : Bool) → (a && b) ≡ true → (a ≡ true) × (b ≡ true)
  both true b is = (refl, is)
  both false b is = cc

  body_of-none : (defs : List StructDef) (n : ℕ) (d : StructDef) → slice_get defs n ≡ Some d → d.members ≡ None → body_of defs n ≡ None
  body_of-none defs n d is none = ap (option_and_then (λ d. d.members)) is ∙ none

  extends-defined : (defs : List StructDef) (n : ℕ) (ms : List Member) → is_undefined defs n ≡ true → Extends defs (with_body defs n ms)
  unfolding is_undefined
  extends-defined defs n ms is =
      let h = undefined_by (slice_get defs n) is in
      grow.defined defs n ms (slice_get_within defs n h.0 h.1.0) (body_of-none defs n h.0 h.1.0 h.1.1)

  pub define-goes : (n : ℕ) (ms : List Member) (w : World) → Goes k gs defining w (define n ms w) (λ u. Unit {0})
  unfolding define
  define-goes n ms w = ruled k gs broken.Tag (is_undefined w.structs n && are_members w.structs ms) _ (λ holds.
      redefined w (record w { structs = with_body w.structs n ms }) (record { scopes = refl; steady = record { locals = refl; globals = refl; defined = λ y. refl; grown = extends-defined w.structs n ms (both (is_undefined w.structs n) (are_members w.structs ms) holds).0 } })
      (λ b. (below-structs w (with_body w.structs n ms) (extends-defined w.structs n ms (both (is_undefined w.structs n) (are_members w.structs ms) holds).0) b, tt)))

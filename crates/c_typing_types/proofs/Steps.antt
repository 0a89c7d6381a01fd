-- Walks forward: what is known of the types before a walk is known behind it, and holds of what it finds.
use Rattle.std.proofs.Common.{◌≡◌, ◌≤◌, ◌||◌, ℕ, Bool, true, false, IsTrue, List, [], ◌∷◌, length, map, Option, Some, None, Ok, Err, refl, subst, arith, le_refl}
use Rattle.std.specs.List.{AllByRecursion}
use Rattle.c_types.specs.declared.structs.Member.{Member}
use Rattle.c_types.specs.declared.structs.StructDef.{StructDef}
use Rattle.c_typed.specs.declared.unit.Local.{Local}
use Rattle.c_scope.specs.declared.rule.Rule.{Rule}
use Rattle.c_scope.specs.declared.scopes.Binding.{Binding}
use Rattle.c_scope.specs.declared.scopes.Meaning.{Meaning}
use Rattle.c_scope.specs.declared.scopes.Meaning.TheVariants as means
use Rattle.c_scope.specs.declared.world.KnownFunction.{KnownFunction}
use Rattle.c_scope.specs.declared.world.World.{World}
use Rattle.c_scope.specs.Scopes.{enter, leave, most_tags, outer, within}
use Rattle.c_scope.specs.Walk.{Outcome, Walk, and_then, each, found, rule}
use Rattle.c_typing_types.specs.Filled.{are_some}
use Rattle.c_typing_types.proofs.Good.{Fine, FunctionFine, Good}

-- ---- worlds

abbrev pub MeaningFine : Good → Meaning → Type 0
MeaningFine g (means.Variable e t) = Fine g t
MeaningFine g (means.TypeName t) = Fine g t
MeaningFine g means.Function = Unit {0}

abbrev pub ScopesFine : Good → List (List Binding) → Type 0
ScopesFine g ss = AllByRecursion (AllByRecursion (λ b. MeaningFine g b.meaning)) ss

abbrev pub MembersFine : Good → List Member → Type 0
MembersFine g ms = AllByRecursion (λ m. Fine g m.ty) ms

-- and there is a member, or nothing is asked
abbrev pub BodyFine : Good → Option (List Member) → Type 0
BodyFine g None = Unit {0}
BodyFine g (Some ms) = MembersFine g ms × ((g.free || are_some ms) ≡ true)

abbrev pub StructsFine : Good → List StructDef → Type 0
StructsFine g ds = AllByRecursion (λ d. BodyFine g d.members) ds

abbrev pub FunctionsFine : Good → List KnownFunction → Type 0
FunctionsFine g ks = AllByRecursion (λ k. FunctionFine g k.ty) ks

abbrev pub LocalsFine : Good → List Local → Type 0
LocalsFine g ls = AllByRecursion (λ l. Fine g l.ty) ls

-- each type that is known passes
pub record Fit (g : Good) (w : World) : Type 0 where
  pub scopes : ScopesFine g w.scopes
  pub functions : FunctionsFine g w.functions
  pub structs : StructsFine g w.structs
  pub locals : LocalsFine g w.locals
  pub few : length w.structs ≤ most_tags

abbrev pub Longer : World → World → Type 0
Longer w v = length w.structs ≤ length v.structs

pub longer-same : (w : World) → Longer w w
longer-same w = le_refl (length w.structs)

pub longer-joined : (w v u : World) → Longer w v → Longer v u → Longer w u
longer-joined w v u first second =
    let l : length w.structs ≤ length v.structs = first in
    let m : length v.structs ≤ length u.structs = second in
    omega arith

few-before : (n : ℕ) (w v : World) → Longer w v → length v.structs ≤ n → length w.structs ≤ n
few-before n w v longer few = let l : length w.structs ≤ length v.structs = longer in omega arith

-- ---- steps

-- Structs don't get fewer. If at the end there are no more than are counted, and K holds, then all that is known passes, and Q holds of what is found.
pub record Goes (g : Good) (K : Type 0) {A : Type 0} (w : World) (o : Outcome (A × World)) (Q : A → Type 0) : Type 0 where
  pub found : (r : A × World) → o ≡ Ok r → Longer w r.1 × (length r.1.structs ≤ g.count → K → Fit g w → Fit g r.1 × Q r.0)

abbrev answered : {A : Type 0} → A → World → Outcome (A × World)
answered a w = Ok (a, w)

module _ (g : Good) where
  changed_found : {A : Type 0} (K : Type 0) (Q : A → Type 0) (a : A) (w v : World) → Longer w v → (length v.structs ≤ g.count → K → Fit g w → Fit g v × Q a)
      → (r : A × World) → answered a v ≡ Ok r → Longer w r.1 × (length r.1.structs ≤ g.count → K → Fit g w → Fit g r.1 × Q r.0)
  changed_found {A} K Q a w v longer fits r is =
      let same : (a, v) ≡ r = cc in
      subst (λ (s : A × World). Longer w s.1 × (length s.1.structs ≤ g.count → K → Fit g w → Fit g s.1 × Q s.0)) same (longer, fits)

  -- a step to a world that is known
  pub changed : {A : Type 0} {K : Type 0} {Q : A → Type 0} {a : A} (w v : World) → Longer w v → (length v.structs ≤ g.count → K → Fit g w → Fit g v × Q a) → Goes g K w (Ok (a, v)) Q
  changed {A} {K} {Q} {a} w v longer fits = record { found = changed_found K Q a w v longer fits }

  pub ends : {A : Type 0} {K : Type 0} {Q : A → Type 0} {a : A} {w : World} → (K → Fit g w → Q a) → Goes g K w (Ok (a, w)) Q
  ends {A} {K} {Q} {a} {w} holds = changed w w (longer-same w) (λ few known fit. (fit, holds known fit))

  pub never : {A : Type 0} {K : Type 0} {Q : A → Type 0} {e : Rule} {w : World} → Goes g K {A = A} w (Err e) Q
  never = record { found = λ r is. cc }

  pub after : {A B : Type 0} {K : Type 0} {P : A → Type 0} {Q : B → Type 0} {w : World} (o : Outcome (A × World)) (f : A → Walk B)
      → Goes g K w o P → ((a : A) (v : World) → Goes g (K × P a) v (f a v) Q) → Goes g K w (and_then o f) Q
  after {A} {B} {K} {P} {Q} {w} (Ok a) f first rest = record {
    found = λ r is.
        let h = first.found a refl in
        let m = (rest a.0 a.1).found r is in
        (longer-joined w a.1 r.1 h.0 m.0, λ few known fit. let n = h.1 (few-before g.count a.1 r.1 m.0 few) known fit in m.1 few (known, n.1) n.0);
  }
  after (Err e) f first rest = never

  -- where more is known
  pub under : {A : Type 0} {H K : Type 0} {Q : A → Type 0} {w : World} (o : Outcome (A × World)) → (K → H) → Goes g H w o Q → Goes g K w o Q
  under o more goes = record { found = λ r is. let h = goes.found r is in (h.0, λ few known fit. h.1 few (more known) fit) }

  pub ruled : {A : Type 0} {K : Type 0} {Q : A → Type 0} {w : World} (r : Rule) (b : Bool) (f : Unit {0} → Walk A)
      → (IsTrue b → Goes g K w (f tt w) Q) → Goes g K w (and_then (rule r b w) f) Q
  ruled r true f goes = goes refl
  ruled r false f goes = never

  pub finds : {A B : Type 0} {K : Type 0} {Q : B → Type 0} {w : World} (r : Rule) (o : Option A) (f : A → Walk B)
      → ((a : A) → o ≡ Some a → Goes g K w (f a w) Q) → Goes g K w (and_then (found r o w) f) Q
  finds r None f goes = never
  finds r (Some a) f goes = goes a refl

  -- a rule or a choice at the end of a walk
  pub rule-goes : {K : Type 0} {P : Type 0} {w : World} (r : Rule) (b : Bool) → (IsTrue b → K → P) → Goes g K w (rule r b w) (λ u. P)
  rule-goes r true holds = ends (λ known fit. holds refl known)
  rule-goes r false holds = never

  pub found-goes : {A : Type 0} {K : Type 0} {Q : A → Type 0} {w : World} (r : Rule) (o : Option A) → ((a : A) → o ≡ Some a → K → Fit g w → Q a) → Goes g K w (found r o w) Q
  found-goes r None holds = never
  found-goes r (Some a) holds = ends (holds a refl)

  -- ---- scopes

  outer-fine : (ss : List (List Binding)) → ScopesFine g ss → ScopesFine g (outer ss)
  outer-fine [] all = tt
  outer-fine (s ∷ ss) all = all.1

  entered : (w : World) → Fit g w → Fit g (record w { scopes = [] ∷ w.scopes })
  entered w fit = record { scopes = (tt, fit.scopes); functions = fit.functions; structs = fit.structs; locals = fit.locals; few = fit.few }

  left : (w : World) → Fit g w → Fit g (record w { scopes = outer w.scopes })
  left w fit = record { scopes = outer-fine w.scopes fit.scopes; functions = fit.functions; structs = fit.structs; locals = fit.locals; few = fit.few }

  closed : {A : Type 0} {K : Type 0} {Q : A → Type 0} (w : World) (o : Outcome (A × World)) → Goes g K (record w { scopes = [] ∷ w.scopes }) o Q
      → Goes g K w (and_then o (λ x v. Ok (x, record v { scopes = outer v.scopes }))) Q
  closed {A} {K} {Q} w (Ok a) goes =
      let h = goes.found a refl in
      changed {a = a.0} w (record a.1 { scopes = outer a.1.scopes }) h.0 (λ few known fit. let n = h.1 few known (entered w fit) in (left a.1 n.0, n.1))
  closed w (Err e) goes = never

  -- a walk in a scope of its own
  pub within-goes : {A : Type 0} {K : Type 0} {Q : A → Type 0} (p : Walk A) (w : World) → ((v : World) → Goes g K v (p v) Q) → Goes g K w (within p w) Q
  unfolding enter leave
  within-goes p w goes = closed w (p (record w { scopes = [] ∷ w.scopes })) (goes (record w { scopes = [] ∷ w.scopes }))

  -- ---- lists of walks

  pub each-goes : {A H : Type 0} {K : Type 0} (Q : A → Type 0) (p : H → Walk A) → ((h : H) (w : World) → Goes g K w (p h w) Q)
      → (hs : List H) (w : World) → Goes g K w (each (map p hs) w) (AllByRecursion Q)
  each-goes Q p goes [] w = ends (λ known fit. tt)
  each-goes Q p goes (h ∷ hs) w =
      after (p h w) _ (goes h w) (λ x v.
      after (each (map p hs) v) _ (under _ (λ known. known.0) (each-goes Q p goes hs v)) (λ xs u.
      ends (λ known fit. (known.0.1, known.1))))

-- What a walk leaves of the world, and what holds of all that it finds, where what is known behind it is of this context.
use Rattle.std.proofs.Common.{◌≡◌, Bool, true, false, IsTrue, List, Option, Some, None, Ok, Err, refl, subst}
use Rattle.c_types.specs.declared.ty.Ty.{Ty}
use Rattle.c_scope.specs.declared.rule.Rule.{Rule}
use Rattle.c_scope.specs.declared.world.World.{World}
use Rattle.c_scope.specs.Walk.{Outcome, Walk, and_then, found, rule}
use Rattle.c_typed_rows.specs.Contexts.{Context}
use Rattle.c_typing_laws.specs.Worlds.{Below, ScopesFit, local_types}

-- ---- steps

-- a relation of worlds that steps of a walk keep
pub record Relation : Type 1 where
  pub holds : World → World → Type 0
  pub same : (w : World) → holds w w
  pub joined : (w v u : World) → holds w v → holds v u → holds w u

module _ (k : Context) (gs : List Ty) where
  -- of a context, and of globals of these types
  abbrev pub Sound : World → Type 0
  Sound w = ScopesFit gs (local_types w) w.scopes

  -- what the walk from a sound world leaves, and what holds of what it finds where the context has all that is known then
  pub record Goes (R : Relation) {A : Type 0} (w : World) (o : Outcome (A × World)) (Q : A → Type 0) : Type 0 where
    pub found : (r : A × World) → o ≡ Ok r → Sound w → R.holds w r.1 × Sound r.1 × (Below k r.1 → Below k w × Q r.0)

  abbrev answered : {A : Type 0} → A → World → Outcome (A × World)
  answered a w = Ok (a, w)

  ends_found : (R : Relation) {A : Type 0} (Q : A → Type 0) (a : A) (w : World) → (Below k w → Q a) → (r : A × World) → answered a w ≡ Ok r → Sound w
      → R.holds w r.1 × Sound r.1 × (Below k r.1 → Below k w × Q r.0)
  ends_found R {A = A} Q a w holds r is sound =
      let same : (a, w) ≡ r = cc in
      subst (λ (s : A × World). R.holds w s.1 × Sound s.1 × (Below k s.1 → Below k w × Q s.0)) same (R.same w, sound, λ below. (below, holds below))

  module _ {R : Relation} where
    pub ends : {A : Type 0} {Q : A → Type 0} {a : A} {w : World} → (Below k w → Q a) → Goes R w (Ok (a, w)) Q
    ends {A} {Q} {a} {w} holds = record { found = ends_found R Q a w holds }

    pub never : {A : Type 0} {Q : A → Type 0} {e : Rule} {w : World} → Goes R {A = A} w (Err e) Q
    never = record { found = λ r is. cc }

    pub after : {A B : Type 0} {P : A → Type 0} {Q : B → Type 0} {w : World} (o : Outcome (A × World)) (f : A → Walk B)
        → Goes R w o P → ((a : A) (v : World) → R.holds w v → Goes R v (f a v) (λ b. P a → Q b)) → Goes R w (and_then o f) Q
    after {A} {B} {P} {Q} {w} (Ok a) f first rest = record {
      found = λ r is sound.
          let h = first.found a refl sound in
          let g = (rest a.0 a.1 h.0).found r is h.1 in
          (R.joined w a.1 r.1 h.0 g.0, g.1, λ below. let m = g.2 below in let n = h.2 m.0 in (n.0, m.1 n.1));
    }
    after (Err e) f first rest = never

    -- the same, with what the first step answers
    pub after_found : {A B : Type 0} {P : A → Type 0} {Q : B → Type 0} {w : World} (o : Outcome (A × World)) (f : A → Walk B)
        → Goes R w o P → ((a : A) (v : World) → o ≡ Ok (a, v) → R.holds w v → Goes R v (f a v) (λ b. P a → Q b)) → Goes R w (and_then o f) Q
    after_found {A} {B} {P} {Q} {w} (Ok a) f first rest = record {
      found = λ r is sound.
          let h = first.found a refl sound in
          let g = (rest a.0 a.1 refl h.0).found r is h.1 in
          (R.joined w a.1 r.1 h.0 g.0, g.1, λ below. let m = g.2 below in let n = h.2 m.0 in (n.0, m.1 n.1));
    }
    after_found (Err e) f first rest = never

    -- less is asked
    pub weaker : {A : Type 0} {P Q : A → Type 0} {w : World} (o : Outcome (A × World)) → ((a : A) → P a → Q a) → Goes R w o P → Goes R w o Q
    weaker o less goes = record { found = λ r is sound. let h = goes.found r is sound in (h.0, h.1, λ below. let n = h.2 below in (n.0, less r.0 n.1)) }

    pub ruled : {A : Type 0} {Q : A → Type 0} {w : World} (r : Rule) (b : Bool) (f : Unit {0} → Walk A)
        → (IsTrue b → Goes R w (f tt w) Q) → Goes R w (and_then (rule r b w) f) Q
    ruled r true f goes = goes refl
    ruled r false f goes = never

    pub finds : {A B : Type 0} {Q : B → Type 0} {w : World} (r : Rule) (o : Option A) (f : A → Walk B)
        → ((a : A) → o ≡ Some a → Goes R w (f a w) Q) → Goes R w (and_then (found r o w) f) Q
    finds r None f goes = never
    finds r (Some a) f goes = goes a refl

-- What holds of all that a walk finds.
use Rattle.std.proofs.Common.{◌≡◌, ◌∙◌, List, [], ◌∷◌, map, Ok, Err, refl, ap, subst}
use Rattle.c_scope.specs.declared.rule.Rule.{Rule}
use Rattle.c_scope.specs.declared.world.World.{World}
use Rattle.c_scope.specs.Scopes.{enter, leave, within}
use Rattle.c_scope.specs.Walk.{Outcome, Walk, and_then, each, each_pair}

-- this holds of what is found, where no rule is broken
pub record Yields {A : Type 0} (o : Outcome (A × World)) (Q : A → Type 0) : Type 0 where
  pub found : (r : A × World) → o ≡ Ok r → Q r.0

-- ---- the steps of a walk

abbrev answered : {A : Type 0} → A → World → Outcome (A × World)
answered a w = Ok (a, w)

at_once_found : {A : Type 0} (Q : A → Type 0) (a : A) (w : World) → Q a → (r : A × World) → answered a w ≡ Ok r → Q r.0
at_once_found Q a w holds r is =
    let same : (a, w) ≡ r = cc in
    subst (λ s. Q s.0) same holds

pub at_once : {A : Type 0} {Q : A → Type 0} {a : A} {w : World} → Q a → Yields (Ok (a, w)) Q
at_once {A} {Q} {a} {w} holds = record { found = at_once_found Q a w holds }

pub never : {A : Type 0} {Q : A → Type 0} {e : Rule} → Yields {A = A} (Err e) Q
never = record { found = λ r is. cc }

pub after : {A B : Type 0} {P : A → Type 0} {Q : B → Type 0} (o : Outcome (A × World)) (f : A → Walk B)
    → Yields o P → ((a : A) (w : World) → P a → Yields (f a w) Q) → Yields (and_then o f) Q
after (Ok a) f first rest = rest a.0 a.1 (first.found a refl)
after (Err e) f first rest = never

-- whatever the first step finds
pub whatever : {A B : Type 0} {Q : B → Type 0} (o : Outcome (A × World)) (f : A → Walk B)
    → ((a : A) (w : World) → Yields (f a w) Q) → Yields (and_then o f) Q
whatever (Ok a) f rest = rest a.0 a.1
whatever (Err e) f rest = never

-- ---- a scope, and lists of walks

pub inside_scope : {A : Type 0} {Q : A → Type 0} (p : Walk A) → ((w : World) → Yields (p w) Q) → (w : World) → Yields (within p w) Q
unfolding enter leave
inside_scope p holds w = after (p (record w { scopes = [] ∷ w.scopes })) _ (holds (record w { scopes = [] ∷ w.scopes })) (λ a v is. at_once is)

pub map_twice : {A B C : Type 0} (f : B → C) (g : A → B) (xs : List A) → map f (map g xs) ≡ map (λ x. f (g x)) xs
map_twice f g [] = refl
map_twice f g (x ∷ xs) = ap (λ ys. f (g x) ∷ ys) (map_twice f g xs)

module _ {A T H : Type 0} (erase : A → T) (tree : H → T) where
  joined : (x : A) (xs : List A) (h : H) (hs : List H) → erase x ≡ tree h → map erase xs ≡ map tree hs → map erase (x ∷ xs) ≡ map tree (h ∷ hs)
  joined x xs h hs first rest = ap (λ t. t ∷ map erase xs) first ∙ ap (λ ts. tree h ∷ ts) rest

  pub each_yields : (p : H → Walk A) → ((h : H) (w : World) → Yields (p h w) (λ x. erase x ≡ tree h))
      → (hs : List H) (w : World) → Yields (each (map p hs) w) (λ xs. map erase xs ≡ map tree hs)
  each_yields p holds [] w = at_once refl
  each_yields p holds (h ∷ hs) w =
      after (p h w) _ (holds h w) (λ x v first.
      after (each (map p hs) v) _ (each_yields p holds hs v) (λ xs u rest.
      at_once (joined x xs h hs first rest)))

  pub each_pair_yields : {B : Type 0} (p : H → Walk (A × B)) → ((h : H) (w : World) → Yields (p h w) (λ x. erase x.0 ≡ tree h))
      → (hs : List H) (w : World) → Yields (each_pair (map p hs) w) (λ xs. map erase xs.0 ≡ map tree hs)
  each_pair_yields p holds [] w = at_once refl
  each_pair_yields p holds (h ∷ hs) w =
      after (p h w) _ (holds h w) (λ x v first.
      after (each_pair (map p hs) v) _ (each_pair_yields p holds hs v) (λ xs u rest.
      at_once (joined x.0 xs.0 h hs first rest)))

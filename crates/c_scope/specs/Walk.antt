-- A walk goes from what is known at a place to what it finds and what is known behind it, or to the first rule that is
-- broken on the way.
use Rattle.std.specs.Prelude.{Bool, if◌then◌else◌, List, [], ◌∷◌, Option, Some, None, Result, Ok, Err}
use Rattle.c_scope.specs.declared.rule.Rule.{Rule}
use Rattle.c_scope.specs.declared.world.World.{World}

abbrev pub Outcome : Type 0 → Type 0
Outcome A = Result A Rule

abbrev pub Walk : Type 0 → Type 0
Walk A = World → Outcome (A × World)

abbrev pub and_then : {A B : Type 0} → Outcome (A × World) → (A → Walk B) → Outcome (B × World)
and_then (Ok r) f = f r.0 r.1
and_then (Err e) f = Err e

infixl 10 ◌>>=◌
abbrev pub ◌>>=◌ : {A B : Type 0} → Walk A → (A → Walk B) → Walk B
p >>= f = λ w. and_then (p w) f

infixl 10 ◌>>◌
abbrev pub ◌>>◌ : {A B : Type 0} → Walk A → Walk B → Walk B
p >> q = p >>= (λ _. q)

abbrev pub pure : {A : Type 0} → A → Walk A
pure a = λ w. Ok (a, w)

-- the rule is broken here
abbrev pub breaks : {A : Type 0} → Rule → Walk A
breaks r = λ w. Err r

-- the rule holds exactly where the test does
abbrev pub rule : Rule → Bool → Walk (Unit {0})
rule r holds = if holds then pure tt else breaks r

-- what is found, or the rule is broken
abbrev pub found : {A : Type 0} → Rule → Option A → Walk A
found r None = breaks r
found r (Some a) = pure a

abbrev pub world : Walk World
world = λ w. Ok (w, w)

abbrev pub change : (World → World) → Walk (Unit {0})
change f = λ w. Ok (tt, f w)

-- each in order
abbrev pub each : {A : Type 0} → List (Walk A) → Walk (List A)
each [] = pure []
each (p ∷ ps) = p >>= (λ x. each ps >>= (λ xs. pure (x ∷ xs)))

abbrev pub maybe : {A : Type 0} → Option (Walk A) → Walk (Option A)
maybe None = pure None
maybe (Some p) = p >>= (λ x. pure (Some x))

-- each in order, where each finds two things
abbrev pub each_pair : {A B : Type 0} → List (Walk (A × B)) → Walk (List A × List B)
each_pair [] = pure ([], [])
each_pair (p ∷ ps) = p >>= (λ x. each_pair ps >>= (λ xs. pure (x.0 ∷ xs.0, x.1 ∷ xs.1)))

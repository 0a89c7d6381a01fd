-- The steps of a walk that breaks no rule.
use Rattle.std.proofs.Common.{◌≡◌, Bool, true, false, Option, Some, None, Ok, Err, refl, ap}
use Rattle.c_scope.specs.declared.rule.Rule.{Rule}
use Rattle.c_scope.specs.declared.world.World.{World}
use Rattle.c_scope.specs.Walk.{Outcome, Walk, and_then, found, rule}

pub split : {A B : Type 0} (o : Outcome (A × World)) (f : A → Walk B) (r : B × World) → and_then o f ≡ Ok r → (a : A × World) × ((o ≡ Ok a) × (f a.0 a.1 ≡ Ok r))
split (Ok a) f r is = (a, (refl, is))
split (Err e) f r is = cc

abbrev pub answered : {A : Type 0} → A → World → Outcome (A × World)
answered a w = Ok (a, w)

pub ended : {A : Type 0} (a : A) (w : World) (r : A × World) → answered a w ≡ Ok r → (let s : A × World = (a, w) in s) ≡ r
ended a w r is = cc

-- the world that a step leaves is the one behind it
pub ended_world : {A : Type 0} (a : A) (w : World) (r : A × World) → answered a w ≡ Ok r → w ≡ r.1
ended_world {A} a w r is = ap (λ (s : A × World). s.1) (ended a w r is)

pub rule-found : (e : Rule) (b : Bool) (w : World) (r : Unit {0} × World) → rule e b w ≡ Ok r → (b ≡ true) × (w ≡ r.1)
rule-found e true w r is = (refl, ended_world tt w r is)
rule-found e false w r is = cc

pub option-found : {A : Type 0} (e : Rule) (o : Option A) (w : World) (r : A × World) → found e o w ≡ Ok r → (o ≡ Some r.0) × (w ≡ r.1)
option-found e None w r is = cc
option-found {A} e (Some a) w r is = (ap (λ (s : A × World). Some s.0) (ended a w r is), ended_world a w r is)

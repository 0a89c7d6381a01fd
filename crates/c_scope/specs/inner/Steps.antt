-- The steps of a walk: what each leaves of it.
use Rattle.std.proofs.Common.{◌≡◌, Bool, true, false, IsTrue, IsFalse, Option, Some, None, Result, Ok, Err, refl, ap, sym, ◌∙◌}
use Rattle.c_scope.specs.declared.rule.Rule.{Rule}
use Rattle.c_scope.specs.declared.world.World.{World}
use Rattle.c_scope.specs.declared.failure.Failure.{Failure}
use Rattle.c_scope.specs.declared.failure.Failure.TheVariants.{Broken, Memory}
use Rattle.c_scope.specs.Walks.{Walks}
use Rattle.c_scope.specs.Walk.{Outcome, Walk, ◌>>=◌, ◌>>◌, found, rule}

pub rule-holds : {A : Type 0} (r : Rule) (b : Bool) (q : Walk A) (w : World) → IsTrue b → (rule r b >> q) w ≡ q w
rule-holds r true q w holds = refl
rule-holds r false q w holds = cc

pub rule-breaks : {A : Type 0} (r : Rule) (b : Bool) (q : Walk A) (w : World) → IsFalse b → (rule r b >> q) w ≡ Err r
rule-breaks r true q w holds = cc
rule-breaks r false q w holds = refl

pub found-some : {A B : Type 0} (r : Rule) (o : Option A) (f : A → Walk B) (w : World) (a : A) → o ≡ Some a → (found r o >>= f) w ≡ f a w
found-some r None f w a is = cc
found-some r (Some b) f w a is = cc

pub found-none : {A B : Type 0} (r : Rule) (o : Option A) (f : A → Walk B) (w : World) → o ≡ None → (found r o >>= f) w ≡ Err r
found-none r None f w is = refl
found-none r (Some b) f w is = cc

-- an answer that names the rule that is broken
pub walk-breaks : {A : Type 0} (outcome : Outcome (A × World)) (result : Result A Failure) (new : World) (r : Rule)
    → outcome ≡ Err r → result ≡ Err (Broken r) → Walks outcome result new
walk-breaks outcome (Ok a) new r is found = cc
walk-breaks outcome (Err (Broken s)) new r is found =
    let same : s ≡ r = cc in
    is ∙ ap Err (sym same)
walk-breaks outcome (Err Memory) new r is found = tt

pub ruleset steps = (rule-holds, rule-breaks, found-some, found-none)

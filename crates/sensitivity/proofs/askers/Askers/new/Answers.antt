use Rattle.std.proofs.Common.{rules, ◌≡◌, ◌++◌, ◌∷◌, [], ℕ, sym, subst}
use Rattle.sensitivity.specs.inner.Marks.{Includes}
use Rattle.sensitivity.proofs.Marking.{included_none}
use Rattle.sensitivity.proofs.askers.Askers.new.Goals as goal

pub loop-preserved : goal.loop-preserved
loop-preserved c =
    let pushed : c.push.new.self.items ≡ c.loop.lists.items ++ [] ∷ [] = search rules in
    record {
      many = search rules;
      none = subst (λ xs. (n s : ℕ) → Includes xs n s → ⊥) (sym pushed) (included_none c.loop.lists.items c.loop.invariant.none);
    }

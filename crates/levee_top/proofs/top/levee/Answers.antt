use Rattle.std.proofs.Common.{inl, inr, ⊎_elim, ◌∙◌}
use Rattle.levee_top.proofs.OutcomeLemmas.{exact_outcome, no_command_gives}
use Rattle.levee_top.proofs.top.levee.Goals as goal

pub returns-in-Ok-clause-exact : goal.returns-in-Ok-clause-exact
returns-in-Ok-clause-exact g c input status text is outcome whole =
    exact_outcome c.outcomes_are_unique.ensures _ _ _ _ _ _ _ _ _ _ c.in-Ok.ensures.gives (c.deliver.ensures.whole whole) c.deref.ensures.value (c.deliver.ensures.text whole) input status text is outcome

pub returns-in-Ok-clause-no_command : goal.returns-in-Ok-clause-no_command
returns-in-Ok-clause-no_command g c none =
    let gives = c.in-Ok.ensures.gives in
    ⊎_elim (λ e. inl (e ∙ no_command_gives _ gives.input _ _ none gives.outcome)) (λ other. inr other) c.deliver.ensures.cause

use Rattle.std.proofs.Common.{◌∙◌}
use Rattle.script.proofs.EffectLemmas.{rounds_repeated}
use Rattle.script.proofs.effects.push_rounds.Goals as goal

pub returns : goal.returns
returns c =
    rw (rounds_repeated c.args.threads c.args.rounds) (rw (c.as_slice.ensures ∙ c.in_ok-round.ensures) at c.push_repeated.ensures.ok)

use Rattle.meaning.specs.declared.event.Event.TheVariants.{Turn}
use Rattle.script.proofs.EffectLemmas.{turns_repeated}
use Rattle.script.proofs.effects.push_turns.Goals as goal

pub returns : goal.returns
returns c = rw (turns_repeated c.args.turns (Turn c.args.thread)) c.push_repeated.ensures.ok

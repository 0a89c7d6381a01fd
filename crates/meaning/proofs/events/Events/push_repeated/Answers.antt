use Rattle.meaning.specs.Blocks.{listed}
use Rattle.meaning.proofs.BlockLemmas.{longer}
use Rattle.meaning.proofs.events.Events.push_repeated.Goals as goal

pub invariant_of-self-2 : goal.invariant_of-self-2
invariant_of-self-2 c =
    longer (listed c.self.inside.blocks.items) c.args.events.now (listed c.push_block.new.blocks.items) c.args.times c.self.inside.len c.in-Some.len
    c.self.invariant c.in-Some.ensures c.in_ok-push_block.ensures.ok

use Rattle.std.proofs.Common.{◌∙◌}
use Rattle.meaning.proofs.BlockLemmas.{here, further}
use Rattle.meaning.proofs.events.find.Goals as goal

pub returns-in-Ok : goal.returns-in-Ok
returns-in-Ok c =
    c.loop-block.invariant
    ∙ here c.args.blocks.now c.loop-block.block-index c.loop-block.rest c.block-item.result c.in-Ok.event.now c.loop-block-test.true c.block-item.is c.in-Ok.ensures.found

pub loop-block-preserved : goal.loop-block-preserved
loop-block-preserved c =
    c.loop-block.invariant
    ∙ further c.args.blocks.now c.loop-block.block-index c.loop-block.rest c.in-Err.behind c.block-item.result c.loop-block-test.true c.block-item.is c.in-Err.ensures.behind

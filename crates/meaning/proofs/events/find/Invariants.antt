use Rattle.std.proofs.Common.{◌≡◌, drop, slice_get}
use Rattle.meaning.specs.Blocks.{listed}
use Rattle.meaning.proofs.events.find.Given as goal

-- the event is that of number `rest` in the blocks that are left
abbrev pub invariant-loop-block : goal.invariant-loop-block
invariant-loop-block l = slice_get (listed l.blocks) l.i ≡ slice_get (listed (drop l.block-index l.blocks)) l.rest

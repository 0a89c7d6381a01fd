-- a turn of each thread below this one is there
use Rattle.std.proofs.Common.{◌≡◌}
use Rattle.script.specs.Script.{round}
use Rattle.script.proofs.effects.round.Given as goal

abbrev pub invariant-loop-thread : goal.invariant-loop-thread
invariant-loop-thread l = l.turns ≡ round l.thread

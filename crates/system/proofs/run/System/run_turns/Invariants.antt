use Rattle.std.proofs.Common.{◌≡◌, ◌≤◌, ◌-◌, [], ◌∷◌}
use Rattle.meaning.specs.Blocks.{repeated}
use Rattle.meaning.specs.declared.event.Event.TheVariants.{Turn}
use Rattle.system.specs.inner.Runs.{IsBehind, IsKept}
use Rattle.system.proofs.run.System.run_turns.Given as goal

-- the turns so far are run
abbrev pub invariant-loop-left : goal.invariant-loop-left
invariant-loop-left l = record {
  few : l.left ≤ l.times;
  behind : IsBehind l.code (repeated (l.times - l.left) (Turn l.t ∷ [])) l.fn.self l.self l.fn.trace.records l.trace.records;
  kept : IsKept l.code l.fn.self l.self;
  inputs : l.trace.inputs ≡ l.fn.trace.inputs;
}

abbrev pub decreases-loop-left : goal.decreases-loop-left
decreases-loop-left l = l.left

use Rattle.std.proofs.Common.{◌≡◌}
use Rattle.meaning.specs.Blocks.{repeated}
use Rattle.system.specs.inner.Runs.{IsBehind, IsKept}
use Rattle.system.proofs.run.System.run_rounds.Given as goal

-- the events are run so often
abbrev pub invariant-loop : goal.invariant-loop
invariant-loop l = record {
  behind : IsBehind l.code (repeated l.counter l.events) l.fn.self l.self l.fn.trace.records l.trace.records;
  kept : IsKept l.code l.fn.self l.self;
  inputs : l.trace.inputs ≡ l.fn.trace.inputs;
}

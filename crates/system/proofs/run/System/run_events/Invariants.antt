use Rattle.std.proofs.Common.{◌≡◌, take}
use Rattle.system.specs.inner.Runs.{IsBehind, IsKept}
use Rattle.system.proofs.run.System.run_events.Given as goal

-- the events so far are run
abbrev pub invariant-loop-event : goal.invariant-loop-event
invariant-loop-event l = record {
  behind : IsBehind l.code (take l.event-index l.events) l.fn.self l.self l.fn.trace.records l.trace.records;
  kept : IsKept l.code l.fn.self l.self;
  inputs : l.trace.inputs ≡ l.fn.trace.inputs;
}

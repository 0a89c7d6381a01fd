use Rattle.std.proofs.Common.{◌≡◌, take}
use Rattle.meaning.specs.Blocks.{listed}
use Rattle.system.specs.inner.Runs.{IsBehind, IsKept}
use Rattle.system.proofs.run.System.run.Given as goal

-- the blocks so far are run
abbrev pub invariant-loop-block : goal.invariant-loop-block
invariant-loop-block l = record {
  behind : IsBehind l.code (listed (take l.block-index l.block-items)) l.fn.self l.self l.fn.trace.records l.trace.records;
  kept : IsKept l.code l.fn.self l.self;
  inputs : l.trace.inputs ≡ l.fn.trace.inputs;
}

use Rattle.std.proofs.Common.{◌≡◌}
use Rattle.thread_engine.specs.Sound.{IsSound}
use Rattle.system.specs.inner.QuietTurns.{AreQuietTurns}
use Rattle.system.proofs.turn.take_quiet_turns.Given as goal

-- so many quiet turns are taken
abbrev pub invariant-loop-taken : goal.invariant-loop-taken
invariant-loop-taken l = record {
  turns : AreQuietTurns l.code l.fn.thread.number l.taken l.fn.thread.thread l.thread.thread;
  number : l.thread.number ≡ l.fn.thread.number;
  sound : IsSound l.code l.thread.thread;
}

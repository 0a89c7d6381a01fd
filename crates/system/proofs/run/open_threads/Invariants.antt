use Rattle.std.proofs.Common.{◌≡◌, length, map}
use Rattle.system.specs.inner.Seats.{first_threads}
use Rattle.system.specs.State.{thread_of}
use Rattle.system.proofs.Systems.{AreSeats}
use Rattle.system.proofs.run.open_threads.Given as goal

-- the threads so far
abbrev pub invariant-loop-n : goal.invariant-loop-n
invariant-loop-n l = record {
  threads : map thread_of l.seats.items ≡ first_threads l.code l.n;
  count : length l.seats.items ≡ l.n;
  each : AreSeats l.code l.seats.items;
}

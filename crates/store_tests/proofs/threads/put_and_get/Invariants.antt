use Rattle.std.proofs.Common.{◌≡◌, ◌+◌, ◌≤◌}
use Rattle.safe_table.specs.Seat.{puts_left}
use Rattle.store_tests.proofs.threads.put_and_get.Given as goal

abbrev pub invariant-loop-n : goal.invariant-loop-n
invariant-loop-n l = record { own : l.seat.store ≡ l.store; room : 50 ≤ puts_left l.seat + l.n }

use Rattle.std.proofs.Common.{◌≡◌}
use Rattle.store_tests.proofs.threads.alloc_free_and_look.Given as goal

abbrev pub invariant-loop-i : goal.invariant-loop-i
invariant-loop-i l = record { own : l.seat.store ≡ l.store }

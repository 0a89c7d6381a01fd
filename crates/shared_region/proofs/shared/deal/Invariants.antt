use Rattle.std.proofs.Common.{◌≡◌, ℕ, ◌<◌, Some, slice_get, length}
use Rattle.safe_table.specs.Seat.{fresh_seat}
use Rattle.shared_region.proofs.shared.deal.Given as goal

abbrev pub invariant-loop-number : goal.invariant-loop-number
invariant-loop-number l = record {
  own : l.opener.store ≡ l.table;
  given : l.opener.given ≡ l._number;
  all : l.threads ≡ l.table.size.threads;
  count : length l.seats.items ≡ l._number;
  seats : (k : ℕ) → k < l._number → slice_get l.seats.items k ≡ Some (fresh_seat l.table k);
}

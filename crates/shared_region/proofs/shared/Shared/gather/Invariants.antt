use Rattle.std.proofs.Common.{◌≡◌, List, ◌++◌, All}
use Rattle.safe_table.specs.Seat.{SeatState, Gathered, IsGathering}
use Rattle.shared_region.proofs.Seats.{blank}
use Rattle.shared_region.proofs.shared.Shared.gather.Given as goal

abbrev pub invariant-loop-next : goal.invariant-loop-next
invariant-loop-next l = record {
  same : l.all.store ≡ l.self;
  whole : IsGathering l.all;
  own : All (λ s. s.store ≡ l.self) l.seats.items;
  done : (done : List SeatState) × (l.fn.seats.items ≡ l.seats.items ++ done) × All (λ s. Gathered l.all (blank s)) done;
}

abbrev pub decreases-loop-next : goal.decreases-loop-next
decreases-loop-next l = goal.left-loop-next l

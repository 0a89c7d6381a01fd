use Rattle.std.proofs.Common.{arith}
use Rattle.safe_table.proofs.Seats.{learns}
use Rattle.safe_table.proofs.Whole.{belongs}
use Rattle.safe_table.proofs.table.SafeTable.gather_first.Goals as goal

pub load-requires : goal.load-requires
load-requires c =
    let b = belongs c.seat.inside.seat.me c.seat.view_is c.requires c.self.view_is c.self.invariant.0 in
    let long = c.self.invariant.1 in
    (b.ids, omega arith, learns _ _ _ _ c.seat.invariant.live)

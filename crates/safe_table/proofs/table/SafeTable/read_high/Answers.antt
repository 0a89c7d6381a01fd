use Rattle.std.proofs.Common.{◌*◌, ◌≤◌, sym, subst, arith}
use Rattle.safe_table.specs.Seat.{StoreName}
use Rattle.safe_table.proofs.PutsAndGets.{reads}
use Rattle.safe_table.proofs.Whole.{belongs}
use Rattle.safe_table.proofs.table.SafeTable.read_high.Goals as goal

pub load-requires : goal.load-requires
load-requires c =
    let b = belongs c.seat.inside.seat.me c.seat.view_is c.requires.own c.self.view_is c.self.invariant.0 in
    let within : c.args.put ≤ c.self.inside.size.quota * c.self.inside.size.threads =
    subst (λ (s : StoreName). c.args.put ≤ s.size.quota * s.size.threads) (sym c.self.view_is) c.requires.named.1 in
    let named = c.requires.named.0 in
    let long = c.self.invariant.1 in
    let place = c.low_at-at.ensures in
    (b.ids, omega arith, reads _ _ _ _ _ c.seat.invariant.live)

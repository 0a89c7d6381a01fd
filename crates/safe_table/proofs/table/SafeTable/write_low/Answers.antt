use Rattle.std.proofs.Common.{◌*◌, ◌<◌, sym, ◌∙◌, subst, arith}
use Rattle.safe_table.specs.Seat.{StoreName}
use Rattle.safe_table.specs.Rule.{low_at}
use Rattle.safe_table.proofs.PutsAndGets.{writes_low}
use Rattle.safe_table.proofs.Whole.{held_of, belongs, next_place, room_in}
use Rattle.safe_table.proofs.table.SafeTable.write_low.Goals as goal

pub store-requires : goal.store-requires
store-requires c =
    let whole = c.seat.invariant in
    let m = c.seat.inside.seat.me in
    let b = belongs m c.seat.view_is c.requires.own c.self.view_is c.self.invariant.0 in
    let within : c.next_record.result < c.self.inside.size.quota * c.self.inside.size.threads =
    subst (λ (s : StoreName). c.next_record.result < s.size.quota * s.size.threads) (sym c.self.view_is) c.next_record.ensures.within in
    let record_is = next_place {p = c.next_record.result} m c.self.inside.table.shared.key c.seat.view_is b.size_is c.next_record.ensures.number in
    let long = c.self.invariant.1 in
    let place = c.low_at-at.ensures in (
      b.ids,
      omega arith,
      writes_low _ _ _ _ _ _ (held_of c.seat.inside.number m.0) whole.live whole.held (room_in m c.seat.view_is c.requires.room)
          (c.low_at-at.ensures ∙ (λ i. low_at (sym c.self.invariant.0 i) (record_is i))),
    )

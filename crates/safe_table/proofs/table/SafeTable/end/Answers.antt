use Rattle.std.proofs.Common.{◌≡◌, ℕ, ◌<◌, sym, refl, ap, ◌∙◌, subst, arith}
use Rattle.safe_table.specs.declared.history.StoreSize.{StoreSize}
use Rattle.std.specs.Prelude.{nat_eq}
use Rattle.meaning.specs.declared.action.Action.TheVariants.{Free}
use Rattle.meaning.specs.declared.action.Reply.TheVariants.{Flag}
use Rattle.safe_table.specs.Seat.{SeatCall}
use Rattle.safe_table.specs.inner.Seats.{seat_state}
use Rattle.safe_table.proofs.IdsEnded.{frees_at}
use Rattle.safe_table.proofs.Whole.{held_of, belongs, seat_called, whole_quiet, blank_after, left_of, left_here}
use Rattle.safe_table.proofs.table.SafeTable.end.Goals as goal

pub compare_exchange-requires : goal.compare_exchange-requires
compare_exchange-requires g c =
    let whole = c.seat.invariant in
    let b = belongs c.seat.inside.seat.me c.seat.view_is c.requires.own c.self.view_is c.self.invariant.0 in
    let key : c.self.inside.table.shared.key.slots ≡ c.self.inside.size.slots = ap (λ (z : StoreSize). z.slots) c.self.invariant.0 in
    let inside : c.args.id < c.self.inside.table.shared.key.slots = subst (λ (z : StoreSize). c.args.id < z.slots) b.named c.requires.inside in
    let about : g.B.About.number ≡ c.args.id = c.requires.about in
    let long = c.self.invariant.1 in
    let place = c.end_at-at.ensures in
    (b.ids, omega arith, frees_at _ _ _ _ g.B.About.number _ (held_of c.seat.inside.number c.seat.inside.seat.me.0) (omega arith) (omega arith) whole.live whole.held)

pub invariant_of-seat : goal.invariant_of-seat
invariant_of-seat g c =
    let done = c.compare_exchange.ensures.2.1 (held_of c.seat.inside.number c.seat.inside.seat.me.0) c.seat.invariant.held in
    whole_quiet c.seat.invariant c.compare_exchange.ensures.2.0 refl refl refl done

pub returns-clause-called : goal.returns-clause-called
returns-clause-called g c =
    let done = c.compare_exchange.ensures.2.1 (held_of c.seat.inside.number c.seat.inside.seat.me.0) c.seat.invariant.held in
    subst (λ (n : ℕ). SeatCall c.args.seat.now.seat (seat_state c.compare_exchange.new.seat.table_id c.seat.inside.number c.compare_exchange.new.seat.me) (Free n) (Flag (nat_eq c.compare_exchange.result 0)) 0 0)
    c.requires.about (seat_called c.seat.inside.seat.me c.compare_exchange.new.seat.me c.seat.view_is c.compare_exchange.ensures.0 done)

pub returns-clause-blank : goal.returns-clause-blank
returns-clause-blank g c =
    blank_after c.compare_exchange.new.seat.me (c.compare_exchange.ensures.2.1 (held_of c.seat.inside.number c.seat.inside.seat.me.0) c.seat.invariant.held)

pub returns-clause-left : goal.returns-clause-left
returns-clause-left g c = left_here c.compare_exchange.new.seat.me (invariant_of-seat g c) ∙ sym (left_of c.seat.view_is c.seat.invariant)

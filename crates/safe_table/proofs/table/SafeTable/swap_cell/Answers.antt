use Rattle.std.proofs.Common.{◌≡◌, ℕ, ◌-◌, ◌*◌, ◌<◌, ap, ◌∙◌, subst, arith}
use Rattle.safe_table.specs.declared.history.StoreSize.{StoreSize}
use Rattle.safe_table.specs.Entries.{IsEntry}
use Rattle.safe_table.specs.Rule.{next_record}
use Rattle.meaning.specs.declared.action.Action.TheVariants.{Put}
use Rattle.meaning.specs.declared.action.Reply.TheVariants.{Nothing}
use Rattle.safe_table.specs.Seat.{Drafting, SeatCall}
use Rattle.safe_table.specs.inner.Seats.{seat_state}
use Rattle.safe_table.proofs.PutsAndGets.{swaps_at}
use Rattle.safe_table.proofs.Whole.{or_false, held_of, belongs, seat_called, whole_again, blank_after, left_of, left_here, next_place}
use Rattle.safe_table.proofs.table.SafeTable.swap_cell.Goals as goal

pub swap-before-requires : goal.swap-before-requires
swap-before-requires g c =
    let whole = c.seat.invariant in
    let m = c.seat.inside.seat.me in
    let b = belongs m c.seat.view_is c.requires.own c.self.view_is c.self.invariant.0 in
    let key : c.self.inside.table.shared.key.slots ≡ c.self.inside.size.slots = ap (λ (z : StoreSize). z.slots) c.self.invariant.0 in
    let inside : c.args.a < 64 * c.self.inside.table.shared.key.slots = subst (λ (z : StoreSize). c.args.a < 64 * z.slots) b.named c.requires.inside in
    let about : g.B.About.number ≡ c.args.a = c.requires.about in
    let long = c.self.invariant.1 in
    let place = c.cell_at.ensures in
    let put = c.requires.number in
    let record_is : c.args.put - 1 ≡ next_record c.self.inside.table.shared.key (held_of c.seat.inside.number m.0) = next_place m c.self.inside.table.shared.key c.seat.view_is b.size_is (omega arith) in (
      b.ids,
      omega arith,
      swaps_at _ _ _ _ g.B.About.number _ _ g.B.About.entry (held_of c.seat.inside.number m.0) (omega arith) (omega arith)
          (subst (λ (z : StoreSize). IsEntry z g.B.About.entry) b.named c.requires.entry) whole.live whole.held
          (ap (λ (d : Drafting). d.draft) c.seat.view_is ∙ c.requires.written) (omega arith),
    )

pub invariant_of-seat : goal.invariant_of-seat
invariant_of-seat g c =
    let done = c.swap-before.ensures.2.1 (held_of c.seat.inside.number c.seat.inside.seat.me.0) c.seat.invariant.held in
    let left = left_of c.seat.view_is c.seat.invariant in
    let room = c.requires.room in
    whole_again c.seat.invariant c.swap-before.ensures.2.0 (omega arith) (or_false _) (or_false _) done

pub returns-clause-called : goal.returns-clause-called
returns-clause-called g c =
    let done = c.swap-before.ensures.2.1 (held_of c.seat.inside.number c.seat.inside.seat.me.0) c.seat.invariant.held in
    subst (λ (n : ℕ). SeatCall c.args.seat.now.seat (seat_state c.swap-before.new.seat.table_id c.seat.inside.number c.swap-before.new.seat.me) (Put n g.B.About.entry) Nothing c.args.put c.swap-before.result)
    c.requires.about (seat_called c.seat.inside.seat.me c.swap-before.new.seat.me {p = c.args.put} {b = c.swap-before.result} c.seat.view_is c.swap-before.ensures.0 done)

pub returns-clause-blank : goal.returns-clause-blank
returns-clause-blank g c =
    blank_after c.swap-before.new.seat.me (c.swap-before.ensures.2.1 (held_of c.seat.inside.number c.seat.inside.seat.me.0) c.seat.invariant.held)

pub returns-clause-left : goal.returns-clause-left
returns-clause-left g c =
    let now = left_here c.swap-before.new.seat.me (invariant_of-seat g c) in
    let was = left_of c.seat.view_is c.seat.invariant in
    let room = c.requires.room in
    omega arith

use Rattle.std.proofs.Common.{◌≡◌, ◌*◌, ◌<◌, sym, refl, ap, ◌∙◌, subst, arith}
use Rattle.safe_table.specs.declared.history.StoreSize.{StoreSize}
use Rattle.safe_table.proofs.PutsAndGets.{gets_at}
use Rattle.safe_table.proofs.Whole.{held_of, belongs, whole_quiet, left_of, left_here}
use Rattle.safe_table.proofs.table.SafeTable.load_cell.Goals as goal

pub load-requires : goal.load-requires
load-requires g c =
    let whole = c.seat.invariant in
    let b = belongs c.seat.inside.seat.me c.seat.view_is c.requires.own c.self.view_is c.self.invariant.0 in
    let inside : c.args.a < 64 * c.self.inside.table.shared.key.slots = subst (λ (z : StoreSize). c.args.a < 64 * z.slots) b.named c.requires.inside in
    let about : g.B.About.number ≡ c.args.a = c.requires.about in
    let key : c.self.inside.table.shared.key.slots ≡ c.self.inside.size.slots = ap (λ (z : StoreSize). z.slots) c.self.invariant.0 in
    let long = c.self.invariant.1 in
    let place = c.cell_at.ensures in
    (b.ids, omega arith, gets_at _ _ _ _ g.B.About.number _ (held_of c.seat.inside.number c.seat.inside.seat.me.0) (omega arith) (omega arith) whole.live whole.held)

pub invariant_of-seat : goal.invariant_of-seat
invariant_of-seat g c =
    let done = c.load.ensures.2.1 (held_of c.seat.inside.number c.seat.inside.seat.me.0) c.seat.invariant.held in
    whole_quiet c.seat.invariant c.load.ensures.2.0 refl refl refl done.1

pub returns-clause-left : goal.returns-clause-left
returns-clause-left g c =
    let done = c.load.ensures.2.1 (held_of c.seat.inside.number c.seat.inside.seat.me.0) c.seat.invariant.held in
    left_here c.load.new.seat.me (whole_quiet c.seat.invariant c.load.ensures.2.0 refl refl refl done.1) ∙ sym (left_of c.seat.view_is c.seat.invariant)

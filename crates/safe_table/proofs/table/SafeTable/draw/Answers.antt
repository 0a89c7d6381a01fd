use Rattle.std.proofs.Common.{◌≡◌, ℕ, ◌≤◌, sym, ap, ◌∙◌, subst, arith}
use Rattle.safe_table.specs.declared.history.StoreSize.{StoreSize}
use Rattle.std.specs.Prelude.{Bool, cond, is_none}
use Rattle.safe_table.specs.Rule.{IsSize}
use Rattle.safe_table.specs.inner.Plays.{SlotIs}
use Rattle.safe_table.proofs.SlotsDrawn.{draws}
use Rattle.safe_table.proofs.Whole.{or_false, held_of, belongs, whole_again, left_of, left_here, none_is, slot_is, late_now}
use Rattle.safe_table.proofs.table.SafeTable.draw.Goals as goal

pub fetch_add-found-requires : goal.fetch_add-found-requires
fetch_add-found-requires g c =
    let whole = c.seat.invariant in
    let b = belongs c.seat.inside.seat.me c.seat.view_is c.requires.own c.self.view_is c.self.invariant.0 in
    let about : g.B.About.number ≡ c.args.k = c.requires.about in
    let long = c.self.invariant.1 in (
      b.ids,
      omega arith,
      draws _ _ _ _ g.B.About.number _ (held_of c.seat.inside.number c.seat.inside.seat.me.0) whole.live whole.held
          (subst (λ (n : ℕ). (1 ≤ n) × (n ≤ 256)) (sym about) c.requires.amount)
          (c.added.ensures ∙ (λ i. cond (sym whole.late_is i) 0 (sym about i)))
          (subst IsSize (sym c.self.invariant.0) c.self.invariant.2),
    )

pub slot_found-slot-requires : goal.slot_found-slot-requires
slot_found-slot-requires g c =
    let done = c.fetch_add-found.ensures.2.1 (held_of c.seat.inside.number c.seat.inside.seat.me.0) c.seat.invariant.held in
    let b = belongs c.seat.inside.seat.me c.seat.view_is c.requires.own c.self.view_is c.self.invariant.0 in
    let size = subst IsSize (sym (b.size_is ∙ c.self.invariant.0)) c.self.invariant.2 in
    let few_slots = size.most_slots in
    let few_threads = size.most_threads in
    let bound = done.3 in
    omega arith

pub invariant_of-seat : goal.invariant_of-seat
invariant_of-seat g c =
    let whole = c.seat.invariant in
    let found : ℕ = c.fetch_add-found.result in
    let done = c.fetch_add-found.ensures.2.1 (held_of c.seat.inside.number c.seat.inside.seat.me.0) whole.held in
    let b = belongs c.seat.inside.seat.me c.seat.view_is c.requires.own c.self.view_is c.self.invariant.0 in
    let size = b.size_is ∙ c.self.invariant.0 in
    let told : SlotIs c.self.inside.size c.seat.inside.late c.args.k found done.0 =
    subst (λ (p : StoreSize × Bool × ℕ). SlotIs p.0 p.1 p.2 found done.0) (λ i. (size i, whole.late_is i, c.requires.about i)) done.2 in
    let same = slot_is c.self.inside.size c.seat.inside.late c.args.k found done.0 c.slot_found-slot.result told c.slot_found-slot.ensures in
    whole_again whole c.fetch_add-found.ensures.2.0 (omega arith)
    (late_now c.self.inside.size c.seat.inside.late c.args.k g.B.About.number found done.0 told ∙ (ap is_none same ∙ none_is c.is_none-seat-inside.result c.slot_found-slot.result c.is_none-seat-inside.ensures)) (or_false _) done.1

pub returns-clause-left : goal.returns-clause-left
returns-clause-left g c = left_here c.fetch_add-found.new.seat.me (invariant_of-seat g c) ∙ sym (left_of c.seat.view_is c.seat.invariant)

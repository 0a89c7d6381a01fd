use Rattle.std.proofs.Common.{◌≡◌, ℕ, [], ◌∷◌, ◌++◌, List, sym, refl, ap, ◌∙◌, subst, arith}
use mathlib.Core.List.{IsPrefix}
use lib.ListN.{get_elem?}
use Rattle.safe_table.specs.declared.history.StoreCall.{StoreCall}
use Rattle.safe_table.specs.declared.history.StoreSize.{StoreSize}
use Rattle.safe_table.specs.declared.view.Held.{Held}
use Rattle.safe_table.specs.declared.view.View.{View}
use Rattle.safe_table.specs.History.{IsHistory}
use Rattle.safe_table.specs.Seat.{Meets, Drafting}
use Rattle.safe_table.specs.inner.Seats.{own, seat_state}
use Rattle.safe_table.specs.inner.Views.{joined, note}
use Rattle.safe_table.proofs.Seats.{notes, joins, learns}
use Rattle.safe_table.proofs.Whole.{held_of, belongs}
use Rattle.safe_table.proofs.table.SafeTable.meet.Goals as goal

pub split_seat-note-requires : goal.split_seat-note-requires
split_seat-note-requires c =
    let b = belongs c.other.inside.seat.me c.other.view_is c.requires.others c.self.view_is c.self.invariant.0 in
    let long = c.self.invariant.1 in
    (b.ids, omega arith, notes _ _ _ c.other.invariant.live)

pub join_seat-requires : goal.join_seat-requires
join_seat-requires c =
    let b = belongs c.seat.inside.seat.me c.seat.view_is c.requires.own c.self.view_is c.self.invariant.0 in
    let o = belongs c.other.inside.seat.me c.other.view_is c.requires.others c.self.view_is c.self.invariant.0 in
    let told = c.split_seat-note.ensures in
    let long = c.self.invariant.1 in
    (b.ids, told.3 ∙ o.ids, ap (λ z. z.1) told.4, omega arith, joins _ _ _ _ _ c.seat.invariant.live (ap (λ z. z.0.live) told.4 ∙ c.other.invariant.live))

pub load-requires : goal.load-requires
load-requires c =
    let b = belongs c.seat.inside.seat.me c.seat.view_is c.requires.own c.self.view_is c.self.invariant.0 in
    let long = c.self.invariant.1 in
    (c.join_seat.ensures.0 ∙ b.ids, omega arith, learns _ _ _ _ (ap (λ z. z.0.live) c.join_seat.ensures.2 ∙ c.seat.invariant.live))

pub returns-clause-learnt : goal.returns-clause-learnt
returns-clause-learnt c =
    let n : ℕ = c.seat.inside.number in
    let m = c.seat.inside.seat.me in
    let w : View = c.load.new.seat.me.0 in
    let whole = c.seat.invariant in
    let noted = c.split_seat-note.ensures.4 in
    let both : c.join_seat.new.seat.me ≡ (joined m.0 (note c.other.inside.seat.me.0), m.1) = c.join_seat.ensures.2 ∙ (λ i. (joined m.0 ((noted i).0), m.1)) in
    let learnt = c.load.ensures.2.1 in
    let held : c.join_seat.new.seat.me.0.held ≡ held_of n m.0 ∷ [] = ap (λ z. z.0.held) both ∙ (λ i. whole.held i ++ []) in
    let ids : c.load.new.seat.table_id ≡ c.seat.inside.seat.table_id = c.load.ensures.0 ∙ c.join_seat.ensures.0 in
    let sizes : w.size ≡ m.0.size = ap (λ (z : View). z.size) learnt.is ∙ ap (λ z. z.0.size) both in
    let joined_size : c.join_seat.new.seat.me.0.size ≡ w.size = sym (ap (λ (z : View). z.size) learnt.is) in
    let owns : own w ≡ own m.0 = ap (λ (z : View). own z) learnt.is ∙ ap (λ (z : View). own z) (λ i. record w { held = held i }) in
    subst (λ (z : Drafting × Drafting). Meets z.0.seat z.1.seat (seat_state c.load.new.seat.table_id n c.load.new.seat.me)) (λ i. (c.seat.view_is i, c.other.view_is i)) record {
      own = subst (λ (z : List StoreCall). IsPrefix z w.seen) (ap (λ z. z.0.seen) both) learnt.seen;
      others = subst (λ (z : List StoreCall). IsPrefix z w.seen) (ap (λ z. z.0.told) both) learnt.told;
      legal = subst (λ (z : StoreSize). IsHistory z w.seen) joined_size learnt.legal;
      all_mine = learnt.mine 0 (held_of n m.0) (ap (λ (z : List Held). get_elem? z 0) held);
      mine = owns;
      store = (λ i. record { table_id = ids i; size = sizes i });
      number = refl;
    }

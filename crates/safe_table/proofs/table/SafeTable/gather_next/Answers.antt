use Rattle.std.proofs.Common.{◌≡◌, ℕ, suc, [], ◌∷◌, ◌++◌, List, sym, ap, ◌∙◌, subst, arith}
use mathlib.Core.List.{IsPrefix}
use mathlib.Core.Option.{some}
use lib.ListN.{get_elem?}
use Rattle.safe_table.specs.declared.history.StoreCall.{StoreCall}
use Rattle.safe_table.specs.declared.view.Held.{Held}
use Rattle.safe_table.specs.declared.view.View.{View}
use Rattle.atomic_table.proofs.Lists.{at_longer}
use Rattle.safe_table.specs.Seat.{StoreName, Drafting, GatherState, held_by}
use Rattle.safe_table.specs.inner.Seats.{drafting}
use Rattle.safe_table.proofs.Seats.{joins, learns}
use Rattle.safe_table.proofs.Whole.{belongs}
use Rattle.safe_table.proofs.table.SafeTable.gather_next.Goals as goal

pub join_seat-requires : goal.join_seat-requires
join_seat-requires c =
    let one : ◌≡◌ {A = StoreName} (record { table_id = c.all.inside.seat.table_id; size = c.all.inside.seat.me.0.size }) (record { table_id = c.self.inside.table.shared.table_id; size = c.self.inside.size }) =
    ap (λ (g : GatherState). g.store) c.all.view_is ∙ (c.requires.own ∙ sym c.self.view_is) in
    let two = belongs c.seat.inside.seat.me c.seat.view_is c.requires.others c.self.view_is c.self.invariant.0 in
    let long = c.self.invariant.1 in
    (ap (λ (s : StoreName). s.table_id) one, two.ids, c.seat.invariant.none_out, omega arith, joins _ _ _ _ _ c.all.invariant.live c.seat.invariant.live)

pub load-requires : goal.load-requires
load-requires c =
    let one : ◌≡◌ {A = StoreName} (record { table_id = c.all.inside.seat.table_id; size = c.all.inside.seat.me.0.size }) (record { table_id = c.self.inside.table.shared.table_id; size = c.self.inside.size }) =
    ap (λ (g : GatherState). g.store) c.all.view_is ∙ (c.requires.own ∙ sym c.self.view_is) in
    let long = c.self.invariant.1 in
    (c.join_seat.ensures.0 ∙ ap (λ (s : StoreName). s.table_id) one, omega arith, learns _ _ _ _ (ap (λ z. z.0.live) c.join_seat.ensures.2 ∙ c.all.invariant.live))

-- one more behind a list
there : (l m : List Held) (x : Held) → m ≡ x ∷ [] → (k : ℕ) × (get_elem? (l ++ m) k ≡ some x)
there [] m x e = (0, ap (λ (z : List Held). get_elem? z 0) e)
there (y ∷ ys) m x e = let t = there ys m x e in (suc t.0, t.1)

pub returns-clause-has : goal.returns-clause-has
returns-clause-has c =
    let learnt = c.load.ensures.2.1 in
    let both = c.join_seat.ensures.2 in
    let held : c.load.new.seat.me.0.held ≡ c.all.inside.seat.me.0.held ++ c.seat.inside.seat.me.0.held = ap (λ (z : View). z.held) learnt.is ∙ ap (λ z. z.0.held) both in
    let at = there c.all.inside.seat.me.0.held c.seat.inside.seat.me.0.held _ c.seat.invariant.held in
    subst (λ (z : Drafting). IsPrefix z.seat.seen c.load.new.seat.me.0.seen × ((k : ℕ) × (get_elem? c.load.new.seat.me.0.held k ≡ some (held_by z)))) c.seat.view_is (
      subst (λ (z : List StoreCall). IsPrefix z c.load.new.seat.me.0.seen) (ap (λ z. z.0.told) both) learnt.told,
      (at.0, subst (λ (z : List Held). get_elem? z at.0 ≡ some (held_by (drafting c.seat.inside.seat.table_id c.seat.inside.number c.seat.inside.seat.me))) (sym held) at.1),
    )

pub returns-clause-held : goal.returns-clause-held
returns-clause-held c k x is =
    let learnt = c.load.ensures.2.1 in
    let held : c.load.new.seat.me.0.held ≡ c.all.inside.seat.me.0.held ++ c.seat.inside.seat.me.0.held = ap (λ (z : View). z.held) learnt.is ∙ ap (λ z. z.0.held) c.join_seat.ensures.2 in
    subst (λ (z : List Held). get_elem? z k ≡ some x) (sym held)
    (at_longer c.all.inside.seat.me.0.held c.seat.inside.seat.me.0.held k x (subst (λ (z : GatherState). get_elem? z.held k ≡ some x) (sym c.all.view_is) is))

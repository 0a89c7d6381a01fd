use Rattle.std.proofs.Common.{◌≡◌, ℕ, ◌<◌, sym, ap, ◌∙◌, subst, arith}
use Rattle.safe_table.specs.declared.history.StoreSize.{StoreSize}
use Rattle.safe_table.specs.declared.view.View.{View}
use Rattle.safe_table.specs.Seat.{Opening, StoreName}
use Rattle.safe_table.proofs.Seats.{numbers, deals}
use Rattle.safe_table.proofs.table.SafeTable.deal.Goals as goal

pub fetch_add-requires : goal.fetch_add-requires
fetch_add-requires c =
    let is = c.opener.invariant in
    let same : ◌≡◌ {A = StoreName} (record { table_id = c.opener.inside.seat.table_id; size = c.opener.inside.seat.me.0.size }) (record { table_id = c.self.inside.table.shared.table_id; size = c.self.inside.size }) =
    ap (λ (o : Opening). o.store) c.opener.view_is ∙ (c.requires.own ∙ sym c.self.view_is) in
    let key : c.self.inside.table.shared.key.threads ≡ c.self.inside.size.threads = ap (λ (z : StoreSize). z.threads) c.self.invariant.0 in
    let few : c.opener.inside.given < c.self.inside.size.threads =
    subst (λ (n : ℕ). n < c.self.inside.size.threads) (sym (ap (λ (o : Opening). o.given) c.opener.view_is)) (subst (λ (s : StoreName). c.args.opener.now.given < s.size.threads) (sym c.self.view_is) c.requires.few) in
    let small = c.self.invariant.2.most_threads in
    let long = c.self.invariant.1 in
    (ap (λ (s : StoreName). s.table_id) same, omega arith, numbers _ _ _ _ c.opener.inside.given (ap (λ z. z.0.live) is) (ap (λ z. z.0.given) is) (ap (λ z. z.0.held) is) (omega arith) (omega arith))

pub split_seat-seat-requires : goal.split_seat-seat-requires
split_seat-seat-requires c =
    let is = c.opener.invariant in
    let same : ◌≡◌ {A = StoreName} (record { table_id = c.opener.inside.seat.table_id; size = c.opener.inside.seat.me.0.size }) (record { table_id = c.self.inside.table.shared.table_id; size = c.self.inside.size }) =
    ap (λ (o : Opening). o.store) c.opener.view_is ∙ (c.requires.own ∙ sym c.self.view_is) in
    let got = (c.fetch_add.ensures.2.1 c.opener.inside.given (ap (λ z. z.0.given) is)).1 in
    let long = c.self.invariant.1 in
    (c.fetch_add.ensures.0 ∙ ap (λ (s : StoreName). s.table_id) same, omega arith, deals _ _ _ (ap (λ (v : View). v.live) got ∙ ap (λ z. z.0.live) is))

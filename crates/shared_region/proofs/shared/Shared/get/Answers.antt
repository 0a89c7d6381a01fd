use Rattle.std.proofs.Common.{◌≡◌, sym, refl, ap, ◌∙◌, subst}
use Rattle.meaning.specs.declared.value.Entry.{Entry}
use Rattle.safe_table.specs.declared.history.StoreSize.{StoreSize}
use Rattle.safe_table.specs.Entries.{IsEntry}
use Rattle.safe_table.specs.Seat.{SeatState, StoreName, LastNames, Drafting}
use Rattle.shared_region.proofs.Entries.{got_some}
use Rattle.shared_region.proofs.shared.Shared.get.Goals as goal

pub returns-clause-entry : goal.returns-clause-entry
returns-clause-entry c =
    let got = c.get-put.ensures.called in
    let some_is = got_some _ _ got.0 got.2 c.if-put-eq0.false in
    let x : Entry = some_is.0 in
    let names : LastNames c.get-put.new.seat.seat.seen c.get-put.result x = (got.1.between, _, got.1.seen, refl, some_is.1) in
    let stores : c.seat.inside.seat.seat.store ≡ c.args.self.now = ap (λ (s : SeatState). s.store) c.seat.view_is ∙ c.requires.own in
    let good : IsEntry c.args.self.now.size x = subst (λ (s : StoreName). IsEntry s.size x) stores some_is.2 in
    let size_is : c.size.result ≡ c.args.self.now.size = c.size.ensures.is ∙ ap (λ (s : StoreName). s.size) c.self.view_is in
    let low = c.read_low-low.ensures.word x names in
    let high = c.read_high-high.ensures.word x (subst (λ (d : Drafting). LastNames d.seat.seen c.get-put.result x) (sym c.read_low-low.ensures.same) names) in
    let is : c.entry_of.result ≡ x = c.entry_of.ensures x (subst (λ (z : StoreSize). IsEntry z x) (sym size_is) good) low high in
    subst (λ (e : Entry). IsEntry c.args.self.now.size e) (sym is) good

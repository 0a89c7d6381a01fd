use Rattle.std.proofs.Common.{◌≡◌, Some, slice_get, sym, ◌∙◌, ap}
use Rattle.tables.proofs.PlacesLemmas.{place_of_replaced}
use Rattle.tables.proofs.table.Table.replace.Goals as goal

pub invariant_of-self : goal.invariant_of-self
invariant_of-self g c = λ x.
    rw c.set.ensures (c.self.invariant x
    ∙ sym (place_of_replaced g.T.Named.name_of c.self.inside.items c.args.place c.args.item x
    (λ a there. c.requires.name a (ap (λ items. slice_get items c.args.place) (sym c.self.view_is) ∙ there))))

use Rattle.tables.proofs.PlacesLemmas.{first_named_at}
use Rattle.tables.proofs.table.Table.find_item.Goals as goal

pub returns-in_err-find : goal.returns-in_err-find
returns-in_err-find g c =
    rw (c.from_residual.ensures, first_named_at g.T.Named.name_of c.args.self.now c.args.name.now, ← c.in_err-find.ensures.place)

pub returns : goal.returns
returns g c =
    rw (c.get.ensures.value, first_named_at g.T.Named.name_of c.args.self.now c.args.name.now, ← c.in_ok-find.ensures.place, ← c.self.view_is)

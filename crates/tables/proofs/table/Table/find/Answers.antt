use Rattle.tables.proofs.PlacesLemmas.{place_of_below}
use Rattle.tables.proofs.table.Table.find.Goals as goal

pub returns-clause-within : goal.returns-clause-within
returns-clause-within g c =
    rw (c.copied.ensures, c.get.ensures.value, c.self.invariant c.args.name.now, c.self.view_is) (place_of_below g.T.Named.name_of c.args.self.now c.args.name.now)

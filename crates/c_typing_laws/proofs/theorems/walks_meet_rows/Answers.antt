use Rattle.c_typing_laws.proofs.RowsOfWalks.{walks-meet}
use Rattle.c_typing_laws.proofs.theorems.walks_meet_rows.Goals as goal

pub returns : goal.returns
returns c = walks-meet c.units_stay.ensures c.tables_grow.ensures c.same_is_equality.ensures

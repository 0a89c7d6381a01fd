use Rattle.c_typing_laws.proofs.ItemsMeetRows.{source-meets}
use Rattle.c_typing_laws.proofs.theorems.typed_sources_are_typed.Goals as goal

pub returns : goal.returns
returns c = source-meets c.units_stay.ensures c.tables_grow.ensures c.same_is_equality.ensures

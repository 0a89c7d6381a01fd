use Rattle.c_typing_laws.proofs.BodiesDefined.{bodies-defined}
use Rattle.c_typing_laws.proofs.theorems.structs_get_their_bodies.Goals as goal

pub returns : goal.returns
returns c = bodies-defined c.units_stay.ensures c.tables_grow.ensures

use Rattle.c_typing_types.proofs.Laws.{types-well_made}
use Rattle.c_typing_types.proofs.theorems.types_are_well_made.Goals as goal

pub returns : goal.returns
returns c = types-well_made

use Rattle.c_typing_types.proofs.Laws.{structs-named}
use Rattle.c_typing_types.proofs.theorems.types_name_structs.Goals as goal

pub returns : goal.returns
returns c = structs-named

use Rattle.c_typing_types.proofs.Laws.{bounds-given}
use Rattle.c_typing_types.proofs.theorems.bounds_are_given.Goals as goal

pub returns : goal.returns
returns c = bounds-given

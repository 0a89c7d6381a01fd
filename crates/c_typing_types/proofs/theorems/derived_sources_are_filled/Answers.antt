use Rattle.c_typing_types.proofs.Derived.{derived-filled}
use Rattle.c_typing_types.proofs.theorems.derived_sources_are_filled.Goals as goal

pub returns : goal.returns
returns c = derived-filled

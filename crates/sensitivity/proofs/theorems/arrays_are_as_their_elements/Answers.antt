use Rattle.sensitivity.proofs.ClassLaws.{arrays_are_as_their_elements}
use Rattle.sensitivity.proofs.theorems.arrays_are_as_their_elements.Goals as goal

pub returns : goal.returns
returns c = arrays_are_as_their_elements

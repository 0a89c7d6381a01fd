use Rattle.sensitivity.proofs.ClassLaws.{classes_are_unique}
use Rattle.sensitivity.proofs.theorems.classes_are_unique.Goals as goal

pub returns : goal.returns
returns c = classes_are_unique

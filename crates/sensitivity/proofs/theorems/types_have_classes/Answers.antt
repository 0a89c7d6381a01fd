use Rattle.sensitivity.proofs.EachHasClass.{types_have_classes}
use Rattle.sensitivity.proofs.theorems.types_have_classes.Goals as goal

pub returns : goal.returns
returns c = types_have_classes

use Rattle.sensitivity.proofs.EachHasClass.{holders_are_sensitive}
use Rattle.sensitivity.proofs.theorems.holders_are_sensitive.Goals as goal

pub returns : goal.returns
returns c = holders_are_sensitive

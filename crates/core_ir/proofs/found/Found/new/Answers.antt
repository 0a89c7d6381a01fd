use Rattle.std.proofs.Common.{refl}
use Rattle.core_ir.proofs.FoundStructs.{found_none, none_included}
use Rattle.core_ir.proofs.found.Found.new.Goals as goal

pub returns-clause-found : goal.returns-clause-found
returns-clause-found c = found_none _ refl refl refl

pub returns-clause-none : goal.returns-clause-none
returns-clause-none c = none_included _ refl

use Rattle.code_laws.proofs.OneCode.{programs_have_one_code}
use Rattle.code_laws.proofs.theorems.programs_have_one_code.Goals as goal

pub returns : goal.returns
returns c = programs_have_one_code c.classes_are_unique.ensures

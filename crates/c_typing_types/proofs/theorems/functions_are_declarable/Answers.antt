use Rattle.c_typing_types.proofs.Laws.{functions-declarable}
use Rattle.c_typing_types.proofs.theorems.functions_are_declarable.Goals as goal

pub returns : goal.returns
returns c = functions-declarable

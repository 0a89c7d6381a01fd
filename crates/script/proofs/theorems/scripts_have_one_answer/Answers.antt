use Rattle.script.proofs.LineTexts.{one_line}
use Rattle.script.proofs.OneAnswer.{one_answer, one_inputs_answer}
use Rattle.script.proofs.theorems.scripts_have_one_answer.Goals as goal

pub returns-clause-scripts : goal.returns-clause-scripts
returns-clause-scripts c = one_answer (one_line c.field_laws.ensures)

pub returns-clause-inputs : goal.returns-clause-inputs
returns-clause-inputs c = one_inputs_answer (one_line c.field_laws.ensures)

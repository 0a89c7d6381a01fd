use Rattle.script.proofs.LineTexts.{one_line}
use Rattle.script.proofs.OneAnswer.{given_inputs}
use Rattle.script.proofs.read.read_inputs.Goals as goal

pub returns-clause-exact : goal.returns-clause-exact
returns-clause-exact c answer =
    given_inputs (one_line c.field_laws.ensures) c.args.bytes.now c.collect_inputs.result answer c.collect_inputs.ensures.found c.collect_inputs.ensures.refused

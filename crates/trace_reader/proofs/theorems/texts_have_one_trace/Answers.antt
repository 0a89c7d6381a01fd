use Rattle.trace_reader.proofs.FullLines.{one_trace, no_bad_line, one_bad}
use Rattle.trace_reader.proofs.theorems.texts_have_one_trace.Goals as goal

pub returns-clause-one : goal.returns-clause-one
returns-clause-one c = λ text inputs inputs' records records'. one_trace c.field_laws.ensures text inputs inputs' records records'

pub returns-clause-whole : goal.returns-clause-whole
returns-clause-whole c = no_bad_line c.field_laws.ensures

pub returns-clause-first : goal.returns-clause-first
returns-clause-first c = one_bad

use Rattle.std.proofs.Common.{◌∙◌, rules}
use Rattle.std.proofs.lemmas.Result.{IfOk-from_err}
use Rattle.trace_reader.specs.FullText.{HasFullText}
use Rattle.trace_reader.proofs.FullLines.{one_trace, no_bad_line}
use Rattle.trace_reader.proofs.TracesAreBuilt.{gives_back, names_line}
use Rattle.trace_reader.proofs.build.read_trace.Goals as goal

-- the refusal of a line
pub returns-in_err-lines-clause-whole : goal.returns-in_err-lines-clause-whole
returns-in_err-lines-clause-whole c =
    gives_back c.field_laws.ensures c.args.bytes.now c.from_residual.result (IfOk-from_err _ (λ trace. HasFullText trace.inputs trace.records c.args.bytes.now) c.from_residual.ensures.0) (search rules)

pub returns-in_err-lines-clause-line : goal.returns-in_err-lines-clause-line
returns-in_err-lines-clause-line c =
    names_line c.field_laws.ensures c.args.bytes.now c.from_residual.result (IfOk-from_err _ (λ trace. HasFullText trace.inputs trace.records c.args.bytes.now) c.from_residual.ensures.0) (search rules)

-- the trace
pub returns-clause-whole : goal.returns-clause-whole
returns-clause-whole c = λ inputs records has.
    let lines = c.in_ok-lines.lines in
    let same = one_trace c.field_laws.ensures c.args.bytes.now lines.inputs inputs lines.records records c.in_ok-lines.ensures.found has in
    (c.in_ok-trace_of.ensures.inputs ∙ same.0, c.in_ok-trace_of.ensures.records ∙ same.1)

pub returns-clause-line : goal.returns-clause-line
returns-clause-line c = λ n bad.
    let lines = c.in_ok-lines.lines in
    no_bad_line c.field_laws.ensures c.args.bytes.now lines.inputs lines.records n c.in_ok-lines.ensures.found bad

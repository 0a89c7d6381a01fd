use Rattle.std.proofs.Common.{◌≡◌, true, take, sym, ap, ◌∙◌}
use Rattle.std.specs.Result.{is_ok}
use Rattle.job.specs.Lines.{content}
use Rattle.script.specs.inner.Reading.{line_of}
use Rattle.script.proofs.LinesAreRead.{inputs_none, inputs_more, inputs_bad, at_ok}
use Rattle.script.proofs.read.collect_inputs.Goals as goal

pub loop-rest-init : goal.loop-rest-init
loop-rest-init c = rw c.new-inputs.ensures (inputs_none c.args.bytes.now)

pub returns-in_default-clause-refused : goal.returns-in_default-clause-refused
returns-in_default-clause-refused c =
    let said : c.content_of.result.now ≡ content (take c.line_len.result c.loop-rest.rest.now) = c.content_of.ensures ∙ ap content c.split_at.ensures.front in
    inputs_bad c.args.bytes.now c.loop-rest.rest.now c.loop-rest.number c.loop-rest.inputs c.loop-rest.invariant
    c.line_len.result c.line_len.ensures.first (λ line is same. c.in_default.ensures line is (said ∙ same))

pub loop-rest-preserved : goal.loop-rest-preserved
loop-rest-preserved c =
    let said : c.content_of.result.now ≡ content (take c.line_len.result c.loop-rest.rest.now) = c.content_of.ensures ∙ ap content c.split_at.ensures.front in
    let ok : is_ok c.push_input.result ≡ true = ap is_ok c.in_ok-push_input.was in
    rw c.split_at.ensures.back
    (inputs_more c.args.bytes.now c.loop-rest.rest.now c.loop-rest.number c.loop-rest.inputs c.loop-rest.invariant
    c.line_len.result c.line_len.ensures.first c.line_len.ensures.some c.line_len.ensures.within
    (line_of c.in-Some.line) c.in-Some.ensures.0 (sym said ∙ c.in-Some.ensures.1)
    c.push_input.new.inputs (at_ok c.push_input.result ok c.push_input.ensures))

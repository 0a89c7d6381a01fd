use Rattle.std.proofs.lemmas.Result.{IfOk-weaker}
use Rattle.levee_top.proofs.GoodRuns.{good_run, runs_legally}
use Rattle.levee_top.proofs.answer.answer_run.Goals as goal

pub returns : goal.returns
returns c =
    let program = c.args.program.now in
    let script = c.args.script.now in
    let code = c.in_ok-code.code in
    let trace = c.in_ok-trace.trace in
    let good = good_run c.runs_are_good.ensures program code script.inputs script.events c.requires c.in_ok-code.ensures.stands in
    IfOk-weaker c.answer_trace.result _ _
    (λ a told. runs_legally c.args.full program script.inputs script.events code trace.inputs trace.records a.status a.text.items c.in_ok-code.ensures.stands c.in_ok-trace.ensures.inputs c.in_ok-trace.ensures.records good told.0 told.1) c.answer_trace.ensures

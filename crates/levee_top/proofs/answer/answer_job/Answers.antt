use Rattle.std.proofs.Common.{take, drop, arith}
use Rattle.std.proofs.lemmas.Grind.{common_steps}
use Rattle.std.proofs.lemmas.Result.{err_from_is_err_and}
use Rattle.job.specs.Lines.{IsCut}
use Rattle.levee_top.proofs.FailureLemmas.{job_runs, source_fails, script_fails}
use Rattle.levee_top.proofs.answer.answer_job.Goals as goal

pub returns-in_err-program-clause-fails : goal.returns-in_err-program-clause-fails
returns-in_err-program-clause-fails c =
    let p = err_from_is_err_and c.from_residual-in_err-program.result c.from_residual-in_err-program.ensures.1 in
    let cut : IsCut c.args.job.now (take c.in_ok-cut.cut.source_end c.args.job.now) (drop c.in_ok-cut.cut.script_start c.args.job.now) = grind (arith, common_steps) in
    rw (p.1, p.2) (source_fails c.args.job.now _ _ _ (record { small = c.requires; cut = cut }) c.in_err-program.ensures.fails)

pub returns-in_err-script-clause-fails : goal.returns-in_err-script-clause-fails
returns-in_err-script-clause-fails c =
    let p = err_from_is_err_and c.from_residual-in_err-script.result c.from_residual-in_err-script.ensures.1 in
    rw (p.1, p.2) (script_fails c.args.job.now _ _ _ _ (record { small = c.requires; cut = grind (arith, common_steps) }) c.in_ok-program.ensures.is c.in_err-script.ensures.refused)

pub returns-clause-runs : goal.returns-clause-runs
returns-clause-runs c =
    job_runs c.args.full c.args.job.now _ _ _ c.in_ok-script.script _ _ (record { small = c.requires; cut = grind (arith, common_steps) }) c.in_ok-program.ensures.is c.in_ok-script.ensures.found c.in_ok-answer_run.ensures

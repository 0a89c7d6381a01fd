use Rattle.std.proofs.Common.{rules}
use Rattle.std.proofs.lemmas.Result.{err_from_is_err_and, IfOk-weaker, IfErr-weaker}
use Rattle.levee_top.proofs.FailureLemmas.{words_end, words_go, usage_ends, read_ends, job_ends, job_gives}
use Rattle.levee_top.proofs.top.answer_words.Goals as goal

pub returns-in_err-command-clause-ends : goal.returns-in_err-command-clause-ends
returns-in_err-command-clause-ends g c =
    let p = err_from_is_err_and c.from_residual.result c.from_residual.ensures.1 in
    let none = words_end _ c.from_words.result c.ok_or.result _ c.from_words.ensures c.ok_or.ensures.value c.in_err-command.was in
    rw (p.1, p.2, none.1) (usage_ends _ _ _ none.0)

pub returns-in_err-job-clause-ends : goal.returns-in_err-job-clause-ends
returns-in_err-job-clause-ends g c =
    let p = err_from_is_err_and c.from_residual-in_err-job.result c.from_residual-in_err-job.ensures.1 in
    let is = words_go _ c.from_words.result c.ok_or.result _ c.from_words.ensures c.ok_or.ensures.value c.in_ok-command.was in
    rw (p.1, p.2) (read_ends _ c.in_ok-command.command _ _ _ _ _ is c.in_err-job.ensures.long)

pub returns-clause-gives : goal.returns-clause-gives
returns-clause-gives g c =
    let is = words_go _ c.from_words.result c.ok_or.result _ c.from_words.ensures c.ok_or.ensures.value c.in_ok-command.was in
    IfOk-weaker c.answer_job.result _ _
    (λ a runs. job_gives _ c.in_ok-command.command _ _ _ _ _ _ a.status a.text.items is (search rules) (rw c.deref.ensures.value c.in_ok-job.ensures.all) c.in_ok-job.ensures.end runs) c.answer_job.ensures.runs

pub returns-clause-ends : goal.returns-clause-ends
returns-clause-ends g c =
    let is = words_go _ c.from_words.result c.ok_or.result _ c.from_words.ensures c.ok_or.ensures.value c.in_ok-command.was in
    IfErr-weaker c.answer_job.result _ _
    (λ e fails. job_ends _ c.in_ok-command.command _ _ _ _ _ e is (rw c.deref.ensures.value c.in_ok-job.ensures.all) c.in_ok-job.ensures.end fails) c.answer_job.ensures.fails

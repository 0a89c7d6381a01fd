use Rattle.std.proofs.lemmas.Result.{err_from_is_err_and}
use Rattle.levee_top.proofs.FailureLemmas.{check_fails}
use Rattle.levee_top.proofs.source.typed_of.Goals as goal

pub returns-in_err-check-clause-fails : goal.returns-in_err-check-clause-fails
returns-in_err-check-clause-fails c =
    let p = err_from_is_err_and c.from_residual-in_err-check.result c.from_residual-in_err-check.ensures.1 in
    rw (p.1, p.2) (check_fails c.args.source.now c.in_ok-tree.tree _ c.in_ok-tree.ensures.read c.in_err-check.ensures)

use Rattle.std.proofs.lemmas.Result.{err_from_is_err_and}
use Rattle.c_tree.specs.Marks.{kinds_of}
use Rattle.levee_top.proofs.FailureLemmas.{elab_fails}
use Rattle.levee_top.proofs.source.compile.Goals as goal

pub returns-in_err-elaborate-clause-fails : goal.returns-in_err-elaborate-clause-fails
returns-in_err-elaborate-clause-fails c =
    let p = err_from_is_err_and c.from_residual-in_err-elaborate.result c.from_residual-in_err-elaborate.ensures.1 in
    rw (p.1, p.2) (elab_fails c.args.source.now c.in_ok-typed.typed _ c.in_ok-typed.ensures.has c.in_err-elaborate.ensures.refused)

pub returns-clause-valid : goal.returns-clause-valid
returns-clause-valid c =
    let has = c.in_ok-typed.ensures.has in
    c.in_ok-elaborate.ensures.valid (kinds_of has.read.tokens) has.tree has.read.read has.form

use Rattle.std.proofs.lemmas.Result.{err_from_is_err_and}
use Rattle.elab_pieces.specs.Functions.{function_code}
use Rattle.elab.specs.inner.Programs.{bare}
use Rattle.elab.proofs.ProgramRows.{adds_fails}
use Rattle.elab.proofs.programs.add_function.Goals as goal

pub returns-in_err-made-clause-added : goal.returns-in_err-made-clause-added
returns-in_err-made-clause-added c = λ fs h.
    let p = err_from_is_err_and c.from_residual.result c.from_residual.ensures.1 in
    rw (p.1, p.2)
    (adds_fails fs (function_code (bare c.args.scope.now) c.args.definition.now) c.in_err-made.field-0.0 c.args.functions.now c.in_err-made.ensures.made)

pub returns-clause-added : goal.returns-clause-added
returns-clause-added c = λ fs h. c.in_ok-add.ensures fs (function_code (bare c.args.scope.now) c.args.definition.now) h c.in_ok-made.ensures.made

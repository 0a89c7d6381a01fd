use Rattle.std.proofs.Common.{◌∙◌, sym, subst, Err}
use Rattle.elab.specs.inner.Programs.{FunctionsOutcome}
use Rattle.elab.proofs.ProgramRows.{none_passed, some_passed}
use Rattle.elab.proofs.programs.within_limits.Goals as goal

pub returns-in-Some : goal.returns-in-Some
returns-in-Some c = λ fs h.
    subst (λ r. FunctionsOutcome fs (Err r)) (sym c.limit.ensures) (some_passed c.args.functions fs h c.in-Some.which (sym c.first.ensures ∙ c.in-Some.is))

pub returns-in-None : goal.returns-in-None
returns-in-None c = λ fs h. none_passed c.args.functions fs h (sym c.first.ensures ∙ c.in-None.is)

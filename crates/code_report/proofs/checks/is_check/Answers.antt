use Rattle.std.proofs.Common.{◌∙◌, Some, ap, refl}
use Rattle.code_report.specs.Checks.{call}
use Rattle.code_report.proofs.Counting.{touch_exact}
use Rattle.code_report.proofs.checks.is_check.Goals as goal

pub returns-then-not-is_at_safe : goal.returns-then-not-is_at_safe
returns-then-not-is_at_safe c = λ defs f k are there at.
    touch_exact defs f k c.in-Touch.p c.in-Touch.ty (there ∙ ap Some c.in-Touch.is) c.class_of_pointer.result (c.class_of_pointer.ensures defs are)
    (λ h. absurd (let e = at.1 h in let g = c.if-not-is_at_safe.true in cc))
    c.classes_are_unique.ensures c.is_tested.result c.is_tested.ensures

pub returns-in-CallInd : goal.returns-in-CallInd
returns-in-CallInd c = λ defs f k are there at.
    (λ h. call c.in-CallInd.c c.in-CallInd.args c.in-CallInd.ty c.in-CallInd.s (there ∙ ap Some c.in-CallInd.is), λ h. refl)

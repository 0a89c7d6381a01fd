use Rattle.std.proofs.Common.{refl, arith, rules}
use Rattle.c_tokens.proofs.soundness.Numbers.{no_sign, hex_prefix, no_hex_prefix, hex_answer, decimal_answer, leading_zero_answer, run_some}
use Rattle.c_tokens.proofs.number.number_of.Goals as goal
use Rattle.c_tokens.proofs.number.number_of.Goals.{then-run-gt1+else-run-eq48, else-run-gt1}

pub digits_value-requires-clause-no_plus : goal.digits_value-requires-clause-no_plus
digits_value-requires-clause-no_plus c = λ e. no_sign c.args.run.now c.in-Some.digits.now 43 refl (omega arith) c.requires.word c.in-Some.ensures.cases.1 e

pub digits_value-requires-clause-no_minus : goal.digits_value-requires-clause-no_minus
digits_value-requires-clause-no_minus c = λ e. no_sign c.args.run.now c.in-Some.digits.now 45 refl (omega arith) c.requires.word c.in-Some.ensures.cases.1 e

pub returns-in-Some : goal.returns-in-Some
returns-in-Some c =
    let run = c.args.run.now in
    let digits = c.in-Some.digits.now in
    hex_answer run digits c.digits_value.result (hex_prefix run digits c.in-Some.ensures.cases.0 c.in-Some.ensures.cases.1) c.digits_value.ensures

pub returns-in-None : goal.returns-in-None
returns-in-None c =
    leading_zero_answer c.args.run.now (omega arith) (search rules) (no_hex_prefix c.args.run.now c.in-None.ensures.cases)

pub returns-in-None-2 : goal.returns-in-None-2
returns-in-None-2 c =
    let some = run_some c.args.run.now c.requires.first in
    decimal_answer c.args.run.now c.digits_value-in-None-2.result
    (λ zero_first. elim c.if-run-gt1.branch [ then-run-gt1+else-run-eq48 w ↦ absurd (w.if-run-eq48.false zero_first) | else-run-gt1 w ↦ omega arith ])
    c.digits_value-in-None-2.ensures

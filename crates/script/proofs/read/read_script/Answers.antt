use Rattle.std.proofs.Common.{Ok, Err, rules}
use Rattle.std.proofs.lemmas.Result.{IfOk-from_err}
use Rattle.script.specs.Script.{IsScript}
use Rattle.script.specs.declared.error.ScriptRefusal.TheVariants as refusal
use Rattle.script.proofs.LineTexts.{one_line}
use Rattle.script.proofs.OneAnswer.{given}
use Rattle.script.proofs.read.read_script.Goals as goal

-- the refusal of a line
pub returns-in_err-lines-clause-exact : goal.returns-in_err-lines-clause-exact
returns-in_err-lines-clause-exact c answer =
    given (one_line c.field_laws.ensures) c.args.bytes.now c.from_residual.result answer (IfOk-from_err _ (λ s. IsScript c.args.bytes.now s.inputs s.events) c.from_residual.ensures.0) (search rules)

-- too many turns
pub returns-then-lines-from-clause-exact : goal.returns-then-lines-from-clause-exact
returns-then-lines-from-clause-exact c answer = given (one_line c.field_laws.ensures) c.args.bytes.now (Err refusal.TooLong) answer tt (search rules)

-- the events
pub returns-clause-exact : goal.returns-clause-exact
returns-clause-exact c answer = given (one_line c.field_laws.ensures) c.args.bytes.now (Ok (record { inputs = c.in_ok-lines.lines.inputs; events = c.in_ok-lines.lines.events })) answer (search rules) tt

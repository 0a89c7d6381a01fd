use Rattle.std.proofs.Common.{sym, ◌∙◌, arith}
use Rattle.fields.proofs.NumberTexts.{u32_none, u32_from}
use Rattle.fields.proofs.number.read_u32.Goals as goal

pub returns-in_err-number-clause-is : goal.returns-in_err-number-clause-is
returns-in_err-number-clause-is c = rw c.from_residual.ensures (u32_none c.args.text.now c.in_err-number.ensures.none)

pub returns-clause-is : goal.returns-clause-is
returns-clause-is c = rw c.ok.ensures.value (u32_from c.args.text.now c.in_ok-number.number c.try_from.result (omega arith) c.in_ok-number.ensures.found c.try_from.ensures)

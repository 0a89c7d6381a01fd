use Rattle.std.proofs.lemmas.Str.{IsUtf8-from_ascii}
use Rattle.c_tokens.proofs.soundness.Numbers.{err_of, IsAscii-digits}
use Rattle.c_tokens.proofs.number.digits_value.Goals as goal

pub returns-in_err-text : goal.returns-in_err-text
returns-in_err-text c =
    let failed = err_of c.from_utf8.result _ _ c.in_err-text.ensures.value c.from_utf8.ensures.cases in
    rw c.from_residual.ensures (λ numeral. failed.1.0 (IsUtf8-from_ascii c.args.digits.now (IsAscii-digits c.args.radix c.args.digits.now c.requires.high numeral.0.1)))

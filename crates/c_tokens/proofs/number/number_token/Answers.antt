use Rattle.std.proofs.Common.{refl, arith}
use Rattle.std.proofs.lemmas.Int.{ints}
use Rattle.c_tokens.proofs.soundness.Tokens.{run_word, number_token, number_refused}
use Rattle.c_tokens.proofs.number.number_token.Goals as goal

pub number_of-requires-clause-word : goal.number_of-requires-clause-word
number_of-requires-clause-word c = run_word c.args.bytes.now c.run_len-len.result c.run_len-len.ensures

pub returns-in-Some : goal.returns-in-Some
returns-in-Some c =
    let found = c.in-Some.ensures in
    number_token c.args.bytes.now c.run_len-len.result c.run_len-len.ensures _ found.0 (omega (arith, ints, found.1, found.2.0)) found.2

pub returns-in-None : goal.returns-in-None
returns-in-None c = λ e. (number_refused c.args.bytes.now c.run_len-len.result c.run_len-len.ensures c.args.line c.requires c.in-None.ensures, refl)

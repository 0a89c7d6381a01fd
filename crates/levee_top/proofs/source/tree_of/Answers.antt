use Rattle.std.proofs.lemmas.Result.{err_from_is_err_and}
use Rattle.levee_top.proofs.FailureLemmas.{lex_fails, parse_fails}
use Rattle.levee_top.proofs.source.tree_of.Goals as goal

pub returns-in_err-tokens-clause-fails : goal.returns-in_err-tokens-clause-fails
returns-in_err-tokens-clause-fails c =
    let p = err_from_is_err_and c.from_residual.result c.from_residual.ensures.1 in
    rw (p.1, p.2) (lex_fails c.args.source.now _ c.in_err-tokens.ensures.refused)

pub returns-in_err-parse-clause-fails : goal.returns-in_err-parse-clause-fails
returns-in_err-parse-clause-fails c =
    let p = err_from_is_err_and c.from_residual-in_err-parse.result c.from_residual-in_err-parse.ensures.1 in
    rw (p.1, p.2) (parse_fails c.args.source.now c.in_ok-tokens.tokens _ c.in_ok-tokens.ensures.found c.in_err-parse.ensures.refused)

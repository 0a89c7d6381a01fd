use Rattle.std.proofs.Common.{◌≤◌, length}
use Rattle.std.proofs.lemmas.Result.{IfOk-weaker}
use Rattle.c_tokens.specs.Lex.{Lexes}
use Rattle.c_tokens.proofs.LexLemmas.{Lexes-count}
use Rattle.c_tokens.proofs.uniqueness.Texts.{answer_only, answer_refuses}
use Rattle.c_tokens.proofs.lexer.lex.Goals as goal

pub returns-clause-only : goal.returns-clause-only
returns-clause-only c = answer_only c.args.bytes.now c.tokens_of.result c.tokens_of.ensures.found c.tokens_of.ensures.refused

pub returns-clause-count : goal.returns-clause-count
returns-clause-count c =
    let bytes = c.args.bytes.now in
    IfOk-weaker c.tokens_of.result (Lexes bytes) (λ tokens. length tokens ≤ length bytes) (Lexes-count bytes) c.tokens_of.ensures.found

pub returns-clause-refuses : goal.returns-clause-refuses
returns-clause-refuses c = answer_refuses c.args.bytes.now c.tokens_of.result c.tokens_of.ensures.found c.tokens_of.ensures.refused

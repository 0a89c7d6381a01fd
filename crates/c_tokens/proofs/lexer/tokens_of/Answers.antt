use Rattle.std.proofs.Common.{◌≡◌, ◌+◌, ◌≤◌, length, take, drop, refl, sym, ◌∙◌, arith, length-drop}
use Rattle.std.proofs.lemmas.List.{take_rest}
use Rattle.std.proofs.lemmas.Result.{err_from_is_err_and}
use Rattle.c_tokens.specs.declared.token.Token.{Token}
use Rattle.c_tokens.specs.Blank.{IsBlank}
use Rattle.c_tokens.specs.Lex.{line_at}
use Rattle.c_tokens.proofs.soundness.Texts.{Chain-push, line_counted, line_behind, end_lexed, refusal_lexed, token_lexed}
use Rattle.c_tokens.proofs.lexer.tokens_of.Goals as goal
use Rattle.c_tokens.proofs.lexer.tokens_of.Goals.{After-line_ends}

-- the blanks of this round, and the line behind them
blanks_inside : (c : After-line_ends) → c.loop-alloc.at + c.blank_len.result ≤ length c.args.bytes.now
blanks_inside c = let blanks = simp take_rest at c.blank_len.ensures in omega (arith, blanks.inside, length-drop c.loop-alloc.at c.args.bytes.now)

blanks_are : (c : After-line_ends) → IsBlank (take c.blank_len.result (drop c.loop-alloc.at c.args.bytes.now)) (drop c.blank_len.result (drop c.loop-alloc.at c.args.bytes.now))
blanks_are c = let blanks = simp take_rest at c.blank_len.ensures in blanks.blank

line_is : (c : After-line_ends) → c.loop-alloc.line + c.line_ends.result ≡ line_at c.args.bytes.now (c.loop-alloc.at + c.blank_len.result)
line_is c = omega (arith, c.loop-alloc.invariant.line, c.line_ends.ensures, line_counted c.args.bytes.now c.loop-alloc.at c.blank_len.result)

pub returns-then-from-bytes-clause-found : goal.returns-then-from-bytes-clause-found
returns-then-from-bytes-clause-found c =
    let round = (goal.at.returns-then-from-bytes-clause-found c).After-line_ends in
    end_lexed c.args.bytes.now c.loop-alloc.tokens c.loop-alloc.at c.blank_len.result c.loop-alloc.invariant.before (blanks_inside round) (blanks_are round) c.if-from-bytes.true

pub returns-in_err-kind-clause-refused : goal.returns-in_err-kind-clause-refused
returns-in_err-kind-clause-refused c =
    let round = (goal.at.returns-in_err-kind-clause-refused c).After-line_ends in
    let p = err_from_is_err_and c.from_residual.result c.from_residual.ensures.1 in
    let refused = simp take_rest at c.in_err-kind.ensures in
    rw (p.1, p.2) (λ ne.
    refusal_lexed c.args.bytes.now c.loop-alloc.tokens c.loop-alloc.at c.blank_len.result c.loop-alloc.invariant.before (blanks_inside round) (blanks_are round)
    c.in_err-kind.field-0.0 (refused ne).0 ((refused ne).1 ∙ line_is round))

pub loop-alloc-preserved : goal.loop-alloc-preserved
loop-alloc-preserved c =
    let round = (goal.at.loop-alloc-preserved c).After-line_ends in
    let bytes = c.args.bytes.now in
    let found = simp take_rest at c.in_ok-kind.ensures in
    let from = c.loop-alloc.at + c.blank_len.result in
    let t : Token = record { kind = c.in_ok-kind.kind; from = from; to = from + c.in_ok-kind.len; line = c.loop-alloc.line + c.line_ends.result } in
    let stands = token_lexed bytes c.loop-alloc.tokens c.loop-alloc.at c.blank_len.result c.loop-alloc.invariant.before (blanks_inside round) (blanks_are round)
    t c.in_ok-kind.len refl refl (line_is round) found in
    record {
      inside = stands.inside;
      before = rw c.in_ok-push.ensures.ok (Chain-push bytes 0 c.loop-alloc.at c.loop-alloc.tokens t c.loop-alloc.invariant.before stands);
      line = sym (line_behind bytes c.loop-alloc.at t stands);
    }

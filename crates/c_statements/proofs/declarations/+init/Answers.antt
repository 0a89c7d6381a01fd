use Rattle.std.proofs.Common.{◌≡◌, ◌-◌, true, false, rules, arith}
use Rattle.std.proofs.lemmas.Grind.{common_steps}
use Rattle.c_tokens.specs.declared.token.Mark.TheVariants as mark
use Rattle.c_readers.specs.inner.Parser.{sees}
use Rattle.c_readers.specs.inner.Readers.{readers}
use Rattle.c_statements.specs.inner.Readers.{init, inits_from}
use Rattle.c_statements.proofs.ReadersLemmas.{braced, init_zero, init_plain, init_braced}
use Rattle.c_readers.specs.inner.ParserLemmas.{next_turn, last_turn}
use Rattle.c_statements.proofs.declarations.+init.Goals as goal

pub returns-then-depth-eq0-clause-reads : goal.returns-then-depth-eq0-clause-reads
returns-then-depth-eq0-clause-reads t c = init_zero c.args.names.now c.args.depth c.args.tokens.now c.if-depth-eq0.true

pub returns-in_err-expr-clause-reads : goal.returns-in_err-expr-clause-reads
returns-in_err-expr-clause-reads t c =
    let none : sees mark.LeftBrace c.args.tokens.now ≡ false = cc in
    let plain = init_plain c.args.names.now c.args.depth c.args.tokens.now (omega arith) none in
    first_of (search rules, grind (arith, common_steps))

pub returns-then-not-eat-clause-reads : goal.returns-then-not-eat-clause-reads
returns-then-not-eat-clause-reads t c =
    let none : sees mark.LeftBrace c.args.tokens.now ≡ false = cc in
    let plain = init_plain c.args.names.now c.args.depth c.args.tokens.now (omega arith) none in
    first_of (search rules, grind (arith, common_steps))

pub loop-turn-init : goal.loop-turn-init
loop-turn-init t c =
    let seen : sees mark.LeftBrace c.args.tokens.now ≡ true = cc in
    let e = init_braced c.args.names.now c.args.depth c.args.tokens.now (omega arith) seen in
    first_of (search rules, grind (arith, common_steps))

pub returns-in_err-part-clause-reads : goal.returns-in_err-part-clause-reads
unfolding inits_from
returns-in_err-part-clause-reads t c =
    let below = c.args.depth - 1 in
    let e = next_turn (λ n. braced (inits_from c.args.names.now (readers c.args.names.now below) (init c.args.names.now below) n c.loop-turn.parts c.loop-turn.height c.loop-turn.tokens)) _ c.loop-turn._turn c.loop-turn-test.true c.loop-turn.invariant.0 in
    first_of (search rules, grind (arith, common_steps))

pub returns-in_err-expect-clause-reads : goal.returns-in_err-expect-clause-reads
unfolding inits_from
returns-in_err-expect-clause-reads t c =
    let below = c.args.depth - 1 in
    let e = next_turn (λ n. braced (inits_from c.args.names.now (readers c.args.names.now below) (init c.args.names.now below) n c.loop-turn.parts c.loop-turn.height c.loop-turn.tokens)) _ c.loop-turn._turn c.loop-turn-test.true c.loop-turn.invariant.0 in
    first_of (search rules, grind (arith, common_steps))

pub returns-then-not-eat-2-clause-reads : goal.returns-then-not-eat-2-clause-reads
unfolding inits_from
returns-then-not-eat-2-clause-reads t c =
    let below = c.args.depth - 1 in
    let e = next_turn (λ n. braced (inits_from c.args.names.now (readers c.args.names.now below) (init c.args.names.now below) n c.loop-turn.parts c.loop-turn.height c.loop-turn.tokens)) _ c.loop-turn._turn c.loop-turn-test.true c.loop-turn.invariant.0 in
    first_of (search rules, grind (arith, common_steps))

pub returns-then-eat-clause-reads : goal.returns-then-eat-clause-reads
unfolding inits_from
returns-then-eat-clause-reads t c =
    let below = c.args.depth - 1 in
    let e = next_turn (λ n. braced (inits_from c.args.names.now (readers c.args.names.now below) (init c.args.names.now below) n c.loop-turn.parts c.loop-turn.height c.loop-turn.tokens)) _ c.loop-turn._turn c.loop-turn-test.true c.loop-turn.invariant.0 in
    first_of (search rules, grind (arith, common_steps))

pub loop-turn-preserved : goal.loop-turn-preserved
unfolding inits_from
loop-turn-preserved t c =
    let below = c.args.depth - 1 in
    let e = next_turn (λ n. braced (inits_from c.args.names.now (readers c.args.names.now below) (init c.args.names.now below) n c.loop-turn.parts c.loop-turn.height c.loop-turn.tokens)) _ c.loop-turn._turn c.loop-turn-test.true c.loop-turn.invariant.0 in
    first_of (search rules, grind (arith, common_steps))

pub returns-clause-reads : goal.returns-clause-reads
unfolding inits_from
returns-clause-reads t c =
    let below = c.args.depth - 1 in
    let e = last_turn (λ n. braced (inits_from c.args.names.now (readers c.args.names.now below) (init c.args.names.now below) n c.loop-turn.parts c.loop-turn.height c.loop-turn.tokens)) _ c.loop-turn._turn c.loop-turn-test.false c.loop-turn.invariant.0 in
    first_of (search rules, grind (arith, common_steps))

use Rattle.std.proofs.Common.{◌-◌, ◌∙◌, rules, arith}
use Rattle.std.proofs.lemmas.Grind.{common_steps}
use Rattle.c_readers.specs.inner.Nests.{below}
use Rattle.c_readers.specs.inner.Readers.{close}
use Rattle.c_expr.proofs.PairsLemmas.{close_more, close_last}
use Rattle.c_readers.specs.inner.ParserLemmas.{next_turn, last_turn}
use Rattle.c_expr.proofs.expressions.Expressions.close.Goals as goal

pub returns-in_err-whole-clause-reads : goal.returns-in_err-whole-clause-reads
returns-in_err-whole-clause-reads g c =
    let e = next_turn (λ n. close c.args.self.now.grammar.names.now (below c.args.self.now.grammar.names.now c.args.self.now.grammar.depth) (c.args.self.now.grammar.depth - 1) c.args.least n c.loop-pair.whole c.loop-pair.tokens) _ c.loop-pair._pair c.loop-pair-test.true c.loop-pair.invariant.0 ∙ close_more c.args.self.now.grammar.names.now (below c.args.self.now.grammar.names.now c.args.self.now.grammar.depth) (c.args.self.now.grammar.depth - 1) c.args.least _ c.loop-pair.whole c.loop-pair.tokens in
    first_of (search rules, grind (arith, common_steps))

pub loop-pair-preserved : goal.loop-pair-preserved
loop-pair-preserved g c =
    let e = next_turn (λ n. close c.args.self.now.grammar.names.now (below c.args.self.now.grammar.names.now c.args.self.now.grammar.depth) (c.args.self.now.grammar.depth - 1) c.args.least n c.loop-pair.whole c.loop-pair.tokens) _ c.loop-pair._pair c.loop-pair-test.true c.loop-pair.invariant.0 ∙ close_more c.args.self.now.grammar.names.now (below c.args.self.now.grammar.names.now c.args.self.now.grammar.depth) (c.args.self.now.grammar.depth - 1) c.args.least _ c.loop-pair.whole c.loop-pair.tokens in
    first_of (search rules, grind (arith, common_steps))

pub returns-in_err-whole-2-clause-reads : goal.returns-in_err-whole-2-clause-reads
returns-in_err-whole-2-clause-reads g c =
    let e = last_turn (λ n. close c.args.self.now.grammar.names.now (below c.args.self.now.grammar.names.now c.args.self.now.grammar.depth) (c.args.self.now.grammar.depth - 1) c.args.least n c.loop-pair.whole c.loop-pair.tokens) _ c.loop-pair._pair c.loop-pair-test.false c.loop-pair.invariant.0 ∙ close_last c.args.self.now.grammar.names.now (below c.args.self.now.grammar.names.now c.args.self.now.grammar.depth) (c.args.self.now.grammar.depth - 1) c.args.least c.loop-pair.whole c.loop-pair.tokens in
    first_of (search rules, grind (arith, common_steps))

pub returns-then-least-whole-clause-reads : goal.returns-then-least-whole-clause-reads
returns-then-least-whole-clause-reads g c =
    let e = last_turn (λ n. close c.args.self.now.grammar.names.now (below c.args.self.now.grammar.names.now c.args.self.now.grammar.depth) (c.args.self.now.grammar.depth - 1) c.args.least n c.loop-pair.whole c.loop-pair.tokens) _ c.loop-pair._pair c.loop-pair-test.false c.loop-pair.invariant.0 ∙ close_last c.args.self.now.grammar.names.now (below c.args.self.now.grammar.names.now c.args.self.now.grammar.depth) (c.args.self.now.grammar.depth - 1) c.args.least c.loop-pair.whole c.loop-pair.tokens in
    first_of (search rules, grind (arith, common_steps))

pub returns-else-least-whole-clause-reads : goal.returns-else-least-whole-clause-reads
returns-else-least-whole-clause-reads g c =
    let e = last_turn (λ n. close c.args.self.now.grammar.names.now (below c.args.self.now.grammar.names.now c.args.self.now.grammar.depth) (c.args.self.now.grammar.depth - 1) c.args.least n c.loop-pair.whole c.loop-pair.tokens) _ c.loop-pair._pair c.loop-pair-test.false c.loop-pair.invariant.0 ∙ close_last c.args.self.now.grammar.names.now (below c.args.self.now.grammar.names.now c.args.self.now.grammar.depth) (c.args.self.now.grammar.depth - 1) c.args.least c.loop-pair.whole c.loop-pair.tokens in
    first_of (search rules, grind (arith, common_steps))

use Rattle.std.proofs.Common.{rules, arith, ◌-◌}
use Rattle.std.proofs.lemmas.Grind.{common_steps}
use Rattle.c_readers.specs.inner.Nests.{below}
use Rattle.c_readers.specs.inner.Readers.{closed}
use Rattle.c_readers.specs.inner.ParserLemmas.{next_turn, last_turn}
use Rattle.c_declarators.proofs.declarators.Declarators.closed.Goals as goal

pub returns-in_err-whole-clause-reads : goal.returns-in_err-whole-clause-reads
unfolding closed
returns-in_err-whole-clause-reads g c =
    let e = next_turn (λ n. closed c.args.self.now.grammar.names.now (below c.args.self.now.grammar.names.now c.args.self.now.grammar.depth) (c.args.self.now.grammar.depth - 1) n c.loop-turn.its_stars c.loop-turn.whole c.loop-turn.tokens) _ c.loop-turn._turn c.loop-turn-test.true c.loop-turn.invariant.0 in
    first_of (search rules, grind (arith, common_steps))

pub returns-in_err-expect-clause-reads : goal.returns-in_err-expect-clause-reads
unfolding closed
returns-in_err-expect-clause-reads g c =
    let e = next_turn (λ n. closed c.args.self.now.grammar.names.now (below c.args.self.now.grammar.names.now c.args.self.now.grammar.depth) (c.args.self.now.grammar.depth - 1) n c.loop-turn.its_stars c.loop-turn.whole c.loop-turn.tokens) _ c.loop-turn._turn c.loop-turn-test.true c.loop-turn.invariant.0 in
    first_of (search rules, grind (arith, common_steps))

pub returns-then-whole-ge-GREATEST_PAIRS-clause-reads : goal.returns-then-whole-ge-GREATEST_PAIRS-clause-reads
unfolding closed
returns-then-whole-ge-GREATEST_PAIRS-clause-reads g c =
    let e = next_turn (λ n. closed c.args.self.now.grammar.names.now (below c.args.self.now.grammar.names.now c.args.self.now.grammar.depth) (c.args.self.now.grammar.depth - 1) n c.loop-turn.its_stars c.loop-turn.whole c.loop-turn.tokens) _ c.loop-turn._turn c.loop-turn-test.true c.loop-turn.invariant.0 in
    first_of (search rules, grind (arith, common_steps))

pub loop-turn-preserved : goal.loop-turn-preserved
unfolding closed
loop-turn-preserved g c =
    let e = next_turn (λ n. closed c.args.self.now.grammar.names.now (below c.args.self.now.grammar.names.now c.args.self.now.grammar.depth) (c.args.self.now.grammar.depth - 1) n c.loop-turn.its_stars c.loop-turn.whole c.loop-turn.tokens) _ c.loop-turn._turn c.loop-turn-test.true c.loop-turn.invariant.0 in
    first_of (search rules, grind (arith, common_steps))

pub returns-clause-reads : goal.returns-clause-reads
unfolding closed
returns-clause-reads g c =
    let e = last_turn (λ n. closed c.args.self.now.grammar.names.now (below c.args.self.now.grammar.names.now c.args.self.now.grammar.depth) (c.args.self.now.grammar.depth - 1) n c.loop-turn.its_stars c.loop-turn.whole c.loop-turn.tokens) _ c.loop-turn._turn c.loop-turn-test.false c.loop-turn.invariant.0 in
    first_of (search rules, grind (arith, common_steps))

use Rattle.std.proofs.Common.{rules, arith, ◌-◌}
use Rattle.std.proofs.lemmas.Grind.{common_steps}
use Rattle.c_readers.specs.inner.Nests.{below}
use Rattle.c_readers.specs.inner.Readers.{grow, grow_from}
use Rattle.c_readers.specs.inner.ParserLemmas.{next_turn, last_turn}
use Rattle.c_expr.proofs.expressions.Expressions.grow.Goals as goal

pub loop-turn-init : goal.loop-turn-init
unfolding grow
loop-turn-init g c =
    first_of (search rules, grind (arith, common_steps))

pub returns-in_default-clause-reads : goal.returns-in_default-clause-reads
unfolding grow_from
returns-in_default-clause-reads g c =
    let e = next_turn (λ n. grow_from c.args.self.now.grammar.names.now (below c.args.self.now.grammar.names.now c.args.self.now.grammar.depth) (c.args.self.now.grammar.depth - 1) c.args.least n c.loop-turn.whole c.loop-turn.tokens) _ c.loop-turn._turn c.loop-turn-test.true c.loop-turn.invariant.0 in
    first_of (search rules, grind (arith, common_steps))

pub returns-in-Err-Mismatch-clause-reads : goal.returns-in-Err-Mismatch-clause-reads
unfolding grow_from
returns-in-Err-Mismatch-clause-reads g c =
    let e = next_turn (λ n. grow_from c.args.self.now.grammar.names.now (below c.args.self.now.grammar.names.now c.args.self.now.grammar.depth) (c.args.self.now.grammar.depth - 1) c.args.least n c.loop-turn.whole c.loop-turn.tokens) _ c.loop-turn._turn c.loop-turn-test.true c.loop-turn.invariant.0 in
    first_of (search rules, grind (arith, common_steps))

pub loop-turn-preserved : goal.loop-turn-preserved
unfolding grow_from
loop-turn-preserved g c =
    let e = next_turn (λ n. grow_from c.args.self.now.grammar.names.now (below c.args.self.now.grammar.names.now c.args.self.now.grammar.depth) (c.args.self.now.grammar.depth - 1) c.args.least n c.loop-turn.whole c.loop-turn.tokens) _ c.loop-turn._turn c.loop-turn-test.true c.loop-turn.invariant.0 in
    first_of (search rules, grind (arith, common_steps))

pub returns-clause-reads : goal.returns-clause-reads
unfolding grow_from
returns-clause-reads g c =
    let e = last_turn (λ n. grow_from c.args.self.now.grammar.names.now (below c.args.self.now.grammar.names.now c.args.self.now.grammar.depth) (c.args.self.now.grammar.depth - 1) c.args.least n c.loop-turn.whole c.loop-turn.tokens) _ c.loop-turn._turn c.loop-turn-test.false c.loop-turn.invariant.0 in
    first_of (search rules, grind (arith, common_steps))

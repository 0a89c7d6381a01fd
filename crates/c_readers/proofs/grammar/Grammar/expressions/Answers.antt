use Rattle.std.proofs.Common.{rules, arith}
use Rattle.std.proofs.lemmas.Grind.{common_steps}
use Rattle.c_readers.specs.inner.Nests.{below}
use Rattle.c_readers.specs.inner.Parser.{separated, separated_from}
use Rattle.c_readers.specs.inner.ParserLemmas.{next_turn, last_turn}
use Rattle.c_readers.proofs.grammar.Grammar.expressions.Goals as goal

pub loop-turn-init : goal.loop-turn-init
unfolding separated
loop-turn-init g c =
    first_of (search rules, grind (arith, common_steps))

pub returns-in_err-expr-clause-reads : goal.returns-in_err-expr-clause-reads
unfolding separated_from
returns-in_err-expr-clause-reads g c =
    let e = next_turn (λ n. separated_from ((below c.args.self.now.names.now c.args.self.now.depth).expr 0) n c.loop-turn.found c.loop-turn.height c.loop-turn.tokens) _ c.loop-turn._turn c.loop-turn-test.true c.loop-turn.invariant.0 in
    first_of (search rules, grind (arith, common_steps))

pub returns-then-not-eat-clause-reads : goal.returns-then-not-eat-clause-reads
unfolding separated_from
returns-then-not-eat-clause-reads g c =
    let e = next_turn (λ n. separated_from ((below c.args.self.now.names.now c.args.self.now.depth).expr 0) n c.loop-turn.found c.loop-turn.height c.loop-turn.tokens) _ c.loop-turn._turn c.loop-turn-test.true c.loop-turn.invariant.0 in
    first_of (search rules, grind (arith, common_steps))

pub loop-turn-preserved : goal.loop-turn-preserved
unfolding separated_from
loop-turn-preserved g c =
    let e = next_turn (λ n. separated_from ((below c.args.self.now.names.now c.args.self.now.depth).expr 0) n c.loop-turn.found c.loop-turn.height c.loop-turn.tokens) _ c.loop-turn._turn c.loop-turn-test.true c.loop-turn.invariant.0 in
    first_of (search rules, grind (arith, common_steps))

pub returns-clause-reads : goal.returns-clause-reads
unfolding separated_from
returns-clause-reads g c =
    let e = last_turn (λ n. separated_from ((below c.args.self.now.names.now c.args.self.now.depth).expr 0) n c.loop-turn.found c.loop-turn.height c.loop-turn.tokens) _ c.loop-turn._turn c.loop-turn-test.false c.loop-turn.invariant.0 in
    first_of (search rules, grind (arith, common_steps))

use Rattle.std.proofs.Common.{rules, arith}
use Rattle.std.proofs.lemmas.Grind.{common_steps}
use Rattle.c_readers.specs.inner.Parser.{separated, separated_from}
use Rattle.c_readers.specs.inner.Readers.{readers, param}
use Rattle.c_readers.specs.inner.ParserLemmas.{next_turn, last_turn}
use Rattle.c_declarators.proofs.declarators.Declarators.param_list.Goals as goal

pub loop-turn-init : goal.loop-turn-init
unfolding separated
loop-turn-init g c = first_of (search rules, grind (arith, common_steps))

pub returns-in_err-param-clause-reads : goal.returns-in_err-param-clause-reads
unfolding separated_from
returns-in_err-param-clause-reads g c =
    let e = next_turn (λ n. separated_from (param c.args.self.now.grammar.names.now (readers c.args.self.now.grammar.names.now c.args.self.now.grammar.depth).spec (readers c.args.self.now.grammar.names.now c.args.self.now.grammar.depth).declarator (readers c.args.self.now.grammar.names.now c.args.self.now.grammar.depth).abstract) n c.loop-turn.found c.loop-turn.height c.loop-turn.tokens) _ c.loop-turn._turn c.loop-turn-test.true c.loop-turn.invariant.0 in
    first_of (search rules, grind (arith, common_steps))

pub returns-then-not-eat-clause-reads : goal.returns-then-not-eat-clause-reads
unfolding separated_from
returns-then-not-eat-clause-reads g c =
    let e = next_turn (λ n. separated_from (param c.args.self.now.grammar.names.now (readers c.args.self.now.grammar.names.now c.args.self.now.grammar.depth).spec (readers c.args.self.now.grammar.names.now c.args.self.now.grammar.depth).declarator (readers c.args.self.now.grammar.names.now c.args.self.now.grammar.depth).abstract) n c.loop-turn.found c.loop-turn.height c.loop-turn.tokens) _ c.loop-turn._turn c.loop-turn-test.true c.loop-turn.invariant.0 in
    first_of (search rules, grind (arith, common_steps))

pub loop-turn-preserved : goal.loop-turn-preserved
unfolding separated_from
loop-turn-preserved g c =
    let e = next_turn (λ n. separated_from (param c.args.self.now.grammar.names.now (readers c.args.self.now.grammar.names.now c.args.self.now.grammar.depth).spec (readers c.args.self.now.grammar.names.now c.args.self.now.grammar.depth).declarator (readers c.args.self.now.grammar.names.now c.args.self.now.grammar.depth).abstract) n c.loop-turn.found c.loop-turn.height c.loop-turn.tokens) _ c.loop-turn._turn c.loop-turn-test.true c.loop-turn.invariant.0 in
    first_of (search rules, grind (arith, common_steps))

pub returns-clause-reads : goal.returns-clause-reads
unfolding separated_from
returns-clause-reads g c =
    let e = last_turn (λ n. separated_from (param c.args.self.now.grammar.names.now (readers c.args.self.now.grammar.names.now c.args.self.now.grammar.depth).spec (readers c.args.self.now.grammar.names.now c.args.self.now.grammar.depth).declarator (readers c.args.self.now.grammar.names.now c.args.self.now.grammar.depth).abstract) n c.loop-turn.found c.loop-turn.height c.loop-turn.tokens) _ c.loop-turn._turn c.loop-turn-test.false c.loop-turn.invariant.0 in
    first_of (search rules, grind (arith, common_steps))

use Rattle.std.proofs.Common.{rules, arith}
use Rattle.std.proofs.lemmas.Grind.{common_steps}
use Rattle.c_readers.specs.inner.Readers.{readers}
use Rattle.c_statements.specs.inner.Readers.{init, declared, declared_from}
use Rattle.c_readers.specs.inner.ParserLemmas.{next_turn, last_turn}
use Rattle.c_statements.proofs.declarations.declared.Goals as goal

pub loop-turn-init : goal.loop-turn-init
unfolding declared
loop-turn-init c = first_of (search rules, grind (arith, common_steps))

pub returns-in_err-with-clause-reads : goal.returns-in_err-with-clause-reads
unfolding declared_from
returns-in_err-with-clause-reads c =
    let e = next_turn (λ n. declared_from c.args.names.now (readers c.args.names.now c.args.depth) (init c.args.names.now c.args.depth) n c.loop-turn.found c.loop-turn.height c.loop-turn.next c.loop-turn.tokens) _ c.loop-turn._turn c.loop-turn-test.true c.loop-turn.invariant.0 in
    first_of (search rules, grind (arith, common_steps))

pub returns-then-not-eat-clause-reads : goal.returns-then-not-eat-clause-reads
unfolding declared_from
returns-then-not-eat-clause-reads c =
    let e = next_turn (λ n. declared_from c.args.names.now (readers c.args.names.now c.args.depth) (init c.args.names.now c.args.depth) n c.loop-turn.found c.loop-turn.height c.loop-turn.next c.loop-turn.tokens) _ c.loop-turn._turn c.loop-turn-test.true c.loop-turn.invariant.0 in
    first_of (search rules, grind (arith, common_steps))

pub returns-in_err-next-clause-reads : goal.returns-in_err-next-clause-reads
unfolding declared_from
returns-in_err-next-clause-reads c =
    let e = next_turn (λ n. declared_from c.args.names.now (readers c.args.names.now c.args.depth) (init c.args.names.now c.args.depth) n c.loop-turn.found c.loop-turn.height c.loop-turn.next c.loop-turn.tokens) _ c.loop-turn._turn c.loop-turn-test.true c.loop-turn.invariant.0 in
    first_of (search rules, grind (arith, common_steps))

pub loop-turn-preserved : goal.loop-turn-preserved
unfolding declared_from
loop-turn-preserved c =
    let e = next_turn (λ n. declared_from c.args.names.now (readers c.args.names.now c.args.depth) (init c.args.names.now c.args.depth) n c.loop-turn.found c.loop-turn.height c.loop-turn.next c.loop-turn.tokens) _ c.loop-turn._turn c.loop-turn-test.true c.loop-turn.invariant.0 in
    first_of (search rules, grind (arith, common_steps))

pub returns-clause-reads : goal.returns-clause-reads
unfolding declared_from
returns-clause-reads c =
    let e = last_turn (λ n. declared_from c.args.names.now (readers c.args.names.now c.args.depth) (init c.args.names.now c.args.depth) n c.loop-turn.found c.loop-turn.height c.loop-turn.next c.loop-turn.tokens) _ c.loop-turn._turn c.loop-turn-test.false c.loop-turn.invariant.0 in
    first_of (search rules, grind (arith, common_steps))

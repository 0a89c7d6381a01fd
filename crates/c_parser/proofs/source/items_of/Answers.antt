use Rattle.std.proofs.Common.{rules, arith}
use Rattle.std.proofs.lemmas.Grind.{common_steps}
use Rattle.c_parser.specs.inner.Readers.{source_of, items_from}
use Rattle.c_readers.specs.inner.ParserLemmas.{next_turn, last_turn}
use Rattle.c_parser.proofs.source.items_of.Goals as goal

pub loop-turn-init : goal.loop-turn-init
unfolding source_of
loop-turn-init c = first_of (search rules, grind (arith, common_steps))

pub returns-in-Err-Mismatch-clause-items : goal.returns-in-Err-Mismatch-clause-items
unfolding items_from
returns-in-Err-Mismatch-clause-items c =
    let e = next_turn (λ n. items_from n c.loop-turn.found c.loop-turn.names c.loop-turn.tokens) _ c.loop-turn._turn c.loop-turn-test.true c.loop-turn.invariant.0 in
    first_of (search rules, grind (arith, common_steps))

pub returns-in-Err-Mismatch-clause-left : goal.returns-in-Err-Mismatch-clause-left
unfolding items_from
returns-in-Err-Mismatch-clause-left c =
    let e = next_turn (λ n. items_from n c.loop-turn.found c.loop-turn.names c.loop-turn.tokens) _ c.loop-turn._turn c.loop-turn-test.true c.loop-turn.invariant.0 in
    first_of (search rules, grind (arith, common_steps))

pub loop-turn-preserved : goal.loop-turn-preserved
unfolding items_from
loop-turn-preserved c =
    let e = next_turn (λ n. items_from n c.loop-turn.found c.loop-turn.names c.loop-turn.tokens) _ c.loop-turn._turn c.loop-turn-test.true c.loop-turn.invariant.0 in
    first_of (search rules, grind (arith, common_steps))

pub returns-clause-items : goal.returns-clause-items
unfolding items_from
returns-clause-items c =
    let e = last_turn (λ n. items_from n c.loop-turn.found c.loop-turn.names c.loop-turn.tokens) _ c.loop-turn._turn c.loop-turn-test.false c.loop-turn.invariant.0 in
    first_of (search rules, grind (arith, common_steps))

pub returns-clause-left : goal.returns-clause-left
unfolding items_from
returns-clause-left c =
    let e = last_turn (λ n. items_from n c.loop-turn.found c.loop-turn.names c.loop-turn.tokens) _ c.loop-turn._turn c.loop-turn-test.false c.loop-turn.invariant.0 in
    first_of (search rules, grind (arith, common_steps))

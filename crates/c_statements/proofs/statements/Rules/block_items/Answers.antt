use Rattle.std.proofs.Common.{rules, arith}
use Rattle.std.proofs.lemmas.Grind.{common_steps}
use Rattle.c_readers.specs.inner.Readers.{readers}
use Rattle.c_statements.specs.inner.Readers.{init, stmt, block_items, block_items_from}
use Rattle.c_readers.specs.inner.ParserLemmas.{next_turn, last_turn}
use Rattle.c_statements.proofs.statements.Rules.block_items.Goals as goal

pub loop-turn-init : goal.loop-turn-init
unfolding block_items
loop-turn-init g c = first_of (search rules, grind (arith, common_steps))

pub returns-then-eat-clause-reads : goal.returns-then-eat-clause-reads
unfolding block_items_from
returns-then-eat-clause-reads g c =
    let names = c.args.self.now.names.now in
    let depth = c.args.self.now.depth in
    let e = next_turn (λ n. block_items_from names (readers names depth) (init names depth) (stmt names depth) n c.loop-turn.found c.loop-turn.height c.loop-turn.tokens) _ c.loop-turn._turn c.loop-turn-test.true c.loop-turn.invariant.0 in
    first_of (search rules, grind (arith, common_steps))

pub returns-in_err-item-clause-reads : goal.returns-in_err-item-clause-reads
unfolding block_items_from
returns-in_err-item-clause-reads g c =
    let names = c.args.self.now.names.now in
    let depth = c.args.self.now.depth in
    let e = next_turn (λ n. block_items_from names (readers names depth) (init names depth) (stmt names depth) n c.loop-turn.found c.loop-turn.height c.loop-turn.tokens) _ c.loop-turn._turn c.loop-turn-test.true c.loop-turn.invariant.0 in
    first_of (search rules, grind (arith, common_steps))

pub loop-turn-preserved : goal.loop-turn-preserved
unfolding block_items_from
loop-turn-preserved g c =
    let names = c.args.self.now.names.now in
    let depth = c.args.self.now.depth in
    let e = next_turn (λ n. block_items_from names (readers names depth) (init names depth) (stmt names depth) n c.loop-turn.found c.loop-turn.height c.loop-turn.tokens) _ c.loop-turn._turn c.loop-turn-test.true c.loop-turn.invariant.0 in
    first_of (search rules, grind (arith, common_steps))

pub returns-clause-reads : goal.returns-clause-reads
unfolding block_items_from
returns-clause-reads g c =
    let names = c.args.self.now.names.now in
    let depth = c.args.self.now.depth in
    let e = last_turn (λ n. block_items_from names (readers names depth) (init names depth) (stmt names depth) n c.loop-turn.found c.loop-turn.height c.loop-turn.tokens) _ c.loop-turn._turn c.loop-turn-test.false c.loop-turn.invariant.0 in
    first_of (search rules, grind (arith, common_steps))

use Rattle.std.proofs.Common.{rules, arith}
use Rattle.std.proofs.lemmas.Grind.{common_steps}
use Rattle.c_readers.specs.inner.Readers.{readers}
use Rattle.c_statements.specs.inner.Readers.{init, stmt}
use Rattle.c_parser.specs.inner.Readers.{types, types_from}
use Rattle.c_readers.specs.inner.ParserLemmas.{next_turn, last_turn}
use Rattle.c_parser.proofs.items.types.Goals as goal

pub loop-turn-init : goal.loop-turn-init
unfolding types
loop-turn-init c = first_of (search rules, grind (arith, common_steps))

pub returns-in_err-declarator : goal.returns-in_err-declarator
unfolding types_from
returns-in_err-declarator c =
    let names = c.args.names.now in
    let depth = c.args.depth in
    let e = next_turn (λ n. types_from names (readers names depth) (init names depth) (stmt names depth) n c.loop-turn.found c.loop-turn.tokens) _ c.loop-turn._turn c.loop-turn-test.true c.loop-turn.invariant in
    first_of (search rules, grind (arith, common_steps))

pub returns-then-not-eat : goal.returns-then-not-eat
unfolding types_from
returns-then-not-eat c =
    let names = c.args.names.now in
    let depth = c.args.depth in
    let e = next_turn (λ n. types_from names (readers names depth) (init names depth) (stmt names depth) n c.loop-turn.found c.loop-turn.tokens) _ c.loop-turn._turn c.loop-turn-test.true c.loop-turn.invariant in
    first_of (search rules, grind (arith, common_steps))

pub loop-turn-preserved : goal.loop-turn-preserved
unfolding types_from
loop-turn-preserved c =
    let names = c.args.names.now in
    let depth = c.args.depth in
    let e = next_turn (λ n. types_from names (readers names depth) (init names depth) (stmt names depth) n c.loop-turn.found c.loop-turn.tokens) _ c.loop-turn._turn c.loop-turn-test.true c.loop-turn.invariant in
    first_of (search rules, grind (arith, common_steps))

pub returns : goal.returns
unfolding types_from
returns c =
    let names = c.args.names.now in
    let depth = c.args.depth in
    let e = last_turn (λ n. types_from names (readers names depth) (init names depth) (stmt names depth) n c.loop-turn.found c.loop-turn.tokens) _ c.loop-turn._turn c.loop-turn-test.false c.loop-turn.invariant in
    first_of (search rules, grind (arith, common_steps))

use Rattle.std.proofs.Common.{ap, rules, arith}
use Rattle.std.proofs.lemmas.Grind.{common_steps}
use Rattle.c_readers.specs.inner.Nests.{below}
use Rattle.c_readers.specs.inner.Readers as reader
use Rattle.c_readers.specs.inner.Readers.{members, members_from}
use Rattle.c_readers.specs.inner.NestsLemmas.{below_zero}
use Rattle.c_readers.specs.inner.ParserLemmas.{next_turn, last_turn}
use Rattle.c_declarators.proofs.declarators.Declarators.+spec.Goals as goal

pub member-returns-then-self-eq0-clause-reads : goal.member-returns-then-self-eq0-clause-reads
unfolding reader.member
member-returns-then-self-eq0-clause-reads g t c = ap (λ r. reader.member c.args.self.now.grammar.names.now r c.args.tokens.now) (below_zero c.args.self.now.grammar.names.now c.args.self.now.grammar.depth c.if-self-eq0.true)

pub members-loop-turn-init : goal.members-loop-turn-init
unfolding members
members-loop-turn-init g t c = first_of (search rules, grind (arith, common_steps))

pub members-returns-in_err-member-clause-reads : goal.members-returns-in_err-member-clause-reads
unfolding members_from
members-returns-in_err-member-clause-reads g t c =
    let e = next_turn (λ n. members_from c.args.self.now.grammar.names.now (below c.args.self.now.grammar.names.now c.args.self.now.grammar.depth) n c.loop-turn.found c.loop-turn.height c.loop-turn.tokens) _ c.loop-turn._turn c.loop-turn-test.true c.loop-turn.invariant.0 in
    first_of (search rules, grind (arith, common_steps))

pub members-returns-then-eat-clause-reads : goal.members-returns-then-eat-clause-reads
unfolding members_from
members-returns-then-eat-clause-reads g t c =
    let e = next_turn (λ n. members_from c.args.self.now.grammar.names.now (below c.args.self.now.grammar.names.now c.args.self.now.grammar.depth) n c.loop-turn.found c.loop-turn.height c.loop-turn.tokens) _ c.loop-turn._turn c.loop-turn-test.true c.loop-turn.invariant.0 in
    first_of (search rules, grind (arith, common_steps))

pub members-loop-turn-preserved : goal.members-loop-turn-preserved
unfolding members_from
members-loop-turn-preserved g t c =
    let e = next_turn (λ n. members_from c.args.self.now.grammar.names.now (below c.args.self.now.grammar.names.now c.args.self.now.grammar.depth) n c.loop-turn.found c.loop-turn.height c.loop-turn.tokens) _ c.loop-turn._turn c.loop-turn-test.true c.loop-turn.invariant.0 in
    first_of (search rules, grind (arith, common_steps))

pub members-returns-clause-reads : goal.members-returns-clause-reads
unfolding members_from
members-returns-clause-reads g t c =
    let e = last_turn (λ n. members_from c.args.self.now.grammar.names.now (below c.args.self.now.grammar.names.now c.args.self.now.grammar.depth) n c.loop-turn.found c.loop-turn.height c.loop-turn.tokens) _ c.loop-turn._turn c.loop-turn-test.false c.loop-turn.invariant.0 in
    first_of (search rules, grind (arith, common_steps))

pub struct_spec-returns-in_err-tag-clause-reads : goal.struct_spec-returns-in_err-tag-clause-reads
unfolding reader.struct
struct_spec-returns-in_err-tag-clause-reads g t c = search rules

pub struct_spec-returns-then-sees-clause-reads : goal.struct_spec-returns-then-sees-clause-reads
unfolding reader.struct
struct_spec-returns-then-sees-clause-reads g t c = search rules

pub struct_spec-returns-else-bodies-clause-reads : goal.struct_spec-returns-else-bodies-clause-reads
unfolding reader.struct
struct_spec-returns-else-bodies-clause-reads g t c = search rules

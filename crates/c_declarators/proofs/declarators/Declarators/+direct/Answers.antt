use Rattle.std.proofs.Common.{ap, rules, arith, ◌-◌}
use Rattle.c_readers.specs.inner.Nests.{below}
use Rattle.c_readers.specs.inner.NestsLemmas.{below_zero}
use Rattle.c_declarators.proofs.ReadersLemmas.{direct_at, direct_plain, direct_more}
use Rattle.c_declarators.proofs.declarators.Declarators.+direct.Goals as goal

pub direct-returns-then-count-eq0-clause-reads : goal.direct-returns-then-count-eq0-clause-reads
direct-returns-then-count-eq0-clause-reads g t c =
    rw (direct_plain c.args.self.now.grammar.names.now (below c.args.self.now.grammar.names.now c.args.self.now.grammar.depth) (c.args.self.now.grammar.depth - 1) _ _ _ c.opened-count.ensures c.if-count-eq0.true) c.named.ensures.reads

pub direct-returns-in_err-inside-clause-reads : goal.direct-returns-in_err-inside-clause-reads
direct-returns-in_err-inside-clause-reads g t c =
    rw (direct_more c.args.self.now.grammar.names.now (below c.args.self.now.grammar.names.now c.args.self.now.grammar.depth) (c.args.self.now.grammar.depth - 1) _ _ _ _ _ c.opened-count.ensures (omega arith) c.run-stars.ensures.is) (search rules)

pub direct-returns-clause-reads : goal.direct-returns-clause-reads
direct-returns-clause-reads g t c =
    rw (direct_more c.args.self.now.grammar.names.now (below c.args.self.now.grammar.names.now c.args.self.now.grammar.depth) (c.args.self.now.grammar.depth - 1) _ _ _ _ _ c.opened-count.ensures (omega arith) c.run-stars.ensures.is) (search rules)

pub inner_direct-returns-then-self-eq0-clause-reads : goal.inner_direct-returns-then-self-eq0-clause-reads
inner_direct-returns-then-self-eq0-clause-reads g t c = ap (λ r. r.direct c.args.tokens.now) (below_zero c.args.self.now.grammar.names.now c.args.self.now.grammar.depth c.if-self-eq0.true)

pub inner_direct-returns-clause-reads : goal.inner_direct-returns-clause-reads
inner_direct-returns-clause-reads g t c =
    rw (← ap (λ r. r.direct c.args.tokens.now) c.inner.ensures.readers, direct_at c.inner.result.grammar.names.now c.inner.result.grammar.depth c.args.tokens.now) c.direct.ensures.reads

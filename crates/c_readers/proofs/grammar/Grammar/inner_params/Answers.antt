use Rattle.std.proofs.Common.{ap, arith}
use Rattle.c_readers.specs.inner.NestsLemmas.{below_zero, below_more}
use Rattle.c_readers.proofs.grammar.Grammar.inner_params.Goals as goal

pub returns-then-self-eq0-clause-reads : goal.returns-then-self-eq0-clause-reads
returns-then-self-eq0-clause-reads g c = ap (λ r. r.params c.args.tokens.now) (below_zero c.args.self.now.names.now c.args.self.now.depth c.if-self-eq0.true)

pub returns-clause-reads : goal.returns-clause-reads
returns-clause-reads g c = rw (below_more c.args.self.now.names.now c.args.self.now.depth (omega arith)) (c.requires.params_reads _ _ _ _ _ _ (omega arith) c.params.ensures)

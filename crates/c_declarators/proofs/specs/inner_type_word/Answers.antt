use Rattle.std.proofs.Common.{ap}
use Rattle.c_readers.specs.inner.NestsLemmas.{below_zero}
use Rattle.c_declarators.proofs.specs.inner_type_word.Goals as goal

pub returns-then-grammar-eq0-clause-reads : goal.returns-then-grammar-eq0-clause-reads
returns-then-grammar-eq0-clause-reads g c = ap (λ r. r.type_word c.args.tokens.now) (below_zero c.args.grammar.now.names.now c.args.grammar.now.depth c.if-grammar-eq0.true)

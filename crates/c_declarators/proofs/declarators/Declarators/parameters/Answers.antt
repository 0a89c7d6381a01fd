use Rattle.std.proofs.Common.{rules}
use Rattle.c_readers.specs.inner.Readers as reader
use Rattle.c_declarators.proofs.ReadersLemmas.{params_at}
use Rattle.c_declarators.proofs.declarators.Declarators.parameters.Goals as goal

pub returns-then-sees-clause-reads : goal.returns-then-sees-clause-reads
unfolding reader.params
returns-then-sees-clause-reads g c = rw (params_at c.args.self.now.grammar.names.now c.args.self.now.grammar.depth c.args.tokens.now) (search rules)

pub returns-then-is_void_alone-clause-reads : goal.returns-then-is_void_alone-clause-reads
unfolding reader.params
returns-then-is_void_alone-clause-reads g c = rw (params_at c.args.self.now.grammar.names.now c.args.self.now.grammar.depth c.args.tokens.now) (search rules)

pub returns-in_err-given-clause-reads : goal.returns-in_err-given-clause-reads
unfolding reader.params
returns-in_err-given-clause-reads g c = rw (params_at c.args.self.now.grammar.names.now c.args.self.now.grammar.depth c.args.tokens.now) (search rules)

pub returns-clause-reads : goal.returns-clause-reads
unfolding reader.params
returns-clause-reads g c = rw (params_at c.args.self.now.grammar.names.now c.args.self.now.grammar.depth c.args.tokens.now) (search rules)

use Rattle.std.proofs.Common.{rules, arith}
use Rattle.c_readers.specs.inner.Readers as reader
use Rattle.c_declarators.proofs.ReadersLemmas.{declarator_zero, declarator_some}
use Rattle.c_declarators.proofs.declarators.Declarators.declarator.Goals as goal

pub returns-then-self-eq0-clause-reads : goal.returns-then-self-eq0-clause-reads
returns-then-self-eq0-clause-reads g c = declarator_zero c.args.self.now.grammar.names.now c.args.self.now.grammar.depth c.args.tokens.now c.if-self-eq0.true

pub returns-in_err-inside-clause-reads : goal.returns-in_err-inside-clause-reads
unfolding reader.declarator
returns-in_err-inside-clause-reads g c = rw (declarator_some c.args.self.now.grammar.names.now c.args.self.now.grammar.depth c.args.tokens.now (omega arith)) (search rules)

pub returns-in_err-whole-clause-reads : goal.returns-in_err-whole-clause-reads
unfolding reader.declarator
returns-in_err-whole-clause-reads g c = rw (declarator_some c.args.self.now.grammar.names.now c.args.self.now.grammar.depth c.args.tokens.now (omega arith)) (search rules)

pub returns-clause-reads : goal.returns-clause-reads
unfolding reader.declarator
returns-clause-reads g c = rw (declarator_some c.args.self.now.grammar.names.now c.args.self.now.grammar.depth c.args.tokens.now (omega arith)) (search rules)

use Rattle.std.proofs.Common.{rules, arith}
use Rattle.c_readers.specs.inner.Readers as reader
use Rattle.c_readers.proofs.ReadersLemmas.{abstract_zero, abstract_some}
use Rattle.c_readers.proofs.grammar.Grammar.+abstract_declarators.Goals as goal

pub abstract_declarator-returns-then-self-eq0-clause-reads : goal.abstract_declarator-returns-then-self-eq0-clause-reads
abstract_declarator-returns-then-self-eq0-clause-reads g t c = abstract_zero c.args.self.now.names.now c.args.self.now.depth c.args.tokens.now c.if-self-eq0.true

pub abstract_declarator-returns-then-sees_behind-clause-reads : goal.abstract_declarator-returns-then-sees_behind-clause-reads
unfolding reader.abstract
abstract_declarator-returns-then-sees_behind-clause-reads g t c = rw (abstract_some c.args.self.now.names.now c.args.self.now.depth c.args.tokens.now (omega arith)) (search rules)

pub abstract_declarator-returns-else-sees-clause-reads : goal.abstract_declarator-returns-else-sees-clause-reads
unfolding reader.abstract
abstract_declarator-returns-else-sees-clause-reads g t c = rw (abstract_some c.args.self.now.names.now c.args.self.now.depth c.args.tokens.now (omega arith)) (search rules)

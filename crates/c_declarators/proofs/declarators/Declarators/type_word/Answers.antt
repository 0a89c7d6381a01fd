use Rattle.std.proofs.Common.{rules, arith}
use Rattle.c_readers.specs.inner.Readers as reader
use Rattle.c_declarators.proofs.ReadersLemmas.{type_word_zero, type_word_some}
use Rattle.c_declarators.proofs.declarators.Declarators.type_word.Goals as goal

pub returns-then-self-eq0-clause-reads : goal.returns-then-self-eq0-clause-reads
returns-then-self-eq0-clause-reads g c = type_word_zero c.args.self.now.grammar.names.now c.args.self.now.grammar.depth c.args.tokens.now c.if-self-eq0.true

pub returns-in_err-spec-clause-reads : goal.returns-in_err-spec-clause-reads
unfolding reader.type_word
returns-in_err-spec-clause-reads g c = rw (type_word_some c.args.self.now.grammar.names.now c.args.self.now.grammar.depth c.args.tokens.now (omega arith)) (search rules)

pub returns-in_err-declarator-clause-reads : goal.returns-in_err-declarator-clause-reads
unfolding reader.type_word
returns-in_err-declarator-clause-reads g c = rw (type_word_some c.args.self.now.grammar.names.now c.args.self.now.grammar.depth c.args.tokens.now (omega arith)) (search rules)

pub returns-clause-reads : goal.returns-clause-reads
unfolding reader.type_word
returns-clause-reads g c = rw (type_word_some c.args.self.now.grammar.names.now c.args.self.now.grammar.depth c.args.tokens.now (omega arith)) (search rules)

pub returns-clause-height : goal.returns-clause-height
returns-clause-height g c = c.boxed.ensures.height c.args.self.now.grammar.depth (omega (arith, c.in_ok-spec.ensures.height, c.in_ok-declarator.ensures.height, c.inner-inner.ensures.depth, c.max.ensures))

use Rattle.std.proofs.Common.{◌+◌, ◌*◌}
use Rattle.c_readers.proofs.grammar.Grammar.+abstract_declarators.Given as goal

abbrev pub decreases-abstract_declarator : goal.decreases-abstract_declarator
decreases-abstract_declarator g l = 4 * l.self.now.depth + 3

abbrev pub decreases-bracketed_abstract : goal.decreases-bracketed_abstract
decreases-bracketed_abstract g l = 4 * l.self.now.depth + 2

abbrev pub decreases-starred : goal.decreases-starred
decreases-starred g l = 4 * l.self.now.depth + 1

abbrev pub decreases-nested_abstract : goal.decreases-nested_abstract
decreases-nested_abstract g l = 4 * l.self.now.depth

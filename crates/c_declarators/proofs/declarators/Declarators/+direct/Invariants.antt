use Rattle.std.proofs.Common.{◌+◌, ◌*◌}
use Rattle.c_declarators.proofs.declarators.Declarators.+direct.Given as goal

abbrev pub decreases-direct : goal.decreases-direct
decreases-direct g l = 3 * l.self.now.grammar.depth + 2

abbrev pub decreases-name_behind : goal.decreases-name_behind
decreases-name_behind g l = 3 * l.self.now.grammar.depth + 1

abbrev pub decreases-inner_direct : goal.decreases-inner_direct
decreases-inner_direct g l = 3 * l.self.now.grammar.depth

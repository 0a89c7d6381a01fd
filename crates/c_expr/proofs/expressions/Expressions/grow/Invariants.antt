use Rattle.std.proofs.Common.{◌≡◌, ◌+◌, ◌-◌, ◌≤◌}
use Rattle.c_readers.specs.inner.Nests.{below}
use Rattle.c_readers.specs.inner.Readers.{grow, grow_from}
use Rattle.c_expr.proofs.expressions.Expressions.grow.Given as goal

abbrev pub invariant-loop-turn : goal.invariant-loop-turn
invariant-loop-turn g l =
    (grow l.self.grammar.names.now (below l.self.grammar.names.now l.self.grammar.depth) (l.self.grammar.depth - 1) l.least l.fn.operand l.fn.tokens
    ≡ grow_from l.self.grammar.names.now (below l.self.grammar.names.now l.self.grammar.depth) (l.self.grammar.depth - 1) l.least (l._turn-end - l._turn) l.whole l.tokens)
    × (l.whole.height ≤ 1 + (l.self.grammar.depth - 1))

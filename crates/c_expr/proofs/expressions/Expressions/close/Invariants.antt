use Rattle.std.proofs.Common.{◌≡◌, ◌+◌, ◌-◌, ◌≤◌}
use Rattle.c_readers.specs.inner.Nests.{below}
use Rattle.c_readers.specs.inner.Readers.{close}
use Rattle.c_expr.proofs.expressions.Expressions.close.Given as goal

abbrev pub invariant-loop-pair : goal.invariant-loop-pair
invariant-loop-pair g l =
    (close l.self.grammar.names.now (below l.self.grammar.names.now l.self.grammar.depth) (l.self.grammar.depth - 1) l.least l.pairs l.fn.operand l.fn.tokens
    ≡ close l.self.grammar.names.now (below l.self.grammar.names.now l.self.grammar.depth) (l.self.grammar.depth - 1) l.least (l.pairs - l._pair) l.whole l.tokens)
    × (l.whole.height ≤ 1 + (l.self.grammar.depth - 1))

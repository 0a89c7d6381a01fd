use Rattle.std.proofs.Common.{◌≡◌, ◌-◌, ◌≤◌}
use Rattle.c_readers.specs.inner.Parser.{separated, separated_from}
use Rattle.c_readers.specs.inner.Nests.{below}
use Rattle.c_readers.proofs.grammar.Grammar.expressions.Given as goal

abbrev pub invariant-loop-turn : goal.invariant-loop-turn
invariant-loop-turn g l =
    (separated ((below l.self.names.now l.self.depth).expr 0) l.fn.tokens ≡ separated_from ((below l.self.names.now l.self.depth).expr 0) (l._turn-end - l._turn) l.found l.height l.tokens)
    × (l.height ≤ l.self.depth - 1)

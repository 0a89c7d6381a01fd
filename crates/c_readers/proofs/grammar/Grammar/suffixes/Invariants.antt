use Rattle.std.proofs.Common.{◌≡◌, ◌≤◌, ◌-◌}
use Rattle.c_readers.specs.inner.Nests.{below}
use Rattle.c_readers.specs.inner.Readers.{suffixes, suffixes_from}
use Rattle.c_readers.proofs.grammar.Grammar.suffixes.Given as goal

abbrev pub invariant-loop-turn : goal.invariant-loop-turn
invariant-loop-turn g l =
    let inner = below l.self.names.now l.self.depth in
    (suffixes l.self.names.now inner l.fn.tokens ≡ suffixes_from l.self.names.now inner (l._turn-end - l._turn) l.found l.height l.tokens) × (l.height ≤ l.self.depth - 1)

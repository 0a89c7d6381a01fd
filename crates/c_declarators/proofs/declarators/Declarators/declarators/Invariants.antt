use Rattle.std.proofs.Common.{◌≡◌, ◌≤◌, ◌-◌}
use Rattle.c_readers.specs.inner.Parser.{separated, separated_from}
use Rattle.c_readers.specs.inner.Readers.{readers}
use Rattle.c_declarators.proofs.declarators.Declarators.declarators.Given as goal

abbrev pub invariant-loop-turn : goal.invariant-loop-turn
invariant-loop-turn g l =
    let item = (readers l.self.grammar.names.now l.self.grammar.depth).declarator in
    (separated item l.fn.tokens ≡ separated_from item (l._turn-end - l._turn) l.found l.height l.tokens) × (l.height ≤ l.self.grammar.depth)

use Rattle.std.proofs.Common.{◌≡◌, ◌≤◌, ◌-◌}
use Rattle.c_readers.specs.inner.Parser.{separated, separated_from}
use Rattle.c_readers.specs.inner.Readers.{readers, param}
use Rattle.c_declarators.proofs.declarators.Declarators.param_list.Given as goal

abbrev pub invariant-loop-turn : goal.invariant-loop-turn
invariant-loop-turn g l =
    let r = readers l.self.grammar.names.now l.self.grammar.depth in
    let item = param l.self.grammar.names.now r.spec r.declarator r.abstract in
    (separated item l.fn.tokens ≡ separated_from item (l._turn-end - l._turn) l.found l.height l.tokens) × (l.height ≤ l.self.grammar.depth)

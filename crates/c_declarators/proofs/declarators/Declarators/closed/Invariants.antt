use Rattle.std.proofs.Common.{◌≡◌, ℕ, ◌+◌, ◌≤◌, ◌-◌}
use Rattle.c_readers.specs.inner.Nests.{below}
use Rattle.c_readers.specs.declared.brackets.Bracketed.{Bracketed}
use Rattle.c_readers.specs.inner.Parser.{Parser}
use Rattle.c_readers.specs.inner.Readers.{closed}
use Rattle.c_declarators.proofs.declarators.Declarators.closed.Given as goal

abbrev pub invariant-loop-turn : goal.invariant-loop-turn
invariant-loop-turn g l =
    let rest : ℕ → ℕ → Bracketed → Parser Bracketed = λ n stars whole. closed l.self.grammar.names.now (below l.self.grammar.names.now l.self.grammar.depth) (l.self.grammar.depth - 1) n stars whole in
    (rest l.count l.fn.stars l.fn.inside l.fn.tokens ≡ rest (l.count - l._turn) l.its_stars l.whole l.tokens) × (l.whole.height ≤ 1 + (l.self.grammar.depth - 1))

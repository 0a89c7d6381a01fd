use Rattle.std.proofs.Common.{◌≡◌, ◌≤◌, ◌-◌, length}
use Rattle.c_parser.specs.inner.Readers.{source_of, items_from}
use Rattle.c_parser.proofs.source.items_of.Given as goal

abbrev pub invariant-loop-turn : goal.invariant-loop-turn
invariant-loop-turn l = (source_of l.fn.tokens ≡ items_from (l._turn-end - l._turn) l.found l.names l.tokens) × (length l.found ≤ l._turn)

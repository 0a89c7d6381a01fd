use Rattle.std.proofs.Common.{ℕ, ap, ◌∙◌}
use Rattle.std.specs.Prelude.{replicate}
use Rattle.safe_table.proofs.Seats.{starts}
use Rattle.safe_table.proofs.table.SafeTable.open.Goals as goal

pub of_words-requires : goal.of_words-requires
of_words-requires c = starts _ _ c.requires.size (c.as_slice.ensures.value ∙ (c.in_ok-words.ensures ∙ ap (λ (n : ℕ). replicate n 0) c.word_count.ensures))

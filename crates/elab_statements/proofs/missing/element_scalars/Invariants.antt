use Rattle.std.proofs.Common.{◌≡◌, [], ◌∷◌}
use Rattle.elab_pieces.specs.Initialisers.{all_scalars}
use Rattle.elab_rows.specs.Units.{repeated}
use Rattle.elab_statements.proofs.missing.element_scalars.Given as goal

abbrev pub invariant-loop-turn : goal.invariant-loop-turn
invariant-loop-turn l = l.scalars ≡ all_scalars l.structs (repeated l.turn (l.element ∷ []))

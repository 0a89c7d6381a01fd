use Rattle.std.proofs.Common.{ℕ, ◌<◌, length, map}
use Rattle.core_ir.specs.Outline.{Outline}
use Rattle.core_ir.specs.Flow.{Stands}
use Rattle.core_ir.specs.Order.{NumbersFit}
use Rattle.core_ir.proofs.numbers.are_numbered.Given as goal

abbrev pub invariant-loop-instr : goal.invariant-loop-instr
invariant-loop-instr g l =
    (u : ℕ) (i : Outline) → u < l.instr-index → Stands (map g.I.HasOutline.outline l.code) 0 u i
    → NumbersFit l.registers l.slots (length (map g.I.HasOutline.outline l.code)) i

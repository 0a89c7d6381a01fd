use Rattle.core_ir.specs.Valid.{IsInRange}
use Rattle.elab_piece_laws.proofs.NumberedLines.{full_numbered, means, numbered_rows}
use Rattle.elab_piece_laws.proofs.theorems.lines_are_numbered.Goals as goal

pub returns : goal.returns
returns c = record {
  means = means;
  expression = λ p f a full fitting. full_numbered (IsInRange p f) f.registers f.slots a full fitting;
  rows = numbered_rows;
}

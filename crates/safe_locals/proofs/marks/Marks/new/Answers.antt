use Rattle.std.proofs.Common.{map}
use Rattle.safe_locals.specs.declared.mark.Mark.TheVariants as mark
use Rattle.safe_locals.proofs.MarksTell.{marks_first, other_marks}
use Rattle.safe_locals.proofs.marks.Marks.new.Goals as goal

pub returns : goal.returns
returns c = λ code. marks_first code _ (other_marks 1024)

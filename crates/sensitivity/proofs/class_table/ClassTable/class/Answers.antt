use Rattle.sensitivity.proofs.ClassLaws.{no_pointer}
use Rattle.sensitivity.proofs.Forms.{no_target}
use Rattle.sensitivity.proofs.class_table.ClassTable.class.Goals as goal

pub returns-in_default : goal.returns-in_default
returns-in_default c = λ defs are. no_pointer defs c.args.ty.now (no_target c.args.ty.now c.in_default.not-Pointer)

use Rattle.std.proofs.Common.{◌∙◌, ap}
use Rattle.c_types.specs.declared.ty.Ty.{out-Ty}
use Rattle.machine.specs.Decided.{kind_at}
use Rattle.instrument.proofs.kinds.kind_of.Goals as goal

pub returns : goal.returns
returns c = λ defs class are. c.kind_at.ensures ∙ ap (λ a. kind_at a (out-Ty c.args.ty.now)) (c.class_of.ensures defs class are)

use Rattle.std.proofs.Common.{◌∙◌, ap, not}
use Rattle.machine.specs.Decided.{is_regular}
use Rattle.instrument.proofs.kinds.keeps_bounds.Goals as goal

pub returns : goal.returns
returns c = λ defs class are. ap not c.is_regular.ensures ∙ ap (λ a. not (is_regular a)) (c.class_of_pointer.ensures defs class are)

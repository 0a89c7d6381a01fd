use Rattle.std.proofs.Common.{◌≡◌, map, take}
use Rattle.sensitivity.specs.inner.Marks.{first_class}
use Rattle.sensitivity.proofs.marks.first_classes.Given as goal

abbrev pub invariant-loop-def : goal.invariant-loop-def
invariant-loop-def l = l.of_structs ≡ map first_class (take l.def-index l.defs)

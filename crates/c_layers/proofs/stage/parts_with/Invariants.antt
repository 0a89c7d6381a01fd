use Rattle.std.proofs.Common.{◌≡◌, ◌+◌, sum_by, take}
use Rattle.c_layers.specs.inner.Stages.{counted}
use Rattle.c_types.specs.Parts.{parts}
use Rattle.c_layers.proofs.stage.parts_with.Given as goal

abbrev pub invariant-loop-param : goal.invariant-loop-param
invariant-loop-param l = l.total ≡ counted (l.parts_before + sum_by (λ p. parts p.ty) (take l.param-index l.params))

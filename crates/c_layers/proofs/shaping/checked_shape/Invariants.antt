use Rattle.std.proofs.Common.{◌≡◌, drop}
use Rattle.c_layers.specs.Shapes.{results_fit, shaped}
use Rattle.c_layers.specs.inner.Stages.{IsKnown, shape_of}
use Rattle.c_layers.proofs.shaping.checked_shape.Given as goal

abbrev pub invariant-loop-i : goal.invariant-loop-i
invariant-loop-i l = record {
  made : shape_of l.stage ≡ shaped l.structs l.fn.base (drop l.i l.layers);
  fits : l.results_fit ≡ results_fit l.structs l.fn.base (drop l.i l.layers);
  known : IsKnown l.structs l.stage;
}

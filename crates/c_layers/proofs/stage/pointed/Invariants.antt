use Rattle.std.proofs.Common.{◌≡◌, ◌+◌}
use Rattle.c_layers.specs.declared.layer.Shape.TheVariants as shape
use Rattle.c_layers.specs.Shapes.{pointed_by}
use Rattle.c_types.specs.Parts.{parts}
use Rattle.c_layers.proofs.stage.pointed.Given as goal

abbrev pub invariant-loop : goal.invariant-loop
invariant-loop l = record {
  made : pointed_by l.counter (shape.Whole l.initial.ty) ≡ shape.Whole l.ty;
  longer : parts l.ty ≡ parts l.initial.ty + l.counter;
}

use Rattle.std.proofs.Common.{◌∙◌, sym, ap}
use Rattle.c_layers.specs.inner.Stages.{shape_of}
use Rattle.c_layers.specs.Shapes.{layered}
use Rattle.c_layers.proofs.RoundNoType.{stars}
use Rattle.c_layers.proofs.stage.round_no_type.Goals as goal

pub returns-in-Pointers-clause-shape : goal.returns-in-Pointers-clause-shape
returns-in-Pointers-clause-shape c = λ defs.
    sym (ap (λ l. layered defs l (shape_of c.args.inner)) c.in-Pointers.is ∙ stars c.in-Pointers.stars (shape_of c.args.inner) c.if-stars-gt0.true c.requires)

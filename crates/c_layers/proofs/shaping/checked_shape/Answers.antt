use Rattle.std.proofs.Common.{◌∙◌, ap, sym}
use Rattle.std.proofs.Math.Seq.{drop-length}
use Rattle.c_layers.specs.Shapes.{results_fit, shaped}
use Rattle.c_layers.proofs.shaping.checked_shape.Goals as goal

pub loop-i-init : goal.loop-i-init
loop-i-init c =
    let none = drop-length c.args.layers.now in
    record {
      made = c.of-stage.ensures.shape ∙ ap (shaped c.args.structs.now c.args.base) (sym none);
      fits = ap (results_fit c.args.structs.now c.args.base) (sym none);
      known = c.of-stage.ensures.known c.args.structs.now;
    }

use Rattle.std.proofs.Common.{◌∙◌, sym, ap, arith}
use Rattle.c_types.specs.Parts.{parts}
use Rattle.c_layers.specs.declared.layer.Shape.TheVariants as shape
use Rattle.c_layers.specs.inner.Stages.{function_type}
use Rattle.c_layers.proofs.PartsOfLayers.{few, function_is_one, many, parts_called}
use Rattle.c_layers.proofs.stage.called.Goals as goal

pub returns-then-parts-ge-MOST_PARTS-clause-shape : goal.returns-then-parts-ge-MOST_PARTS-clause-shape
returns-then-parts-ge-MOST_PARTS-clause-shape c =
    let high = c.if-parts-ge-MOST_PARTS.true in
    let made = function_type c.args.inner.ty c.args.params.now in
    let more = parts_called c.args.inner.ty c.args.params.now in
    sym (many made (omega (arith, c.requires.parts_are, c.parts_with-parts.ensures)) ∙ ap shape.Broken (function_is_one _))

pub returns-clause-shape : goal.returns-clause-shape
returns-clause-shape c =
    let low = c.if-parts-ge-MOST_PARTS.false in
    let made = function_type c.args.inner.ty c.args.params.now in
    let more = parts_called c.args.inner.ty c.args.params.now in
    ap shape.Whole c.in_ok-function_type.ensures ∙ sym (few made (omega (arith, c.requires.parts_are, c.parts_with-parts.ensures)))

pub returns-clause-known : goal.returns-clause-known
returns-clause-known c =
    let low = c.if-parts-ge-MOST_PARTS.false in
    let same = ap parts c.in_ok-function_type.ensures ∙ parts_called c.args.inner.ty c.args.params.now in
    record { parts_are = omega (arith, same, c.requires.parts_are, c.parts_with-parts.ensures); units_are = tt }

use Rattle.std.proofs.Common.{◌≡◌, ◌+◌, ◌≤◌, ◌∙◌, refl, sym, ap, add-one, arith}
use Rattle.c_types.specs.declared.ty.Ty.TheVariants as ty
use Rattle.c_types.specs.Parts.{parts}
use Rattle.c_layers.specs.declared.layer.Shape.TheVariants as shape
use Rattle.c_layers.specs.Shapes.{pointed, pointed_by}
use Rattle.c_layers.proofs.PartsOfLayers.{parts_pointer}
use Rattle.c_layers.proofs.Stars.{one_star, too_many}
use Rattle.c_layers.proofs.stage.pointed.Goals as goal

pub returns-then-stars-min-clause-shape : goal.returns-then-stars-min-clause-shape
returns-then-stars-min-clause-shape c =
    let some = c.if-stars-eq0.false in
    sym (too_many c.args.stars c.args.inner.ty (omega (arith, some)) (omega (arith, c.requires.parts_are)))

pub loop-init : goal.loop-init
loop-init c = record { made = refl; longer = omega arith }

pub loop-preserved : goal.loop-preserved
loop-preserved c =
    let same = c.in_ok-new.ensures in
    let within : parts c.loop.ty + 1 ≤ 1000 = omega (arith, c.requires.parts_are, c.loop.invariant.longer) in
    record {
      made = rw add-one (ap pointed c.loop.invariant.made ∙ one_star c.loop.ty (omega arith) ∙ ap (λ t. shape.Whole (ty.Pointer t)) (sym same));
      longer = ap (λ t. parts (ty.Pointer t)) same ∙ omega (arith, parts_pointer c.loop.ty, c.loop.invariant.longer);
    }

pub returns-clause-shape : goal.returns-clause-shape
returns-clause-shape c =
    let all : c.loop.counter ≡ c.args.stars = omega arith in
    sym c.loop.invariant.made ∙ ap (λ n. pointed_by n (shape.Whole c.args.inner.ty)) all

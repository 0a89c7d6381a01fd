use Rattle.std.proofs.Common.{◌∙◌, refl, sym, subst, ap}
use Rattle.std.proofs.lemmas.Bool.{both_ways}
use Rattle.c_types.specs.declared.ty.Ty.TheVariants as ty
use Rattle.core_ir.specs.inner.Search.{HasLayer, outermost}
use Rattle.core_ir.proofs.FoundStructs.{layer_in_array, layer_of_array}
use Rattle.core_ir.proofs.parts.+has_layer.Goals as goal

pub returns-then-same : goal.returns-then-same
returns-then-same t c =
    let e = c.same.ensures.equal.0 c.if-same.true in
    (λ is. subst (λ x. HasLayer c.args.ty.now x) e (outermost c.args.ty.now), λ h. refl)

pub returns-in-Array : goal.returns-in-Array
returns-in-Array t c =
    let is = c.in-Array.is ∙ ap (λ x. ty.Array x c.in-Array.field-1) (sym c.get.ensures) in (
      λ yes. layer_in_array c.args.ty.now c.get.result.now c.args.part.now c.in-Array.field-1 is (c.has_layer.ensures.0 yes),
      λ h. c.has_layer.ensures.1 (layer_of_array c.args.ty.now c.get.result.now c.args.part.now c.in-Array.field-1 is (λ e. both_ways _ c.if-same.false (c.same.ensures.equal.1 e)) h),
    )

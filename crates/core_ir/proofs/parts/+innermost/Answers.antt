use Rattle.std.proofs.Common.{◌∙◌, sym, subst, ap}
use Rattle.std.proofs.lemmas.Option.{IfSome_then}
use Rattle.c_types.specs.declared.ty.Ty.TheVariants as ty
use Rattle.core_ir.specs.inner.Search.{HasLayer, outermost}
use Rattle.core_ir.proofs.FoundStructs.{layer_in_array}
use Rattle.core_ir.proofs.parts.+innermost.Goals as goal

pub returns-in-Struct-clause-some : goal.returns-in-Struct-clause-some
returns-in-Struct-clause-some t c = subst (λ x. HasLayer x (ty.Struct c.in-Struct.s)) (sym c.in-Struct.is) (outermost (ty.Struct c.in-Struct.s))

pub returns-in-Array-clause-some : goal.returns-in-Array-clause-some
returns-in-Array-clause-some t c =
    let is = c.in-Array.is ∙ ap (λ x. ty.Array x c.in-Array.field-1) (sym c.get.ensures) in
    IfSome_then c.innermost.result c.innermost.ensures.some (λ s h. layer_in_array c.args.ty.now c.get.result.now (ty.Struct s) c.in-Array.field-1 is h)

use Rattle.c_types.specs.declared.ty.Ty.TheVariants as ty
use Rattle.instrument.proofs.kinds.class_of_pointer.Goals as goal

pub returns : goal.returns
returns c = λ defs class are.
    let pointer = ty.Pointer c.args.target.now in
    c.classes_are_unique.ensures defs pointer c.class_of_pointer.result (class pointer) (c.class_of_pointer.ensures defs are.table) (are.each pointer)

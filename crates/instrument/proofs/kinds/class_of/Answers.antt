use Rattle.instrument.proofs.kinds.class_of.Goals as goal

pub returns : goal.returns
returns c = λ defs class are. c.classes_are_unique.ensures defs c.args.ty.now c.class.result (class c.args.ty.now) (c.class.ensures defs are.table) (are.each c.args.ty.now)

use Rattle.sensitivity.proofs.Marking.{marked_new}
use Rattle.sensitivity.proofs.marks.Marks.new.Goals as goal

pub returns : goal.returns
returns c = marked_new c.args.defs.now c.in_ok-of_structs.of_structs c.new-found.result c.in_ok-of_structs.ensures c.new-found.ensures

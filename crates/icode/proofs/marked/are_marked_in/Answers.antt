use Rattle.std.proofs.Common.{map}
use Rattle.machine.specs.Outlines.{outline_of_code}
use Rattle.icode.proofs.MarksAreSafe.{marks_safe}
use Rattle.icode.proofs.marked.are_marked_in.Goals as goal

pub returns : goal.returns
returns c =
    let is = marks_safe (map outline_of_code c.args.body.now) c.args.locals.now c.write_units.new.units c.judge_locals.new.safe c.write_units.ensures c.judge_locals.ensures in
    (λ e. is.0 (c.are_marks.ensures.0 e), λ all. c.are_marks.ensures.1 (is.1 all))

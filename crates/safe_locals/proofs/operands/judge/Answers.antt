use Rattle.std.proofs.Common.{arith}
use Rattle.safe_locals.proofs.Judging.{judged_next}
use Rattle.safe_locals.proofs.operands.judge.Goals as goal

pub returns : goal.returns
returns g c =
    judged_next c.args.place c.loop-operand.operand (g.I.HasOutline.outline c.args.instr.now) c.args.units.now c.loop-operand.safe c.requires.here
    (omega (arith, c.loop-operand-test.false, c.operands-operand-end.ensures)) c.loop-operand.invariant

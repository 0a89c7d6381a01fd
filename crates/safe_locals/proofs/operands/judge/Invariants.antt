use Rattle.std.proofs.Common.{map}
use Rattle.safe_locals.specs.inner.Marks.{AreJudged}
use Rattle.safe_locals.proofs.operands.judge.Given as goal

abbrev pub invariant-loop-operand : goal.invariant-loop-operand
invariant-loop-operand g l = AreJudged (map g.I.HasOutline.outline l.code) l.units l.place l.operand l.safe

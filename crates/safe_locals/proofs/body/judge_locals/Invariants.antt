use Rattle.std.proofs.Common.{◌≡◌, length, map}
use Rattle.safe_locals.specs.inner.Marks.{AreJudged, AreMarks}
use Rattle.safe_locals.proofs.body.judge_locals.Given as goal

abbrev pub invariant-loop-place : goal.invariant-loop-place
invariant-loop-place g l = record {
  marks : AreMarks (map g.I.HasOutline.outline l.code) l.place l.marks.marks;
  judged : AreJudged (map g.I.HasOutline.outline l.code) l.units l.place 0 l.safe;
}

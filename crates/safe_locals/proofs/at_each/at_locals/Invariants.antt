use Rattle.std.proofs.Common.{map}
use Rattle.safe_locals.specs.inner.Marks.{AreAtUntil, AreMarks}
use Rattle.safe_locals.proofs.at_each.at_locals.Given as goal

abbrev pub invariant-loop-place : goal.invariant-loop-place
invariant-loop-place g l = record {
  marks : AreMarks (map g.I.HasOutline.outline l.code) l.place l.marks.marks;
  answers : AreAtUntil (map g.I.HasOutline.outline l.code) l.locals l.place l.at;
}

use Rattle.std.proofs.Common.{◌∙◌, subst}
use Rattle.sensitivity.specs.inner.Marks.{AreMarked}
use Rattle.sensitivity.proofs.search.Search.new.Goals as goal

pub returns : goal.returns
returns c = record {
  marked = subst (λ x. AreMarked x c.in_ok-marks.marks) (c.as_slice.ensures ∙ c.defs.ensures) c.in_ok-marks.ensures;
  many = c.in_ok-askers.ensures.many ∙ c.len.ensures;
  askers = λ n s is. absurd (c.in_ok-askers.ensures.none n s is);
}

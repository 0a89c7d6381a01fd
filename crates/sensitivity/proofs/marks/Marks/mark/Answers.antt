use Rattle.std.proofs.Common.{◌≡◌, ◌∙◌, sym, ap}
use Rattle.sensitivity.specs.Classes.{class_at}
use Rattle.sensitivity.specs.declared.class.Class.TheVariants as class
use Rattle.sensitivity.proofs.Marking.{mark_extends, mark_marks, marked_before, not_regular, regular_is}
use Rattle.sensitivity.specs.inner.Marks.{is_regular_class}
use Rattle.sensitivity.proofs.marks.Marks.mark.Goals as goal

pub returns-then-not-is_regular-clause-marked : goal.returns-then-not-is_regular-clause-marked
returns-then-not-is_regular-clause-marked c = λ defs are can. (
  are,
  marked_before defs c.args.self.now c.args.s are can
      (not_regular (class_at c.args.self.now.of_structs c.args.s)
      (ap (λ x. is_regular_class (class_at x c.args.s)) (sym c.as_slice.ensures) ∙ ap is_regular_class (sym c.class_at.ensures) ∙ sym c.is_regular.ensures ∙ c.if-not-is_regular.true)),
)

pub returns-clause-marked : goal.returns-clause-marked
returns-clause-marked c =
    let regular : class_at c.args.self.now.of_structs c.args.s ≡ class.Regular = ap (λ x. class_at x c.args.s) (sym c.as_slice.ensures) ∙ regular_is (class_at c.as_slice.result.now c.args.s)
    (ap is_regular_class (sym c.class_at.ensures) ∙ sym c.is_regular.ensures ∙ c.if-not-is_regular.false) in
    mark_marks c.args.self.now c.args.s c.set.new.self c.push.new.self regular c.set.ensures c.in_ok-push.ensures.ok

pub returns-clause-extends : goal.returns-clause-extends
returns-clause-extends c =
    let regular : class_at c.args.self.now.of_structs c.args.s ≡ class.Regular = ap (λ x. class_at x c.args.s) (sym c.as_slice.ensures) ∙ regular_is (class_at c.as_slice.result.now c.args.s)
    (ap is_regular_class (sym c.class_at.ensures) ∙ sym c.is_regular.ensures ∙ c.if-not-is_regular.false) in
    mark_extends c.args.self.now c.args.s c.set.new.self c.push.new.self regular c.set.ensures c.in_ok-push.ensures.ok

use Rattle.std.proofs.Common.{◌≡◌, ◌∙◌, inl, inr, map, slice_get, refl, subst, sym, ap, arith}
use Rattle.std.proofs.lemmas.Bool.{cases_eq}
use Rattle.std.proofs.lemmas.Option.{same_Some, slice_get_within}
use Rattle.core_ir.specs.Order.{Served}
use Rattle.core_ir.proofs.ServedAndKept.{among, among_at}
use Rattle.core_ir.proofs.order.are_served.Goals as goal

pub loop-operand-preserved : goal.loop-operand-preserved
loop-operand-preserved g c = λ k r low is. elim (cases_eq k c.loop-operand.operand) [
  | inl e ↦
      let same : r ≡ c.operand.result = same_Some _ _ (sym is ∙ ap (λ n. slice_get (g.I.HasOutline.outline c.args.instr.now).used n) e ∙ c.operand.ensures) in
      subst (λ x. Served (map g.I.HasOutline.outline c.args.code.now) c.args.place x) (sym same) (c.is_served.ensures.0 c.if-not-is_served.false)
  | inr ne ↦ c.loop-operand.invariant k r (omega arith) is
]

pub returns-then-not-is_served : goal.returns-then-not-is_served
returns-then-not-is_served g c = (
  λ is. absurd (cc),
  λ all. sym c.if-not-is_served.true ∙ c.is_served.ensures.1 (all c.operand.result (among _ c.loop-operand.operand c.operand.result c.operand.ensures)),
)

pub returns : goal.returns
returns g c = (
  λ is r h.
      let at = among_at (g.I.HasOutline.outline c.args.instr.now).used r h in
      let low = slice_get_within (g.I.HasOutline.outline c.args.instr.now).used at.0 r at.1 in
      c.loop-operand.invariant at.0 r (omega (arith, low)) at.1,
  λ all. refl,
)

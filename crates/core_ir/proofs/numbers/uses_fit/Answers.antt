use Rattle.std.proofs.Common.{refl, arith}
use Rattle.std.proofs.lemmas.Option.{slice_get_within}
use Rattle.core_ir.proofs.ServedAndKept.{among, among_at}
use Rattle.core_ir.proofs.numbers.uses_fit.Goals as goal

pub returns-then-operand-registers : goal.returns-then-operand-registers
returns-then-operand-registers g c = (
  λ is. absurd (cc),
  λ all. let low = all c.operand.result (among _ c.loop-operand.operand c.operand.result c.operand.ensures) in absurd (omega (arith, low)),
)

pub returns : goal.returns
returns g c = (
  λ is r h.
      let at = among_at (g.I.HasOutline.outline c.args.instr.now).used r h in
      let low = slice_get_within (g.I.HasOutline.outline c.args.instr.now).used at.0 r at.1 in
      c.loop-operand.invariant at.0 r (omega (arith, low)) at.1,
  λ all. refl,
)

use Rattle.std.proofs.Common.{◌∙◌, ◌↔◌, IsTrue, map, sym, ap, subst}
use Rattle.safe_locals.specs.AtLocals.{HasYes, IsAt}
use Rattle.safe_locals.specs.inner.Marks.{is_of}
use Rattle.safe_locals.proofs.AtEach.{at_exact}
use Rattle.safe_locals.proofs.at_each.is_at.Goals as goal

pub returns : goal.returns
returns g c =
    let code = map g.I.HasOutline.outline c.args.code.now in
    subst (λ b. IsTrue b ↔ IsAt code (HasYes c.args.locals.now) c.args.place) (sym (c.is_of.ensures ∙ ap (λ m. is_of c.args.locals.now m) c.mark_at.ensures))
    (at_exact c.args.place c.args.marks.now c.requires.marks.tell (g.I.HasOutline.outline c.args.instr.now) c.requires.here c.args.locals.now c.operand.result c.operand.ensures)

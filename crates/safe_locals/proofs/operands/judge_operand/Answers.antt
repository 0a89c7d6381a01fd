use Rattle.std.proofs.Common.{rules, SFits, ◌≡◌, ◌∙◌, ◌+◌, ℕ, false, true, map, Some, slice_get, get_or, sym, ap, subst, arith}
use Rattle.std.specs.Int.{w128}
use Rattle.std.proofs.lemmas.Int.{to_z-of_z}
use Rattle.std.proofs.lemmas.Option.{slice_get-get_or}
use Rattle.safe_locals.specs.declared.mark.Mark.TheVariants as mark
use Rattle.safe_locals.specs.inner.Marks.{AreJudged, is_harmless, mark_at}
use Rattle.safe_locals.proofs.Judging.{judged_against, judged_harmless, judged_other, judged_past}
use Rattle.safe_locals.proofs.operands.judge_operand.Goals as goal
use Rattle.safe_locals.proofs.operands.judge_operand.Goals.{else-local-units-via-then-local-units+else-not-is_harmless, else-local-units-via-else-local-units}

pub returns-then-not-is_harmless : goal.returns-then-not-is_harmless
returns-then-not-is_harmless g c =
    let code = map g.I.HasOutline.outline c.args.code.now in
    let i = g.I.HasOutline.outline c.args.instr.now in
    let marks = c.args.marks.now in
    let units = c.args.units.now in
    let n : ℕ = get_or units c.in-Address.local 0 in
    let e : mark_at marks c.operand.result ≡ mark.Address c.in-Address.local c.in-Address.offset = sym c.mark_at.ensures ∙ c.in-Address.is in
    let at : slice_get units c.in-Address.local ≡ Some n = slice_get-get_or units c.in-Address.local 0 c.if-local-units.true in
    let fits : SFits w128 c.in-Address.offset = search rules in
    let value : c.is_harmless.result ≡ is_harmless marks i.role c.args.operand c.in-Address.offset n =
    c.is_harmless.ensures ∙ ap (λ o. is_harmless marks c.role.result c.args.operand o n) (to_z-of_z w128 c.in-Address.offset fits)
    ∙ ap (λ r. is_harmless marks r c.args.operand c.in-Address.offset n) c.role.ensures in
    let harm : is_harmless marks i.role c.args.operand c.in-Address.offset n ≡ false = sym value ∙ c.if-not-is_harmless.true in
    judged_against c.args.place marks c.requires.marks.tell i c.requires.here c.args.operand c.operand.result c.operand.ensures units c.args.safe.now c.requires.judged c.in-Address.local c.in-Address.offset n at e harm

pub returns-else-local-units : goal.returns-else-local-units
returns-else-local-units g c =
    let i = g.I.HasOutline.outline c.args.instr.now in
    let marks = c.args.marks.now in
    let units = c.args.units.now in
    let n : ℕ = get_or units c.in-Address.local 0 in
    let e : mark_at marks c.operand.result ≡ mark.Address c.in-Address.local c.in-Address.offset = sym c.mark_at.ensures ∙ c.in-Address.is in
    let fits : SFits w128 c.in-Address.offset = search rules in
    elim c.else-local-units.branch [
      | else-local-units-via-then-local-units+else-not-is_harmless w ↦
          let at : slice_get units c.in-Address.local ≡ Some n = slice_get-get_or units c.in-Address.local 0 w.if-local-units.true in
          let value : w.is_harmless.result ≡ is_harmless marks i.role c.args.operand c.in-Address.offset n =
          w.is_harmless.ensures ∙ ap (λ o. is_harmless marks w.role.result c.args.operand o n) (to_z-of_z w128 c.in-Address.offset fits)
          ∙ ap (λ r. is_harmless marks r c.args.operand c.in-Address.offset n) w.role.ensures in
          let fine : is_harmless marks i.role c.args.operand c.in-Address.offset n ≡ true = sym value ∙ w.if-not-is_harmless.false in
          judged_harmless c.args.place marks c.requires.marks.tell i c.requires.here c.args.operand c.operand.result c.operand.ensures units c.args.safe.now c.requires.judged c.in-Address.local c.in-Address.offset n at e fine
      | else-local-units-via-else-local-units w ↦
          judged_past c.args.place marks c.requires.marks.tell i c.requires.here c.args.operand c.operand.result c.operand.ensures units c.args.safe.now c.requires.judged c.in-Address.local c.in-Address.offset (omega (arith, w.if-local-units.false)) e
    ]

pub returns-in_default : goal.returns-in_default
returns-in_default g c =
    judged_other c.args.place c.args.marks.now c.requires.marks.tell (g.I.HasOutline.outline c.args.instr.now) c.requires.here c.args.operand c.operand.result c.operand.ensures c.args.units.now c.args.safe.now c.requires.judged
    (λ v o e. c.in_default.not-Address v o (c.mark_at.ensures ∙ e))

use Rattle.std.proofs.Common.{◌≡◌, ◌∙◌, ◌↔◌, ◌+◌, List, IsTrue, Some, length, slice_get, ap, refl, sym, subst, arith}
use Rattle.std.proofs.lemmas.Option.{slice_get_read}
use Rattle.c_types.specs.declared.structs.StructDef.{StructDef}
use Rattle.sensitivity.specs.Classes.{AreClasses}
use Rattle.code_report.specs.Checks.{Counts, IsCheck, nothing}
use Rattle.code_report.proofs.Counting.{one_counted, one_passed}
use Rattle.code_report.proofs.checks.checks_of.Goals as goal
use Rattle.code_report.proofs.checks.checks_of.Goals.{else-is_check, then-is_check}

pub loop-place-init : goal.loop-place-init
loop-place-init c = record { few = omega arith; counts = λ defs are. nothing }

pub loop-place-preserved : goal.loop-place-preserved
loop-place-preserved c =
    let f = c.args.function.now in
    let items = c.as_slice-instr-items.result.now in
    let n = c.loop-place.place in
    let same = ap length c.as_slice-instr-items.ensures in
    let there : slice_get f.body n ≡ Some c.instr-item.result =
    ap (λ xs. slice_get xs n) (sym c.as_slice-instr-items.ensures) ∙ slice_get_read items (length items) n c.instr-item.result refl c.loop-place-test.true c.instr-item.is in
    let exact : (defs : List StructDef) → AreClasses defs c.args.classes.now → IsTrue c.is_check.result ↔ IsCheck defs f n =
    λ defs are. c.is_check.ensures defs f n are there (c.requires.at.exact n (omega (arith, same, c.loop-place-test.true))) in
    elim c.if-is_check.branch [
      | then-is_check w ↦
          record {
            few = omega (arith, w.checks-is, c.loop-place.invariant.few);
            counts = λ defs are.
                subst (λ m. Counts (IsCheck defs f) (n + 1) m) (sym w.checks-is)
                (one_counted (IsCheck defs f) n c.loop-place.checks (c.loop-place.invariant.counts defs are) ((exact defs are).0 w.if-is_check.true));
          }
      | else-is_check w ↦
          record {
            few = omega (arith, w.checks-is, c.loop-place.invariant.few);
            counts = λ defs are.
                subst (λ m. Counts (IsCheck defs f) (n + 1) m) (sym w.checks-is)
                (one_passed (IsCheck defs f) n c.loop-place.checks (c.loop-place.invariant.counts defs are) (λ is. absurd (let yes = (exact defs are).1 is in let none = w.if-is_check.false in cc)));
          }
    ]

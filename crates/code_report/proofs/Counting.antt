-- What is a check, and how many there are.
use Rattle.std.proofs.Common.{◌≡◌, ◌∙◌, ◌↔◌, ℕ, ◌+◌, suc, Bool, true, IsTrue, List, Some, slice_get, ap, sym, subst, add-one}
use Rattle.c_types.specs.declared.structs.StructDef.{StructDef}
use Rattle.c_types.specs.declared.ty.Ty.{Ty}
use Rattle.c_types.specs.declared.ty.Ty.TheVariants as ty
use Rattle.core_ir.specs.declared.instr.Instr.TheVariants as instr
use Rattle.core_ir.specs.declared.program.Function.{Function}
use Rattle.safe_locals.specs.AtLocals.{IsAtSafe}
use Rattle.sensitivity.specs.declared.class.Class.{Class}
use Rattle.sensitivity.specs.Classes.{HasClass}
use Rattle.sensitivity.specs.Theorems.{ClassesAreUnique}
use Rattle.code_report.specs.Checks.{Counts, IsCheck, call, counted, is_tested, passed, touch}

-- ---- a touch

module _ (defs : List StructDef) (f : Function) (k r : ℕ) (t : Ty) (there : slice_get f.body k ≡ Some (instr.Touch r t))
    (c : Class) (has : HasClass defs (ty.Pointer t) c) (free : IsAtSafe f k → ⊥) where
  same_class : ClassesAreUnique → (u : Ty) (d : Class) → t ≡ u → HasClass defs (ty.Pointer u) d → d ≡ c
  same_class classes u d e also = classes defs (ty.Pointer t) d c (subst (λ v. HasClass defs (ty.Pointer v) d) (sym e) also) has

  of_touch : ClassesAreUnique → IsCheck defs f k → is_tested c ≡ true
  of_touch classes (touch p u d is also tested at) =
      let e : t ≡ u = let same = sym there ∙ is in cc in ap is_tested (sym (same_class classes u d e also)) ∙ tested
  of_touch classes (call p args u s is) = absurd (let same = sym there ∙ is in cc)

  pub touch_exact : ClassesAreUnique → (b : Bool) → b ≡ is_tested c → IsTrue b ↔ IsCheck defs f k
  touch_exact classes b e = (λ h. touch r t c there has (sym e ∙ h) free, λ h. e ∙ of_touch classes h)

-- ---- how many

module _ (Is : ℕ → Type 0) (k n : ℕ) (h : Counts Is k n) where
  pub one_counted : Is k → Counts Is (k + 1) (n + 1)
  one_counted is = subst (λ j. Counts Is (k + 1) j) (sym (add-one n)) (subst (λ j. Counts Is j (suc n)) (sym (add-one k)) (counted k n h is))

  pub one_passed : (Is k → ⊥) → Counts Is (k + 1) n
  one_passed fails = subst (λ j. Counts Is j n) (sym (add-one k)) (passed k n h fails)

-- Marks that are those of the safe locals.
use Rattle.std.proofs.Common.{◌≡◌, ◌∙◌, ◌↔◌, ℕ, Bool, true, false, IsTrue, List, Some, slice_get, slice_index_or, sym}
use Rattle.core_ir.specs.Outline.{Outline}
use Rattle.core_ir.specs.SafeLocal.{IsSafe}
use Rattle.machine.specs.declared.code.CodeLocal.{CodeLocal}
use Rattle.safe_locals.specs.Safe.{AreSafeIn}
use Rattle.icode.specs.inner.Locals.{AreUnits, MarksAre}

same_truth : (a b : Bool) → ((a ≡ true) → b ≡ true) → ((b ≡ true) → a ≡ true) → a ≡ b
same_truth true b to from = sym (to (λ _. true))
same_truth false true to from = from (λ _. true)
same_truth false false to from = λ _. false

pub marks_safe : (code : List Outline) (locals : List CodeLocal) (units : List ℕ) (safe : List Bool) → AreUnits locals units → AreSafeIn code units safe
    → MarksAre locals safe ↔ ((v : ℕ) (l : CodeLocal) → slice_get locals v ≡ Some l → IsTrue l.safe ↔ IsSafe code v l.units)
marks_safe code locals units safe of are = (
  λ marks v l there.
      let exact = are.exact v l.units (of v l there) in
      let same = marks v l there in
      (λ yes_here. exact.0 (sym same ∙ yes_here), λ is. same ∙ exact.1 is),
  λ all v l there.
      let exact = are.exact v l.units (of v l there) in
      let marked = all v l there in
      same_truth l.safe (slice_index_or safe v false) (λ a. exact.1 (marked.0 a)) (λ b. marked.1 (exact.0 b)),
)

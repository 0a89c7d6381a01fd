use Rattle.std.proofs.Common.{◌≡◌, ◌↔◌, ℕ, IsTrue, List, map, Some, slice_get, subst}
use Rattle.core_ir.specs.SafeLocal.{IsSafe}
use Rattle.machine.specs.declared.code.CodeLocal.{CodeLocal}
use Rattle.machine.specs.declared.code.CodePlace.{CodePlace}
use Rattle.machine.specs.Outlines.{outline_of_code}
use Rattle.icode.proofs.marked.are_marked.Goals as goal

abbrev Marked : List CodePlace → List CodeLocal → Type 0
Marked body locals = (v : ℕ) (l : CodeLocal) → slice_get locals v ≡ Some l → IsTrue l.safe ↔ IsSafe (map outline_of_code body) v l.units

pub returns : goal.returns
returns c =
    subst (λ body. IsTrue c.are_marked_in.result ↔ Marked body c.args.function.now.locals) c.as_slice.ensures
    (subst (λ locals. IsTrue c.are_marked_in.result ↔ Marked c.as_slice.result.now locals) c.as_slice-2.ensures c.are_marked_in.ensures)

-- What stands beside the instruction at a place: the unit of a safe local that it accesses, and where the pointer of an
-- indirect call is read.
use Rattle.std.specs.Prelude.{◌≡◌, ◌≤◌, ℕ, IsTrue, IfSome, List, Option, Some, length, slice_get}
use Rattle.core_ir.specs.declared.program.Function.{Function}
use Rattle.core_ir.specs.declared.program.Local.{Local}
use Rattle.core_ir.specs.declared.role.Role.{Role}
use Rattle.core_ir.specs.declared.role.Role.TheVariants as role
use Rattle.core_ir.specs.Outline.{Outline}
use Rattle.core_ir.specs.SafeLocal.{IsSafe}
use Rattle.machine.specs.declared.code.CodeLocal.{CodeLocal}
use Rattle.machine.specs.declared.code.Origin.{Origin}
use Rattle.machine.specs.Stands.{IsOriginOf, IsUnitOf, LocalStands, accessed}
use Rattle.machine.specs.ValidCode.{CodeLocalsLie, code_local_units}
use Rattle.icode.specs.declared.site.Site.{Site}
use Rattle.icode.specs.declared.sites.Sites.{Sites}
use Rattle.icode.specs.inner.Sites.{AreSites}

-- this, and only this, stands beside an instruction of this role at place k
pub record IsSite (code : List Outline) (locals : List CodeLocal) (k : ℕ) (r : Role) (site : Site) : Type 0 where
  pub unit : IsUnitOf code locals k (accessed r) site.unit
  pub one_unit : (u : Option ℕ) → IsUnitOf code locals k (accessed r) u → u ≡ site.unit
  pub origin : IsOriginOf code k r site.origin
  pub one_origin : (c : ℕ) (o : Origin) → r ≡ role.Indirect c → IsOriginOf code k r o → o ≡ site.origin

-- the locals lie one behind the other in a frame, and those that are marked are safe
pub record AreLocals (code : List Outline) (locals : List CodeLocal) : Type 0 where
  pub lie : CodeLocalsLie 0 locals
  pub few : code_local_units locals ≤ 16384
  pub safe :
      (v : ℕ) (l : CodeLocal)
      → slice_get locals v ≡ Some l
      → IsTrue l.safe
      → IsSafe code v l.units

-- these stand for the locals of a function, one for each
pub record LocalsStand (f : Function) (locals : List CodeLocal) : Type 0 where
  pub count : length locals ≡ length f.locals
  pub each :
      (v : ℕ) (l : Local) (m : CodeLocal)
      → slice_get f.locals v ≡ Some l
      → slice_get locals v ≡ Some m
      → LocalStands f v l m

-- an access's first operand is its address
abbrev pub NamesAddress : Outline → Type 0
NamesAddress i = IfSome (accessed i.role) (λ p. slice_get i.used 0 ≡ Some p)

-- the tables are those of these locals, at place k
abbrev pub KnowsSites : List Outline → List CodeLocal → ℕ → Sites → Type 0
KnowsSites code locals k sites = AreSites code locals k sites

-- Tables of what is known at a place, and the unit at an address.
use Rattle.std.specs.Prelude.{◌≡◌, ◌+◌, ℕ, cond, List, Option, Some, None, length, slice_get, take, unsigned_abs, IsTrue}
use Rattle.core_ir.specs.declared.role.Role.{Role}
use Rattle.core_ir.specs.declared.role.Role.TheVariants as role
use Rattle.core_ir.specs.Flow.{Chain}
use Rattle.core_ir.specs.Outline.{Outline}
use Rattle.core_ir.specs.SafeLocal.{IsInside}
use Rattle.machine.specs.declared.code.CodeLocal.{CodeLocal}
use Rattle.machine.specs.declared.code.Origin.{Origin}
use Rattle.machine.specs.declared.code.Origin.TheVariants as origin
use Rattle.machine.specs.Stands.{IsOriginOf, IsUnitOf, accessed, safe_units}
use Rattle.safe_locals.specs.declared.marks.LocalAddress.{LocalAddress}
use Rattle.safe_locals.specs.Known.{Knows}
use Rattle.icode.specs.declared.sites.Sites.{Sites}
use Rattle.icode.specs.inner.Locals.{AreUnitsBefore}

pub record AreSites (code : List Outline) (locals : List CodeLocal) (k : ℕ) (sites : Sites) : Type 0 where
  pub marks : Knows code k sites.marks
  pub before : AreUnitsBefore locals sites.before
  pub room : length sites.before ≡ 16384

abbrev pub AreBefore : List CodeLocal → Sites → Type 0
AreBefore locals sites = AreUnitsBefore locals sites.before

-- ---- units

-- this, and only this, is the unit that an instruction of this role accesses at place k
pub record IsOnlyUnit (code : List Outline) (locals : List CodeLocal) (k : ℕ) (r : Role) (unit : Option ℕ)
    : Type 0 where
  pub is : IsUnitOf code locals k (accessed r) unit
  pub one : (u : Option ℕ) → IsUnitOf code locals k (accessed r) u → u ≡ unit

-- the unit at an address in a local, if the local is safe
abbrev pub unit_in : LocalAddress → ℕ → Option CodeLocal → Option ℕ
unit_in a before None = None
unit_in a before (Some l) = cond l.safe (Some (before + unsigned_abs a.offset)) None

abbrev pub unit_at : List CodeLocal → Option LocalAddress → Option ℕ
unit_at locals None = None
unit_at locals (Some a) = unit_in a (safe_units (take a.local locals)) (slice_get locals a.local)

-- the address is inside of its local, if that is safe
abbrev pub IsInsideOf : LocalAddress → CodeLocal → Type 0
IsInsideOf a l = IsTrue l.safe → IsInside a.offset l.units

abbrev pub StaysInside : List CodeLocal → Option LocalAddress → Type 0
StaysInside locals None = Unit {0}
StaysInside locals (Some a) = (l : CodeLocal) → slice_get locals a.local ≡ Some l → IsInsideOf a l

-- ---- where pointers are read

-- where an instruction of this role reads
abbrev pub read_by : Role → Origin
read_by (role.Load p) = origin.Register p
read_by (role.Slot s) = origin.Slot s
read_by _ = origin.Slot 0

abbrev pub read_from : Option Outline → Origin
read_from None = origin.Slot 0
read_from (Some i) = read_by i.role

abbrev pub read_at : List Outline → ℕ → Origin
read_at code k = read_from (slice_get code k)

-- the chain of the register at place u begins with what reads there
abbrev pub IsReadFrom : List Outline → ℕ → ℕ → Origin → Type 0
IsReadFrom code u c o = (first : ℕ) → Chain code 0 u c first → o ≡ read_at code first

-- this, and only this, is where an instruction of this role at place k has its pointer from
pub record IsOnlyOrigin (code : List Outline) (k : ℕ) (r : Role) (o : Origin) : Type 0 where
  pub is : IsOriginOf code k r o
  pub one : (c : ℕ) (other : Origin) → r ≡ role.Indirect c → IsOriginOf code k r other → other ≡ o

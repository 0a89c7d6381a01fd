-- The code that stands for a program: place for place, by the class of each type and by which locals are safe.
use Rattle.std.specs.Prelude.{◌≡◌, ◌↔◌, ℕ, pos, ◌+◌, List, [], ◌∷◌, length, map, if◌then◌else◌, IsTrue, Option, Some, None, slice_get, take}
use Rattle.c_types.specs.declared.ty.Ty.{Ty}
use Rattle.core_ir.specs.declared.instr.Instr.{Instr}
use Rattle.core_ir.specs.declared.program.Function.{Function}
use Rattle.core_ir.specs.declared.program.Local.{Local}
use Rattle.core_ir.specs.declared.program.Program.{Program}
use Rattle.core_ir.specs.declared.role.Role.{Role}
use Rattle.core_ir.specs.declared.role.Role.TheVariants as role
use Rattle.core_ir.specs.Flow.{Chain, HasRole, Serves}
use Rattle.core_ir.specs.Instructions.{outline_of}
use Rattle.core_ir.specs.Outline.{Outline}
use Rattle.core_ir.specs.SafeLocal.{IsAddress, IsSafeLocal}
use Rattle.sensitivity.specs.Classes.{HasClass}
use Rattle.sensitivity.specs.declared.class.Class.{Class}
use Rattle.machine.specs.declared.code.Code.{Code}
use Rattle.machine.specs.declared.code.CodeFunction.{CodeFunction}
use Rattle.machine.specs.declared.code.CodeLocal.{CodeLocal}
use Rattle.machine.specs.declared.code.CodePlace.{CodePlace}
use Rattle.machine.specs.declared.code.Origin.{Origin}
use Rattle.machine.specs.declared.code.Origin.TheVariants as origin
use Rattle.machine.specs.Decided.{decided}

-- ---- units of safe locals

abbrev pub safe_part : CodeLocal → ℕ
safe_part l = if l.safe then l.units else 0

-- the units of the safe ones among these locals
abbrev pub safe_units : List CodeLocal → ℕ
safe_units [] = 0
safe_units (l ∷ ls) = safe_part l + safe_units ls

-- The address that serves register p at place k is that of a safe local, so many units behind its first. The safe units
-- are numbered through the locals.
pub record IsUnit (code : List Outline) (locals : List CodeLocal) (k p unit : ℕ) : Type 0 where
  pub server : ℕ
  pub local : ℕ
  pub offset : ℕ
  pub l : CodeLocal
  pub serves : Serves code 0 server k p
  pub address : IsAddress code server local (pos offset)
  pub there : slice_get locals local ≡ Some l
  pub safe : IsTrue l.safe
  pub is : unit ≡ safe_units (take local locals) + offset

-- the address register of a touch, a load or a store
abbrev pub accessed : Role → Option ℕ
accessed (role.Touch p) = Some p
accessed (role.Load p) = Some p
accessed (role.Store p) = Some p
accessed _ = None

abbrev pub IsUnitOf : List Outline → List CodeLocal → ℕ → Option ℕ → Option ℕ → Type 0
IsUnitOf code locals k None unit = unit ≡ None
IsUnitOf code locals k (Some p) None = (u : ℕ) → IsUnit code locals k p u → ⊥
IsUnitOf code locals k (Some p) (Some u) = IsUnit code locals k p u

-- ---- where the pointer of an indirect call is read

-- by the first instruction of the chain that gives it
abbrev pub IsOrigin : List Outline → ℕ → Origin → Type 0
IsOrigin code first (origin.Register p) = HasRole code 0 first (role.Load p)
IsOrigin code first (origin.Slot s) = HasRole code 0 first (role.Slot s)

abbrev pub IsOriginOf : List Outline → ℕ → Role → Origin → Type 0
IsOriginOf code k (role.Indirect c) o = (first : ℕ) × Chain code 0 k c first × IsOrigin code first o
IsOriginOf code k _ o = Unit {0}

-- ---- places, functions, code

-- the code at place k of a function
pub record PlaceStands
    (program : Program) (class : Ty → Class) (f : Function) (c : CodeFunction) (k : ℕ) (i : Instr) (place : CodePlace)
    : Type 0 where
  pub unit : Option ℕ
  pub origin : Origin
  pub is_unit : IsUnitOf (map outline_of f.body) c.locals k (accessed (outline_of i).role) unit
  pub is_origin : IsOriginOf (map outline_of f.body) k (outline_of i).role origin
  pub is : place ≡ decided (record { program = program; function = f; class = class; unit = unit; origin = origin }) i

-- the code's local v
pub record LocalStands (f : Function) (v : ℕ) (l : Local) (c : CodeLocal) : Type 0 where
  pub offset : c.offset ≡ l.offset
  pub units : c.units ≡ l.units
  pub safe : IsTrue c.safe ↔ IsSafeLocal f v

pub record FunctionStands (program : Program) (class : Ty → Class) (f : Function) (c : CodeFunction) : Type 0 where
  pub type : c.ty ≡ f.ty
  pub registers : c.registers ≡ f.registers
  pub slots : c.slots ≡ f.slots
  pub frame_units : c.frame_units ≡ f.frame_units
  pub safe_units : c.safe_units ≡ safe_units c.locals
  pub local_count : length c.locals ≡ length f.locals
  pub locals :
      (v : ℕ) (l : Local) (m : CodeLocal)
      → slice_get f.locals v ≡ Some l
      → slice_get c.locals v ≡ Some m
      → LocalStands f v l m
  pub place_count : length c.body ≡ length f.body
  pub places :
      (k : ℕ) (i : Instr) (place : CodePlace)
      → slice_get f.body k ≡ Some i
      → slice_get c.body k ≡ Some place
      → PlaceStands program class f c k i place

pub record Stands (code : Code) (program : Program) : Type 0 where
  pub class : Ty → Class
  pub classes : (t : Ty) → HasClass program.structs t (class t)
  pub entry : code.entry ≡ program.entry
  pub function_count : length code.functions ≡ length program.functions
  pub functions :
      (n : ℕ) (f : Function) (c : CodeFunction)
      → slice_get program.functions n ≡ Some f
      → slice_get code.functions n ≡ Some c
      → FunctionStands program class f c

-- When code is valid: what is asked of programs without their types, and in the place of types three rules.
use Rattle.std.specs.Prelude.{◌≡◌, ◌↔◌, ℕ, suc, ◌+◌, ◌<◌, ◌≤◌, All, IsTrue, true, false, List, [], ◌∷◌, length, map, nat_lt, Option, Some, None, slice_get}
use Rattle.c_types.specs.declared.ty.FnTy.{out-FnTy}
use Rattle.core_ir.specs.declared.role.Role.TheVariants as role
use Rattle.core_ir.specs.Order.{IsWellFormed}
use Rattle.core_ir.specs.SafeLocal.{IsSafe}
use Rattle.core_ir.specs.Valid.{HasArguments, is_binary, is_unary, most_frame_units, most_functions, most_instructions, most_parameters, most_registers, most_slots}
use Rattle.sensitivity.specs.declared.class.Class.TheVariants as class
use Rattle.machine.specs.declared.code.Code.{Code}
use Rattle.machine.specs.declared.code.CodeFunction.{CodeFunction}
use Rattle.machine.specs.declared.code.CodeLocal.{CodeLocal}
use Rattle.machine.specs.declared.code.CodePlace.{CodePlace}
use Rattle.machine.specs.declared.code.CodePlace.TheVariants.{AddrG, AddrL, AddrF, Binary, Unary, Touch, Load, Store, Call, CallInd}
use Rattle.machine.specs.declared.code.ScalarKind.{ScalarKind}
use Rattle.machine.specs.Numbers.{is_kept}
use Rattle.machine.specs.Outlines.{outline_of_code}
use Rattle.machine.specs.Stands.{IsOriginOf, IsUnit, IsUnitOf, safe_units}

-- ---- locals

-- each local follows the one before, and has at least one unit
abbrev pub CodeLocalsLie : ℕ → List CodeLocal → Type 0
CodeLocalsLie at [] = Unit {0}
CodeLocalsLie at (l ∷ ls) = (l.offset ≡ at) × (1 ≤ l.units) × CodeLocalsLie (at + l.units) ls

abbrev pub code_local_units : List CodeLocal → ℕ
code_local_units [] = 0
code_local_units (l ∷ ls) = l.units + code_local_units ls

-- just those locals are marked whose address is used in no other way than for accesses inside them
abbrev pub AreMarked : CodeFunction → Type 0
AreMarked f =
    (v : ℕ) (l : CodeLocal)
    → slice_get f.locals v ≡ Some l
    → IsTrue l.safe ↔ IsSafe (map outline_of_code f.body) v l.units

-- ---- numbers in range

-- there is such a function, with one parameter for each argument
pub record CanCallCode (code : Code) (g : ℕ) (args : List ℕ) : Type 0 where
  pub callee : CodeFunction
  pub there : slice_get code.functions g ≡ Some callee
  pub arguments : HasArguments callee.ty args

-- a global's bounds lie among the globals
pub record LiesInGlobals (address units : ℕ) : Type 0 where
  pub from : 128 ≤ address
  pub to : address + units ≤ 65664

-- a local's bounds are those of the function's local
pub record IsLocalOf (f : CodeFunction) (v offset units : ℕ) : Type 0 where
  pub local : CodeLocal
  pub there : slice_get f.locals v ≡ Some local
  pub at : offset ≡ local.offset
  pub size : units ≡ local.units

abbrev pub CodeFits : Code → CodeFunction → CodePlace → Type 0
CodeFits code f (AddrG d g address units kept) = LiesInGlobals address units
CodeFits code f (AddrL d v offset units kept) = IsLocalOf f v offset units
CodeFits code f (AddrF d g) = g < length code.functions
CodeFits code f (Binary d o a b) = IsTrue (is_binary o)
CodeFits code f (Unary d o a) = IsTrue (is_unary o)
CodeFits code f (Call g args s) = CanCallCode code g args
CodeFits code f (CallInd c args t s origin) = HasArguments t args
CodeFits code f _ = Unit {0}

-- ---- accesses

-- the kind of an access's value
abbrev pub access_kind : CodePlace → Option ScalarKind
access_kind (Load d p kind unit) = Some kind
access_kind (Store p a kind unit) = Some kind
access_kind _ = None

abbrev pub IsSensitiveTouch : CodePlace → Type 0
IsSensitiveTouch (Touch p class.Sensitive marked) = Unit {0}
IsSensitiveTouch _ = ⊥

-- what goes to or comes from the safe store stands behind a touch of class Sensitive
abbrev pub TouchesAreSensitive : List CodePlace → Type 0
TouchesAreSensitive body =
    (k : ℕ) (touch access : CodePlace) (kind : ScalarKind)
    → slice_get body k ≡ Some touch
    → slice_get body (suc k) ≡ Some access
    → access_kind access ≡ Some kind
    → IsTrue (is_kept kind)
    → IsSensitiveTouch touch

-- just the touches and accesses of safe locals are marked, these with the unit at their address, and each indirect call
-- says where its pointer is read
abbrev pub SaysWhere : CodeFunction → ℕ → CodePlace → Type 0
SaysWhere f k (Touch p class true) = (u : ℕ) × IsUnit (map outline_of_code f.body) f.locals k p u
SaysWhere f k (Touch p class false) = (u : ℕ) → IsUnit (map outline_of_code f.body) f.locals k p u → ⊥
SaysWhere f k (Load d p kind unit) = IsUnitOf (map outline_of_code f.body) f.locals k (Some p) unit
SaysWhere f k (Store p a kind unit) = IsUnitOf (map outline_of_code f.body) f.locals k (Some p) unit
SaysWhere f k (CallInd c args t s origin) = IsOriginOf (map outline_of_code f.body) k (role.Indirect c) origin
SaysWhere f k _ = Unit {0}

-- ---- functions

pub record CodeIsWithinLimits (f : CodeFunction) : Type 0 where
  pub parameters : length (out-FnTy f.ty).params ≤ most_parameters
  pub parameters_have_slots : length (out-FnTy f.ty).params ≤ f.slots
  pub instructions : length f.body ≤ most_instructions
  pub registers : f.registers ≤ most_registers
  pub slots : f.slots ≤ most_slots
  pub frame_units : f.frame_units ≤ most_frame_units

pub record IsValidCodeFunction (code : Code) (f : CodeFunction) : Type 0 where
  pub within_limits : CodeIsWithinLimits f
  pub locals_lie : CodeLocalsLie 0 f.locals
  pub frame_is_its_locals : f.frame_units ≡ code_local_units f.locals
  pub safe_units_are : f.safe_units ≡ safe_units f.locals
  pub marked : AreMarked f
  pub in_range : All (CodeFits code f) f.body
  pub well_formed :
      IsWellFormed f.registers f.slots (nat_lt 0 (length f.locals)) (map outline_of_code f.body)
  pub touched : TouchesAreSensitive f.body
  pub places : (k : ℕ) (i : CodePlace) → slice_get f.body k ≡ Some i → SaysWhere f k i

-- ---- code

-- the entry function exists and has no parameters
pub record CodeHasEntry (code : Code) : Type 0 where
  pub entry : CodeFunction
  pub there : slice_get code.functions code.entry ≡ Some entry
  pub no_parameters : (out-FnTy entry.ty).params ≡ []

pub record ValidCode (code : Code) : Type 0 where
  pub few_functions : length code.functions ≤ most_functions
  pub entry : CodeHasEntry code
  pub functions : All (IsValidCodeFunction code) code.functions

-- When a program is valid: numbers in range, the order of each body, touches before their accesses, and the layout.
use Rattle.std.specs.Prelude.{◌≡◌, ◌<◌, ◌≤◌, ℕ, suc, Bool, true, false, All, List, [], length, map, nat_lt, IsTrue, Option, Some, None, slice_get}
use Rattle.c_types.specs.declared.structs.StructDef.{StructDef}
use Rattle.c_types.specs.declared.ty.FnTy.{FnTy, out-FnTy}
use Rattle.c_types.specs.declared.ty.Ty.{Ty}
use Rattle.c_types.specs.declared.ty.Ty.TheVariants as ty
use Rattle.c_types.specs.Kinds.{is_scalar}
use Rattle.c_types.specs.Sound.{IsSound, function_names_below, names_below}
use Rattle.core_ir.specs.declared.instr.Instr.{Instr}
use Rattle.core_ir.specs.declared.instr.Instr.TheVariants.{AddrG, AddrL, AddrF, Binary, Unary, Cast, Touch, Load, Store, Call, CallInd, Lock, Unlock}
use Rattle.core_ir.specs.declared.operator.Operator.{Operator}
use Rattle.core_ir.specs.declared.operator.Operator.TheVariants as op
use Rattle.core_ir.specs.declared.program.Function.{Function}
use Rattle.core_ir.specs.declared.program.Program.{Program}
use Rattle.core_ir.specs.Instructions.{outline_of, types}
use Rattle.core_ir.specs.Layout.{GlobalsLie, LocalsLie, first_address, global_units, local_units}
use Rattle.core_ir.specs.Order.{IsWellFormed}
use Rattle.core_ir.specs.Parts.{HasPart}

-- ---- numbers in range

-- the operators of one operand
abbrev pub is_unary : Operator → Bool
is_unary op.Subtract = true
is_unary op.Complement = true
is_unary op.Not = true
is_unary _ = false

-- those of two
abbrev pub is_binary : Operator → Bool
is_binary op.Complement = false
is_binary op.Not = false
is_binary _ = true

-- a call has one argument for each parameter
abbrev pub HasArguments : FnTy → List ℕ → Type 0
HasArguments f args = length args ≡ length (out-FnTy f).params

-- there is such a function, with one parameter for each argument
pub record CanCall (p : Program) (g : ℕ) (args : List ℕ) : Type 0 where
  pub callee : Function
  pub there : slice_get p.functions g ≡ Some callee
  pub arguments : HasArguments callee.ty args

-- the structs that it names are of the table
abbrev pub TypeFits : List StructDef → Ty → Type 0
TypeFits defs t = IsTrue (names_below (length defs) t)

abbrev pub FunctionTypeFits : List StructDef → FnTy → Type 0
FunctionTypeFits defs f = IsTrue (function_names_below (length defs) f)

-- what each kind of instruction asks beside its registers, slots, places and types
abbrev pub Fits : Program → Function → Instr → Type 0
Fits p f (AddrG d g) = g < length p.globals
Fits p f (AddrL d v) = v < length f.locals
Fits p f (AddrF d g) = g < length p.functions
Fits p f (Binary d o a b) = IsTrue (is_binary o)
Fits p f (Unary d o a) = IsTrue (is_unary o)
Fits p f (Cast d a from to) = IsTrue (is_scalar from) × IsTrue (is_scalar to)
Fits p f (Call g args s) = CanCall p g args
Fits p f (CallInd c args t s) = HasArguments t args × FunctionTypeFits p.structs t
Fits p f _ = Unit {0}

pub record IsInRange (p : Program) (f : Function) (i : Instr) : Type 0 where
  pub types : All (TypeFits p.structs) (types i)
  pub rest : Fits p f i

-- ---- touches

-- the type of an access
abbrev pub access_type : Instr → Option Ty
access_type (Load d p t) = Some t
access_type (Store p a t) = Some t
access_type (Lock p) = Some ty.Int
access_type (Unlock p) = Some ty.Int
access_type _ = None

-- the type of a touch
abbrev pub touch_type : Instr → Option Ty
touch_type (Touch p t) = Some t
touch_type _ = None

-- a touch's type is that of the access behind it, or has it as a part
abbrev pub TouchesFit : List StructDef → List Instr → Type 0
TouchesFit defs body =
    (k : ℕ) (touch access : Instr) (whole part : Ty)
    → slice_get body k ≡ Some touch
    → slice_get body (suc k) ≡ Some access
    → touch_type touch ≡ Some whole
    → access_type access ≡ Some part
    → HasPart defs whole part

-- ---- functions

abbrev pub most_instructions : ℕ
most_instructions = 65536

abbrev pub most_registers : ℕ
most_registers = 1024

abbrev pub most_slots : ℕ
most_slots = 1024

abbrev pub most_parameters : ℕ
most_parameters = 8

abbrev pub most_frame_units : ℕ
most_frame_units = 16384

pub record IsWithinLimits (f : Function) : Type 0 where
  pub parameters : length (out-FnTy f.ty).params ≤ most_parameters
  pub parameters_have_slots : length (out-FnTy f.ty).params ≤ f.slots
  pub instructions : length f.body ≤ most_instructions
  pub registers : f.registers ≤ most_registers
  pub slots : f.slots ≤ most_slots
  pub frame_units : f.frame_units ≤ most_frame_units

-- the frame is its locals, one behind the other
pub record IsLaidOut (defs : List StructDef) (f : Function) : Type 0 where
  pub locals_lie : LocalsLie defs 0 f.locals
  pub frame_is_its_locals : f.frame_units ≡ local_units f.locals

-- it has a frame
abbrev pub has_locals : Function → Bool
has_locals f = nat_lt 0 (length f.locals)

pub record IsValidFunction (p : Program) (f : Function) : Type 0 where
  pub within_limits : IsWithinLimits f
  pub type_fits : FunctionTypeFits p.structs f.ty
  pub laid_out : IsLaidOut p.structs f
  pub in_range : All (IsInRange p f) f.body
  pub well_formed : IsWellFormed f.registers f.slots (has_locals f) (map outline_of f.body)
  pub touched : TouchesFit p.structs f.body

-- ---- programs

-- the entry function is one of them
abbrev pub most_functions : ℕ
most_functions = 4096

abbrev pub most_structs : ℕ
most_structs = 1024

abbrev pub most_global_units : ℕ
most_global_units = 65536

-- the entry function exists and has no parameters
pub record HasEntry (p : Program) : Type 0 where
  pub entry : Function
  pub there : slice_get p.functions p.entry ≡ Some entry
  pub no_parameters : (out-FnTy entry.ty).params ≡ []

-- globals follow one another, within their limit
pub record HasGlobals (p : Program) : Type 0 where
  pub lie : GlobalsLie p.structs first_address p.globals
  pub few_units : global_units p.globals ≤ most_global_units

pub record IsValid (p : Program) : Type 0 where
  pub few_functions : length p.functions ≤ most_functions
  pub few_structs : length p.structs ≤ most_structs
  pub structs : IsSound p.structs
  pub entry : HasEntry p
  pub globals : HasGlobals p
  pub functions : All (IsValidFunction p) p.functions

-- What the types of an instruction decide: the code that stands in its place.
use Rattle.std.specs.Prelude.{ℕ, Bool, false, true, not, is_some, Option, Some, None, slice_get}
use Rattle.c_types.specs.declared.ty.Ty.{Ty, out-Ty}
use Rattle.c_types.specs.declared.ty.Ty.TheOpen.{Ty-F}
use Rattle.c_types.specs.declared.ty.Ty.TheVariants as ty
use Rattle.c_types.specs.Kinds.{Outer}
use Rattle.core_ir.specs.declared.instr.Instr.{Instr}
use Rattle.core_ir.specs.declared.instr.Instr.TheVariants.{Const, AddrG, AddrL, AddrF, GetLocal, SetLocal, Binary, Unary, PtrAdd, PtrConst, Cast, Touch, Load, Store, Jump, Branch, Call, CallInd, Return, Enter, Leave, Malloc, Free, Fork, StartArg, StartFn, Lock, Unlock, Join, Print, Input}
use Rattle.core_ir.specs.declared.program.Function.{Function}
use Rattle.core_ir.specs.declared.program.GlobalVar.{GlobalVar}
use Rattle.core_ir.specs.declared.program.Local.{Local}
use Rattle.core_ir.specs.declared.program.Program.{Program}
use Rattle.sensitivity.specs.declared.class.Class.{Class}
use Rattle.sensitivity.specs.declared.class.Class.TheVariants as class
use Rattle.machine.specs.declared.code.CodePlace.{CodePlace}
use Rattle.machine.specs.declared.code.CodePlace.TheVariants as code
use Rattle.machine.specs.declared.code.ScalarKind.{ScalarKind}
use Rattle.machine.specs.declared.code.ScalarKind.TheVariants as kind
use Rattle.machine.specs.declared.code.Origin.{Origin}

-- the kind of a pointer of this class
abbrev pub kind_of_class : Class → ScalarKind
kind_of_class class.Code = kind.Code
kind_of_class class.Regular = kind.Regular
kind_of_class _ = kind.Protected

abbrev pub kind_at : Class → Outer → ScalarKind
kind_at c (Ty-F.Pointer target) = kind_of_class c
kind_at c Ty-F.Char = kind.Char
kind_at c _ = kind.Int

abbrev pub is_regular : Class → Bool
is_regular class.Regular = true
is_regular _ = false

-- what is known of a place of a program beside its instruction
pub record Context : Type 0 where
  pub program : Program
  pub function : Function
  -- the class of each type
  pub class : Ty → Class
  -- where the address of a touch, a load or a store is that of a safe local: the unit
  pub unit : Option ℕ
  -- where the pointer of an indirect call is read
  pub origin : Origin

-- pointers to such a variable keep its bounds
abbrev pub keeps_bounds : Context → Ty → Bool
keeps_bounds x t = not (is_regular (x.class (ty.Pointer t)))

abbrev pub kind_of : Context → Ty → ScalarKind
kind_of x t = kind_at (x.class t) (out-Ty t)

abbrev pub global_code : Context → ℕ → ℕ → Option GlobalVar → CodePlace
global_code x d g None = code.AddrG d g 0 0 false
global_code x d g (Some v) = code.AddrG d g v.address v.units (keeps_bounds x v.ty)

abbrev pub local_code : Context → ℕ → ℕ → Option Local → CodePlace
local_code x d v None = code.AddrL d v 0 0 false
local_code x d v (Some l) = code.AddrL d v l.offset l.units (keeps_bounds x l.ty)

-- the code of an instruction
abbrev pub decided : Context → Instr → CodePlace
decided x (Const d v) = code.Const d v
decided x (AddrG d g) = global_code x d g (slice_get x.program.globals g)
decided x (AddrL d v) = local_code x d v (slice_get x.function.locals v)
decided x (AddrF d f) = code.AddrF d f
decided x (GetLocal d s) = code.GetLocal d s
decided x (SetLocal s a) = code.SetLocal s a
decided x (Binary d op a b) = code.Binary d op a b
decided x (Unary d op a) = code.Unary d op a
decided x (PtrAdd d p i s) = code.PtrAdd d p i s
decided x (PtrConst d p k) = code.PtrConst d p k
decided x (Cast d a from to) = code.Cast d a (kind_of x from) (kind_of x to)
decided x (Touch p t) = code.Touch p (x.class (ty.Pointer t)) (is_some x.unit)
decided x (Load d p t) = code.Load d p (kind_of x t) x.unit
decided x (Store p a t) = code.Store p a (kind_of x t) x.unit
decided x (Jump l) = code.Jump l
decided x (Branch a l) = code.Branch a l
decided x (Call f args s) = code.Call f args s
decided x (CallInd c args t s) = code.CallInd c args t s x.origin
decided x (Return a) = code.Return a
decided x Enter = code.Enter
decided x Leave = code.Leave
decided x (Malloc d a) = code.Malloc d a
decided x (Free p) = code.Free p
decided x (Fork d) = code.Fork d
decided x (StartArg t a) = code.StartArg t a
decided x (StartFn t f) = code.StartFn t f
decided x (Lock p) = code.Lock p
decided x (Unlock p) = code.Unlock p
decided x (Join t) = code.Join t
decided x (Print a) = code.Print a
decided x (Input d a) = code.Input d a

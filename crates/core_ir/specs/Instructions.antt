-- What control flow sees of each instruction, and the slots and types that it names.
use Rattle.std.specs.Prelude.{ℕ, List, [], ◌∷◌, Option, Some, None}
use Rattle.c_types.specs.declared.ty.Ty.{Ty}
use Rattle.core_ir.specs.declared.instr.Instr.{Instr}
use Rattle.core_ir.specs.declared.instr.Instr.TheVariants.{Const, AddrG, AddrL, AddrF, GetLocal, SetLocal, Binary, Unary, PtrAdd, PtrConst, Cast, Touch, Load, Store, Jump, Branch, Call, CallInd, Return, Enter, Leave, Malloc, Free, Fork, StartArg, StartFn, Lock, Unlock, Join, Print, Input}
use Rattle.core_ir.specs.Outline.{Outline}
use Rattle.core_ir.specs.declared.role.Role.{Role}
use Rattle.core_ir.specs.declared.role.Role.TheVariants as role

-- the register that it defines
abbrev pub defined : Instr → Option ℕ
defined (Const d v) = Some d
defined (AddrG d g) = Some d
defined (AddrL d v) = Some d
defined (AddrF d f) = Some d
defined (GetLocal d s) = Some d
defined (Binary d op a b) = Some d
defined (Unary d op a) = Some d
defined (PtrAdd d p i s) = Some d
defined (PtrConst d p k) = Some d
defined (Cast d a from to) = Some d
defined (Load d p ty) = Some d
defined (Malloc d a) = Some d
defined (Fork d) = Some d
defined (Input d a) = Some d
defined _ = None

abbrev pub optional : Option ℕ → List ℕ
optional None = []
optional (Some a) = a ∷ []

-- the registers that it uses, in the order of its operands
abbrev pub used : Instr → List ℕ
used (SetLocal s a) = a ∷ []
used (Binary d op a b) = a ∷ b ∷ []
used (Unary d op a) = a ∷ []
used (PtrAdd d p i s) = p ∷ i ∷ []
used (PtrConst d p k) = p ∷ []
used (Cast d a from to) = a ∷ []
used (Touch p ty) = p ∷ []
used (Load d p ty) = p ∷ []
used (Store p a ty) = p ∷ a ∷ []
used (Branch a l) = a ∷ []
used (Call f args s) = args
used (CallInd c args ty s) = c ∷ args
used (Return a) = optional a
used (Malloc d a) = a ∷ []
used (Free p) = p ∷ []
used (StartArg t a) = t ∷ a ∷ []
used (StartFn t f) = t ∷ f ∷ []
used (Lock p) = p ∷ []
used (Unlock p) = p ∷ []
used (Join t) = t ∷ []
used (Print a) = a ∷ []
used (Input d a) = a ∷ []
used _ = []

-- where it may jump
abbrev pub target : Instr → Option ℕ
target (Jump l) = Some l
target (Branch a l) = Some l
target _ = None

-- what it is to the rules on order
abbrev pub role_of : Instr → Role
role_of (Const d v) = role.Const v
role_of (AddrL d v) = role.Local v
role_of (GetLocal d s) = role.Slot s
role_of (PtrAdd d p i s) = role.Indexed p i s
role_of (PtrConst d p k) = role.Shifted p k
role_of (Cast d a from to) = role.Cast a
role_of (Touch p ty) = role.Touch p
role_of (Load d p ty) = role.Load p
role_of (Store p a ty) = role.Store p
role_of (CallInd c args ty s) = role.Indirect c
role_of (Return a) = role.Return
role_of Enter = role.Enter
role_of Leave = role.Leave
role_of (Fork d) = role.Fork
role_of (StartArg t a) = role.StartArg t
role_of (StartFn t f) = role.StartFn t f
role_of (Lock p) = role.Lock p
role_of (Unlock p) = role.Lock p
role_of _ = role.Plain

-- the slot that it reads or writes
abbrev pub slot : Instr → Option ℕ
slot (GetLocal d s) = Some s
slot (SetLocal s a) = Some s
slot (Call f args s) = s
slot (CallInd c args ty s) = s
slot _ = None

abbrev pub outline_of : Instr → Outline
outline_of i = record {
  role = role_of i;
  defined = defined i;
  used = used i;
  slot = slot i;
  target = target i;
}

-- the types that it names
abbrev pub types : Instr → List Ty
types (Cast d a from to) = from ∷ to ∷ []
types (Touch p ty) = ty ∷ []
types (Load d p ty) = ty ∷ []
types (Store p a ty) = ty ∷ []
types _ = []

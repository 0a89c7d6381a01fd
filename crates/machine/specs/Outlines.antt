-- What control flow sees of code: the same as of the instruction for which it stands.
use Rattle.std.specs.Prelude.{ℕ, List, [], ◌∷◌, Option, Some, None}
use Rattle.core_ir.specs.declared.role.Role.{Role}
use Rattle.core_ir.specs.declared.role.Role.TheVariants as role
use Rattle.core_ir.specs.Instructions.{optional}
use Rattle.core_ir.specs.Outline.{Outline}
use Rattle.machine.specs.declared.code.CodePlace.{CodePlace}
use Rattle.machine.specs.declared.code.CodePlace.TheVariants.{Const, AddrG, AddrL, AddrF, GetLocal, SetLocal, Binary, Unary, PtrAdd, PtrConst, Cast, Touch, Load, Store, Jump, Branch, Call, CallInd, Return, Enter, Leave, Malloc, Free, Fork, StartArg, StartFn, Lock, Unlock, Join, Print, Input}

-- the register that it defines
abbrev pub defined : CodePlace → Option ℕ
defined (Const d v) = Some d
defined (AddrG d g address units kept) = Some d
defined (AddrL d v offset units kept) = Some d
defined (AddrF d f) = Some d
defined (GetLocal d s) = Some d
defined (Binary d op a b) = Some d
defined (Unary d op a) = Some d
defined (PtrAdd d p i s) = Some d
defined (PtrConst d p k) = Some d
defined (Cast d a from to) = Some d
defined (Load d p kind unit) = Some d
defined (Malloc d a) = Some d
defined (Fork d) = Some d
defined (Input d a) = Some d
defined _ = None

-- the registers that it uses, in the order of its operands
abbrev pub used : CodePlace → List ℕ
used (SetLocal s a) = a ∷ []
used (Binary d op a b) = a ∷ b ∷ []
used (Unary d op a) = a ∷ []
used (PtrAdd d p i s) = p ∷ i ∷ []
used (PtrConst d p k) = p ∷ []
used (Cast d a from to) = a ∷ []
used (Touch p class marked) = p ∷ []
used (Load d p kind unit) = p ∷ []
used (Store p a kind unit) = p ∷ a ∷ []
used (Branch a l) = a ∷ []
used (Call f args s) = args
used (CallInd c args type s origin) = c ∷ args
used (Return a) = optional a
used (Malloc d a) = a ∷ []
used (Free p) = p ∷ []
used (StartArg t a) = t ∷ a ∷ []
used (StartFn t f) = t ∷ f ∷ []
used (Lock p) = p ∷ []
used (Unlock p) = p ∷ []
used (Join t) = t ∷ []
used (Print a) = a ∷ []
used (Input d a) = a ∷ []
used _ = []

-- where it may jump
abbrev pub target : CodePlace → Option ℕ
target (Jump l) = Some l
target (Branch a l) = Some l
target _ = None

-- the slot that it reads or writes
abbrev pub slot : CodePlace → Option ℕ
slot (GetLocal d s) = Some s
slot (SetLocal s a) = Some s
slot (Call f args s) = s
slot (CallInd c args type s origin) = s
slot _ = None

-- what it is to the rules on order
abbrev pub role_of : CodePlace → Role
role_of (Const d v) = role.Const v
role_of (AddrL d v offset units kept) = role.Local v
role_of (GetLocal d s) = role.Slot s
role_of (PtrAdd d p i s) = role.Indexed p i s
role_of (PtrConst d p k) = role.Shifted p k
role_of (Cast d a from to) = role.Cast a
role_of (Touch p class marked) = role.Touch p
role_of (Load d p kind unit) = role.Load p
role_of (Store p a kind unit) = role.Store p
role_of (CallInd c args type s origin) = role.Indirect c
role_of (Return a) = role.Return
role_of Enter = role.Enter
role_of Leave = role.Leave
role_of (Fork d) = role.Fork
role_of (StartArg t a) = role.StartArg t
role_of (StartFn t f) = role.StartFn t f
role_of (Lock p) = role.Lock p
role_of (Unlock p) = role.Lock p
role_of _ = role.Plain

abbrev pub outline_of_code : CodePlace → Outline
outline_of_code i = record {
  role = role_of i;
  defined = defined i;
  used = used i;
  slot = slot i;
  target = target i;
}

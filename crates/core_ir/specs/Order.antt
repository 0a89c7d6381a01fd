-- The rules on the order of a body's instructions, by their outlines. Programs and the code made of them share them.
use Rattle.std.specs.Prelude.{◌≡◌, ℕ, suc, ◌+◌, ◌<◌, Bool, true, false, List, ◌++◌, ◌∷◌, [], length, Some, IfSome}
use Rattle.core_ir.specs.declared.role.Role.{Role}
use Rattle.core_ir.specs.declared.role.Role.TheVariants as role
use Rattle.core_ir.specs.Outline.{Outline}
use Rattle.core_ir.specs.Flow.{Chain, HasRole, IsAmong, IsKept, IsUnreached, Serves, Stands, Unbroken}

-- ---- numbers in range

-- registers, slots and places are of the first so many
pub record NumbersFit (registers slots places : ℕ) (i : Outline) : Type 0 where
  pub defined : IfSome i.defined (λ d. d < registers)
  pub used : (r : ℕ) → IsAmong i.used r → r < registers
  pub slot : IfSome i.slot (λ s. s < slots)
  pub target : IfSome i.target (λ l. l < places)

-- ---- what an instruction asks of those before it

-- what serves a use, and no jump from elsewhere comes between
pub record Served (code : List Outline) (u r : ℕ) : Type 0 where
  pub server : ℕ
  pub serves : Serves code 0 server u r
  pub unbroken : Unbroken code 0 server u

-- a called register has a chain; where it begins with a load, the address stays in its register
pub record Chained (code : List Outline) (u c : ℕ) : Type 0 where
  pub first : ℕ
  pub chain : Chain code 0 u c first
  pub kept : (p : ℕ) → HasRole code 0 first (role.Load p) → IsKept code 0 first u p

-- directly behind an instruction of this role, and no jump leads here
pub record Behind (code : List Outline) (u : ℕ) (r : Role) : Type 0 where
  pub before : ℕ
  pub next : u ≡ suc before
  pub there : HasRole code 0 before r
  pub unreached : IsUnreached code 0 u

-- the new thread's number, in register t
pub record Forks (code : List Outline) (k t : ℕ) : Type 0 where
  pub instruction : Outline
  pub there : Stands code 0 k instruction
  pub is : instruction.role ≡ role.Fork
  pub defines : instruction.defined ≡ Some t

-- the run of three instructions from place k that starts thread t with function f; no jump leads to the last two
pub record IsStart (code : List Outline) (k t f : ℕ) : Type 0 where
  pub number : Forks code k t
  pub argument : HasRole code 0 (k + 1) (role.StartArg t)
  pub function : HasRole code 0 (k + 2) (role.StartFn t f)
  pub argument_unreached : IsUnreached code 0 (k + 1)
  pub function_unreached : IsUnreached code 0 (k + 2)

-- so many places behind the first of such a run
pub record InStart (code : List Outline) (u behind : ℕ) : Type 0 where
  pub first : ℕ
  pub thread : ℕ
  pub function : ℕ
  pub is : u ≡ first + behind
  pub run : IsStart code first thread function

-- the function's register is served by no thread's number, and by nothing that served one of an earlier start
pub record IsFresh (code : List Outline) (u f : ℕ) : Type 0 where
  pub no_number : (s : ℕ) → Serves code 0 s u f → HasRole code 0 s role.Fork → ⊥
  pub first_start :
      (s v t g : ℕ)
      → Serves code 0 s u f
      → v < u
      → HasRole code 0 v (role.StartFn t g)
      → Serves code 0 s v g
      → ⊥

-- what an instruction of this role at place u asks; an access stands behind the test of its address
abbrev pub RoleFits : List Outline → ℕ → Role → Type 0
RoleFits code u (role.Indirect c) = Chained code u c
RoleFits code u (role.StartArg t) = InStart code u 1
RoleFits code u (role.StartFn t f) = InStart code u 2 × IsFresh code u f
RoleFits code u (role.Load p) = Behind code u (role.Touch p)
RoleFits code u (role.Store p) = Behind code u (role.Touch p)
RoleFits code u (role.Lock p) = Behind code u (role.Touch p)
RoleFits code u _ = Unit {0}

pub record IsOrderedAt (code : List Outline) (u : ℕ) (i : Outline) : Type 0 where
  pub served : (r : ℕ) → IsAmong i.used r → Served code u r
  pub fits : RoleFits code u i.role

-- ---- bodies

-- what stands at the end
pub record EndsWith (code : List Outline) (r : Role) : Type 0 where
  pub before : List Outline
  pub last : Outline
  pub is : code ≡ before ++ last ∷ []
  pub has : last.role ≡ r

-- the order of a body
pub record IsOrdered (code : List Outline) : Type 0 where
  pub ends : EndsWith code role.Return
  pub each : (u : ℕ) (i : Outline) → Stands code 0 u i → IsOrderedAt code u i

-- a frame is entered first and nowhere else, and left directly before each return and nowhere else
abbrev pub FrameFits : List Outline → ℕ → Role → Type 0
FrameFits code u role.Enter = u ≡ 0
FrameFits code u role.Return = Behind code u role.Leave
FrameFits code u role.Leave = HasRole code 0 (suc u) role.Return
FrameFits code u _ = Unit {0}

pub record IsFramed (code : List Outline) : Type 0 where
  pub entered : HasRole code 0 0 role.Enter
  pub entry_unreached : IsUnreached code 0 0
  pub each : (u : ℕ) (i : Outline) → Stands code 0 u i → FrameFits code u i.role

-- without a frame nothing is entered or left
abbrev pub IsOutsideFrames : Role → Type 0
IsOutsideFrames role.Enter = ⊥
IsOutsideFrames role.Leave = ⊥
IsOutsideFrames _ = Unit {0}

abbrev pub IsFrameless : List Outline → Type 0
IsFrameless code = (u : ℕ) (i : Outline) → Stands code 0 u i → IsOutsideFrames i.role

-- a body with a frame enters and leaves it, and one without doesn't
abbrev pub KeepsFrame : Bool → List Outline → Type 0
KeepsFrame true code = IsFramed code
KeepsFrame false code = IsFrameless code

-- all that is asked of a body by its outlines
pub record IsWellFormed (registers slots : ℕ) (has_frame : Bool) (code : List Outline) : Type 0 where
  pub numbers :
      (u : ℕ) (i : Outline)
      → Stands code 0 u i
      → NumbersFit registers slots (length code) i
  pub ordered : IsOrdered code
  pub frame : KeepsFrame has_frame code

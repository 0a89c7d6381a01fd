-- What a place of code asks, as in a whole body, where the code begins at a place of its own. Here too the code sees
-- nothing but outlines.
use Rattle.std.specs.Prelude.{◌≡◌, ℕ, suc, ◌+◌, ◌<◌, Bool, true, false, List, Some}
use Rattle.core_ir.specs.declared.role.Role.{Role}
use Rattle.core_ir.specs.declared.role.Role.TheVariants as role
use Rattle.core_ir.specs.Outline.{Outline}
use Rattle.core_ir.specs.Flow.{Chain, HasRole, IsAmong, IsKept, IsUnreached, Serves, Stands, Unbroken}

-- what serves a use, and no jump from elsewhere comes between
pub record Served (code : List Outline) (start u r : ℕ) : Type 0 where
  pub server : ℕ
  pub serves : Serves code start server u r
  pub unbroken : Unbroken code start server u

-- a called register has a chain; where it begins with a load, the address stays in its register
pub record Chained (code : List Outline) (start u c : ℕ) : Type 0 where
  pub first : ℕ
  pub chain : Chain code start u c first
  pub kept : (p : ℕ) → HasRole code start first (role.Load p) → IsKept code start first u p

-- directly behind an instruction of this role, and no jump leads here
pub record Behind (code : List Outline) (start u : ℕ) (r : Role) : Type 0 where
  pub before : ℕ
  pub next : u ≡ suc before
  pub there : HasRole code start before r
  pub unreached : IsUnreached code start u

-- the new thread's number, in register t
pub record Forks (code : List Outline) (start k t : ℕ) : Type 0 where
  pub instruction : Outline
  pub there : Stands code start k instruction
  pub is : instruction.role ≡ role.Fork
  pub defines : instruction.defined ≡ Some t

-- the run of three instructions from place k that starts thread t with function f; no jump leads to the last two
pub record IsStart (code : List Outline) (start k t f : ℕ) : Type 0 where
  pub number : Forks code start k t
  pub argument : HasRole code start (k + 1) (role.StartArg t)
  pub function : HasRole code start (k + 2) (role.StartFn t f)
  pub argument_unreached : IsUnreached code start (k + 1)
  pub function_unreached : IsUnreached code start (k + 2)

-- so many places behind the first of such a run
pub record InStart (code : List Outline) (start u behind : ℕ) : Type 0 where
  pub first : ℕ
  pub thread : ℕ
  pub function : ℕ
  pub is : u ≡ first + behind
  pub run : IsStart code start first thread function

-- the function's register is served by no thread's number, and by nothing that served one of an earlier start
pub record IsFresh (code : List Outline) (start u f : ℕ) : Type 0 where
  pub no_number : (s : ℕ) → Serves code start s u f → HasRole code start s role.Fork → ⊥
  pub first_start :
      (s v t g : ℕ)
      → Serves code start s u f
      → v < u
      → HasRole code start v (role.StartFn t g)
      → Serves code start s v g
      → ⊥

-- what an instruction of this role at place u asks
abbrev pub RoleFits : List Outline → ℕ → ℕ → Role → Type 0
RoleFits code start u (role.Indirect c) = Chained code start u c
RoleFits code start u (role.StartArg t) = InStart code start u 1
RoleFits code start u (role.StartFn t f) = InStart code start u 2 × IsFresh code start u f
RoleFits code start u (role.Load p) = Behind code start u (role.Touch p)
RoleFits code start u (role.Store p) = Behind code start u (role.Touch p)
RoleFits code start u (role.Lock p) = Behind code start u (role.Touch p)
RoleFits code start u _ = Unit {0}

-- ---- frames

-- a frame is left directly before each return, and nowhere else
abbrev pub ReturnFits : Bool → List Outline → ℕ → ℕ → Type 0
ReturnFits true code start u = Behind code start u role.Leave
ReturnFits false code start u = Unit {0}

abbrev pub LeaveFits : Bool → List Outline → ℕ → ℕ → Type 0
LeaveFits true code start u = HasRole code start (suc u) role.Return
LeaveFits false code start u = ⊥

-- in the body of a function that has a frame or hasn't, behind the place where it is entered
abbrev pub FrameFits : Bool → List Outline → ℕ → ℕ → Role → Type 0
FrameFits frame code start u role.Enter = ⊥
FrameFits frame code start u role.Leave = LeaveFits frame code start u
FrameFits frame code start u role.Return = ReturnFits frame code start u
FrameFits frame code start u _ = Unit {0}

-- ---- a place

-- what an instruction's role names is used: the address of a load, and the function of a start
abbrev pub NamesUsed : List ℕ → Role → Type 0
NamesUsed used (role.Load p) = IsAmong used p
NamesUsed used (role.StartFn t f) = IsAmong used f
NamesUsed used _ = Unit {0}

pub record IsLinked (frame : Bool) (code : List Outline) (start u : ℕ) (i : Outline) : Type 0 where
  pub served : (r : ℕ) → IsAmong i.used r → Served code start u r
  pub fits : RoleFits code start u i.role
  pub framed : FrameFits frame code start u i.role
  pub named : NamesUsed i.used i.role

-- What a thread of valid code keeps for a store of so many slots: its values fit, its top frame is ready for its instruction,
-- and each put is paid for by two turns.
use Rattle.std.proofs.Common.{◌≡◌, ◌≢◌, ◌⊎◌, inl, inr, ℕ, ℤ, zero, suc, pos, negsuc, ◌+◌, ◌-◌, ◌*◌, ◌≤◌, ◌<◌, Bool, true, false, List, [], ◌∷◌, length, map, slice_get, Option, Some, None, refl, sym, ap, ◌∙◌, subst, arith}
use Rattle.core_ir.specs.declared.role.Role.TheVariants as role
use Rattle.core_ir.specs.Flow.{HasRole, IsAmong, Serves}
use Rattle.meaning.specs.declared.action.Action.{Action}
use Rattle.meaning.specs.declared.action.Action.TheVariants as act
use Rattle.meaning.specs.declared.value.Value.{Value}
use Rattle.machine.specs.declared.code.Code.{Code}
use Rattle.machine.specs.declared.code.CodeFunction.{CodeFunction}
use Rattle.machine.specs.declared.code.CodePlace.{CodePlace}
use Rattle.machine.specs.declared.code.CodePlace.TheVariants.{Load, Store, StartArg, StartFn}
use Rattle.machine.specs.Addresses.{slots_for}
use Rattle.machine.specs.Frames.{Frame, Thread, Waiting, Starting, Running, Ended, Stopped}
use Rattle.machine.specs.Numbers.{is_kept}
use Rattle.machine.specs.Protected.{protected}
use Rattle.machine.specs.Shapes.{number_in, register}
use Rattle.machine.specs.Threads.{place_at}
use Rattle.thread_laws.proofs.FittingFrames.{InsideWhere, IsForked}
use Rattle.thread_laws.proofs.FittingValues.{FrameFits}
use Rattle.thread_laws.proofs.Successors.{IsCall, outlines}

-- a frame's object is one that was drawn for it
abbrev pub IsDrawn : ℕ → CodeFunction → Option ℕ → Type 0
IsDrawn slots c None = ⊥
IsDrawn slots c (Some id) = (1026 ≤ id) × (id + slots_for c.frame_units ≤ slots)

-- Each function that a start of a thread uses, and that was made before this place, was made at one of these places.
pub record Covers (c : CodeFunction) (at : ℕ) (made : List ℕ) : Type 0 where
  pub each :
      (q p t g : ℕ)
      → HasRole (outlines c.body) 0 p (role.StartFn t g)
      → Serves (outlines c.body) 0 q p g
      → q < at
      → at ≤ p
      → IsAmong made q

pub record IsGood (slots : ℕ) (code : Code) (f : Frame Value) (made : List ℕ) : Type 0 where
  pub fits : FrameFits slots f
  pub registers : (c : CodeFunction) → slice_get code.functions f.function ≡ Some c → length f.registers ≡ c.registers
  pub object :
      (c : CodeFunction)
      → slice_get code.functions f.function ≡ Some c
      → 0 < length c.locals
      → 0 < f.place
      → IsDrawn slots c f.object
  pub covers : (c : CodeFunction) → slice_get code.functions f.function ≡ Some c → Covers c f.place made

-- it goes on behind a call
pub record IsBehindCall (code : Code) (f : Frame Value) : Type 0 where
  pub behind : ℕ
  pub is : f.place ≡ suc behind
  pub call : (i : CodePlace) → place_at code f.function behind ≡ Some i → IsCall i

-- what the next instruction asks of the top frame
abbrev pub IsReadyAt : Frame Value → CodePlace → Type 0
IsReadyAt f (Load d p k unit) = InsideWhere (is_kept k) unit (register protected f p)
IsReadyAt f (Store p a k unit) = InsideWhere (is_kept k) unit (register protected f p)
IsReadyAt f (StartArg t a) = IsForked (number_in protected f t)
IsReadyAt f (StartFn t g) = IsForked (number_in protected f t)
IsReadyAt f _ = Unit {0}

-- one turn is kept for the put of the next instruction
abbrev pub PaidWhere : Bool → Option ℕ → ℕ → Type 0
PaidWhere true None credit = 1 ≤ credit
PaidWhere _ _ credit = Unit {0}

abbrev pub IsPaidAt : ℕ → CodePlace → Type 0
IsPaidAt credit (Store p a k unit) = PaidWhere (is_kept k) unit credit
IsPaidAt credit (StartArg t a) = 1 ≤ credit
IsPaidAt credit _ = Unit {0}

pub record IsPrepared (code : Code) (f : Frame Value) (credit : ℕ) : Type 0 where
  pub ready : (i : CodePlace) → place_at code f.function f.place ≡ Some i → IsReadyAt f i
  pub paid : (i : CodePlace) → place_at code f.function f.place ≡ Some i → IsPaidAt credit i

-- the frames below the top one, with so many places in all
pub record IsGoodBelow (slots : ℕ) (code : Code) (f : Frame Value) (Rest : ℕ → Type 0) (count : ℕ) : Type 0 where
  pub made : List ℕ
  pub rest : ℕ
  pub counted : length made + rest ≤ count
  pub good : IsGood slots code f made
  pub behind : IsBehindCall code f
  pub others : Rest rest

abbrev pub AreGoodBelow : ℕ → Code → List (Frame Value) → ℕ → Type 0
AreGoodBelow slots code [] count = Unit {0}
AreGoodBelow slots code (f ∷ fs) count = IsGoodBelow slots code f (AreGoodBelow slots code fs) count

-- a thread that runs, behind so many puts and turns
pub record IsGoodRunning (slots : ℕ) (code : Code) (top : Frame Value) (below : List (Frame Value)) (puts turns : ℕ) : Type 0 where
  pub made : List ℕ
  pub rest : ℕ
  pub credit : ℕ
  pub good : IsGood slots code top made
  pub prepared : IsPrepared code top credit
  pub others : AreGoodBelow slots code below rest
  pub paid : 2 * puts + (credit + (length made + rest)) ≤ turns

-- a thread that has begun
abbrev pub IsGoodThread : ℕ → Code → Thread Value → ℕ → ℕ → Type 0
IsGoodThread slots code Waiting puts turns = ⊥
IsGoodThread slots code (Starting f) puts turns = puts ≡ 0
IsGoodThread slots code (Running top below) puts turns = IsGoodRunning slots code top below puts turns
IsGoodThread slots code Ended puts turns = Unit {0}
IsGoodThread slots code (Stopped why) puts turns = Unit {0}

-- it stops the thread
abbrev pub halts : Action → Bool
halts (act.Halt why) = true
halts _ = false

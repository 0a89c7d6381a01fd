-- Based on: every pointer with bounds has those of an object that was made before it, every function is one
-- whose address
-- the program takes, and the safe store is accessed at addresses that were just touched.
use Rattle.std.specs.Prelude.{◌≡◌, ◌⊎◌, ℕ, pos, true, false, ◌+◌, ◌*◌, ◌-◌, ◌<◌, ◌≤◌, List, [], ◌∷◌, ◌++◌, map, Option, Some, None, Contains, slice_get}
use Rattle.std.specs.FinMap.{get}
use Rattle.std.specs.List.{All}
use Rattle.core_ir.specs.declared.instr.Instr.TheVariants as instr
use Rattle.core_ir.specs.declared.program.Function.{Function}
use Rattle.core_ir.specs.declared.program.GlobalVar.{GlobalVar}
use Rattle.core_ir.specs.declared.program.Program.{Program}
use Rattle.meaning.specs.declared.action.Action.{Action}
use Rattle.meaning.specs.declared.action.Action.TheVariants as act
use Rattle.meaning.specs.declared.action.Reply.{Reply}
use Rattle.meaning.specs.declared.action.Reply.TheVariants as reply
use Rattle.meaning.specs.declared.event.Event.{Event}
use Rattle.meaning.specs.declared.note.Note.{Note}
use Rattle.meaning.specs.declared.value.Entry.{Entry}
use Rattle.meaning.specs.declared.value.Value.{Value}
use Rattle.meaning.specs.declared.value.Value.TheVariants.{Bare, Based, Code as CodeValue}
use Rattle.sensitivity.specs.declared.class.Class.{Class}
use Rattle.machine.specs.Addresses.{argument_address, start_address}
use Rattle.machine.specs.declared.code.Code.{Code}
use Rattle.machine.specs.declared.code.CodeFunction.{CodeFunction}
use Rattle.machine.specs.declared.code.CodeLocal.{CodeLocal}
use Rattle.machine.specs.declared.code.CodePlace.{CodePlace}
use Rattle.machine.specs.declared.code.CodePlace.TheVariants.{Touch, Load, Store as StorePlace, Enter, Malloc, StartArg, StartFn}
use Rattle.machine.specs.Frames.{Frame, Thread, Running}
use Rattle.machine.specs.Numbers.{low_word}
use Rattle.machine.specs.Protected.{protected}
use Rattle.machine.specs.Run.{Setting, Site, State, Step, Turned, happens, opening, state_after, steps_from}
use Rattle.machine.specs.Shapes.{number_in, register}
use Rattle.machine.specs.Threads.{place_at}
use Rattle.machine.specs.Transfers.{IsOthers}
use Rattle.machine.specs.Values.{value_of}

-- ---- objects

-- the bounds of an object, or of a local in a frame object, and its id
pub record Object : Type 0 where
  pub lower : ℕ
  pub upper : ℕ
  pub id : ℕ

abbrev pub local_object : ℕ → CodeLocal → Object
local_object id l = record { lower = 64 * id + l.offset; upper = 64 * id + l.offset + l.units; id = id }

abbrev pub locals_in : Option CodeFunction → List CodeLocal
locals_in None = []
locals_in (Some f) = f.locals

-- the locals of a frame object
abbrev pub frame_objects : Code → ℕ → ℕ → List Object
frame_objects code f id = map (local_object id) (locals_in (slice_get code.functions f))

abbrev pub allocated_object : Frame Value → ℕ → ℕ → Object
allocated_object top a id =
    record { lower = 64 * id; upper = 64 * id + low_word (number_in protected top a); id = id }

abbrev pub made_by : Code → Frame Value → ℕ → Option CodePlace → List Object
made_by code top id (Some Enter) = frame_objects code top.function id
made_by code top id (Some (Malloc d a)) = allocated_object top a id ∷ []
made_by code top id _ = []

abbrev pub made_in : Code → Option (Thread Value) → ℕ → List Object
made_in code (Some (Running top below)) id = made_by code top id (place_at code top.function top.place)
made_in code _ id = []

-- what a step from a state made
abbrev pub made : Code → State → Step → List Object
made code s (Turned t site (act.Alloc k) (reply.Slot (Some id)) notes) = made_in code (slice_get s.threads t) id
made code s _ = []

-- ---- what values are known

-- some global has these bounds
pub record IsGlobal (program : Program) (lower upper : ℕ) : Type 0 where
  pub global : GlobalVar
  pub there : Contains program.globals global
  pub from : lower ≡ global.address
  pub to : upper ≡ global.address + global.units

-- the program takes the address of function f
pub record IsTaken (program : Program) (f : ℕ) : Type 0 where
  pub function : Function
  pub register : ℕ
  pub there : Contains program.functions function
  pub takes : Contains function.body (instr.AddrF register f)

-- the id of all globals
abbrev pub global_id : ℕ
global_id = 2

abbrev pub IsKnown : Program → List Object → Value → Type 0
IsKnown program objects (Bare n) = Unit {0}
IsKnown program objects (Based value lower upper id) =
    ((id ≡ global_id) × IsGlobal program lower upper)
    ⊎ Contains objects (record { lower = lower; upper = upper; id = id })
IsKnown program objects (CodeValue f) = IsTaken program f

-- ---- states

pub record FrameHas (P : Value → Type 0) (f : Frame Value) : Type 0 where
  pub registers : All P f.registers
  pub slots : All P f.slots
  pub units : All P f.units

abbrev pub ThreadHas : (Frame Value → Type 0) → Thread Value → Type 0
ThreadHas P (Running top below) = P top × All P below
ThreadHas P _ = Unit {0}

-- each value of registers, slots, units of safe locals and the safe store is such
pub record HasOnly (P : Value → Type 0) (s : State) : Type 0 where
  pub frames : All (ThreadHas (FrameHas P)) s.threads
  pub entries : (a : ℕ) (e : Entry) → get s.store.entries a ≡ Some e → P (value_of e)

-- a frame with locals that stands behind its `Enter` has an object, and these are among those that were made
abbrev pub IsDrawn : Code → List Object → Frame Value → Type 0
IsDrawn code objects f =
    (l : CodeLocal)
    → Contains (locals_in (slice_get code.functions f.function)) l
    → 0 < f.place
    → (id : ℕ) × (f.object ≡ Some id) × Contains objects (local_object id l)

pub record IsBased (program : Program) (code : Code) (objects : List Object) (s : State) : Type 0 where
  pub values : HasOnly (IsKnown program objects) s
  pub frames : All (ThreadHas (IsDrawn code objects)) s.threads

-- the objects that events make, from a state on, the last first
abbrev pub all_made : Setting → State → List Event → List Object
all_made setting s [] = []
all_made setting s (e ∷ es) =
    all_made setting (happens setting s e).after es ++ made setting.code s (happens setting s e).step

-- each event keeps this, of any state that has it, with what it made
abbrev pub ValuesAreKept : Program → Setting → Type 0
ValuesAreKept program setting =
    (objects : List Object) (s : State) (e : Event)
    → IsBased program setting.code objects s
    → IsBased program setting.code (made setting.code s (happens setting s e).step ++ objects)
    (happens setting s e).after

-- ---- accesses of the safe store

-- where a thread's word stands that tells its start: the function's, and the argument's
abbrev pub IsStartWord : ℕ → ℕ → Type 0
IsStartWord t a = (a ≡ start_address t) ⊎ (a ≡ argument_address t)

-- The register has the number of a thread that there can be, and the address is that of its word.
pub record IsWordOf (word : ℕ → ℕ) (top : Frame Value) (r a : ℕ) : Type 0 where
  pub thread : ℕ
  pub number : register protected top r ≡ Bare (pos thread)
  pub few : thread < 16
  pub at : a ≡ word thread

-- the last turn of thread t in these steps
pub record IsLastTurn (before : List Step) (t : ℕ) (step : Step) : Type 0 where
  pub earlier : List Step
  pub later : List Step
  pub is : before ≡ earlier ++ step ∷ later
  pub others : All (IsOthers t) later

-- the place before, in the same frame
abbrev pub site_before : Site → Site
site_before site = record site { place = site.place - 1 }

-- The register has a pointer inside its bounds, to this address, and the thread's turn before touched it: its
-- object's id
-- wasn't ended.
pub record IsTouched (code : Code) (before : List Step) (t : ℕ) (site : Site) (top : Frame Value) (p a : ℕ)
    : Type 0 where
  pub lower : ℕ
  pub upper : ℕ
  pub id : ℕ
  pub class : Class
  pub based : register protected top p ≡ Based a lower upper id
  pub above : lower ≤ a
  pub below : a < upper
  pub touch : place_at code site.function (site.place - 1) ≡ Some (Touch p class false)
  pub looked : IsLastTurn before t (Turned t (Some (site_before site)) (act.Look id) (reply.Flag true) [])

-- by its instruction, an access of the safe store at this address is right
abbrev pub IsRightAccess : Code → List Step → ℕ → Site → Frame Value → Option CodePlace → ℕ → Type 0
IsRightAccess code before t site top (Some (Load d p kind unit)) a = IsTouched code before t site top p a
IsRightAccess code before t site top (Some (StorePlace p v kind unit)) a = IsTouched code before t site top p a
IsRightAccess code before t site top (Some (StartArg r v)) a = IsWordOf argument_address top r a
IsRightAccess code before t site top (Some (StartFn r f)) a = IsWordOf start_address top r a
IsRightAccess code before t site top _ a = ⊥

-- a thread that has no frame yet gets its own start words
abbrev pub IsRightFrom : Code → List Step → ℕ → Option Site → Option (Thread Value) → ℕ → Type 0
IsRightFrom code before t None thread a = IsStartWord t a
IsRightFrom code before t (Some site) (Some (Running top below)) a =
    IsRightAccess code before t site top (place_at code site.function site.place) a
IsRightFrom code before t (Some site) _ a = ⊥

-- the address of a get or a put
abbrev pub accesses : Action → Option ℕ
accesses (act.Get a) = Some a
accesses (act.Put a e) = Some a
accesses _ = None

-- each get and put of a run from a state is right
abbrev pub AccessesAreRight : Setting → State → List Event → Type 0
AccessesAreRight setting s events =
    (earlier later : List Event) (e : Event) (t : ℕ) (site : Option Site) (action : Action) (answer : Reply)
    (notes : List Note) (a : ℕ)
    → events ≡ earlier ++ e ∷ later
    → (happens setting (state_after setting s earlier) e).step ≡ Turned t site action answer notes
    → accesses action ≡ Some a
    → IsRightFrom setting.code (steps_from setting s earlier) t site
    (slice_get (state_after setting s earlier).threads t) a

-- ---- runs

-- Behind each event of a run, with so many threads, the values are known by the objects that were made so far,
-- and each get
-- and put is right.
pub record BasedOn (program : Program) (setting : Setting) (threads : ℕ) (events : List Event) : Type 0 where
  pub values :
      (before after : List Event)
      → events ≡ before ++ after
      → IsBased program setting.code (all_made setting (opening setting threads) before)
      (state_after setting (opening setting threads) before)
  pub accesses : AccessesAreRight setting (opening setting threads) events

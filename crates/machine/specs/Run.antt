-- Runs of the protected machine: any list of turns, corruptions and cuts, one after another.
use Rattle.std.specs.Prelude.{ℕ, ℤ, ◌-◌, ◌&&◌, if◌then◌else◌, List, [], ◌∷◌, length, replicate, Option, Some, None, slice_get, slice_set}
use Rattle.std.specs.FinMap.{insert, empty}
use Rattle.meaning.specs.declared.action.Action.{Action}
use Rattle.meaning.specs.declared.action.Reply.{Reply}
use Rattle.meaning.specs.declared.event.Event.{Event}
use Rattle.meaning.specs.declared.event.Event.TheVariants.{Turn, Corrupt, Cut}
use Rattle.meaning.specs.declared.note.Note.{Note}
use Rattle.meaning.specs.declared.value.Stop.TheVariants.{Budget}
use Rattle.meaning.specs.declared.value.Value.{Value}
use Rattle.machine.specs.declared.code.Code.{Code}
use Rattle.machine.specs.Frames.{Thread, Waiting, Running, Stopped, has_begun, is_live}
use Rattle.machine.specs.Protected.{next, protected, resume}
use Rattle.machine.specs.Store.{Memory, Store, answer, new_store, remembered, stored}
use Rattle.machine.specs.Threads.{opened}

-- where a thread stands: the depth of its top frame, and the place of its instruction
pub record Site : Type 0 where
  pub depth : ℕ
  pub function : ℕ
  pub place : ℕ

-- what one event did
pub data Step : Type 0 where
  -- a turn of a thread, which stood there or, at None, had no frame yet
  Turned : (thread : ℕ) (site : Option Site) (action : Action) (reply : Reply) (notes : List Note) → Step
  -- a corruption
  Wrote : (address : ℕ) (word : ℤ) → Step
  -- the thread was stopped with `Budget`
  CutOff : (thread : ℕ) → Step
  -- nothing
  Idle : Step

pub record State : Type 0 where
  pub store : Store
  pub memory : Memory
  -- as many as there can be
  pub threads : List (Thread Value)

-- what an event does, and the state behind it
pub record Move : Type 0 where
  pub step : Step
  pub after : State

-- what a run is of, beside its events: the code, the inputs, and how many slots there are
pub record Setting : Type 0 where
  pub code : Code
  pub inputs : List ℤ
  pub slots : ℕ

abbrev pub idles : State → Move
idles s = record { step = Idle; after = s }

abbrev pub site_of : {V : Type 0} → Thread V → Option Site
site_of (Running top below) = Some (record { depth = length below; function = top.function; place = top.place })
site_of _ = None

-- thread t's action, with what answers it
abbrev pub acts : Setting → State → ℕ → Thread Value → Action → Reply → Move
acts setting s t thread action reply =
    let told = resume setting.code t thread action reply in
    record {
      step = Turned t (site_of thread) action reply told.notes;
      after = record {
        store = stored (length s.threads) s.store action;
        memory = remembered s.memory action;
        threads = slice_set s.threads t told.thread;
      };
    }

abbrev pub takes_turn : Setting → State → ℕ → Thread Value → Move
takes_turn setting s t thread =
    let action = next setting.code t thread in
    acts setting s t thread action (answer setting.slots (length s.threads) setting.inputs s.store s.memory action)

-- a turn of a thread that there is and that is live
abbrev pub turns : Setting → State → ℕ → Option (Thread Value) → Move
turns setting s t None = idles s
turns setting s t (Some thread) = if is_live thread then takes_turn setting s t thread else idles s

-- a thread that is live and has begun stops
abbrev pub cuts : State → ℕ → Option (Thread Value) → Move
cuts s t None = idles s
cuts s t (Some thread) =
    if is_live thread && has_begun thread
    then record { step = CutOff t; after = record s { threads = slice_set s.threads t (Stopped Budget) } }
    else idles s

abbrev pub happens : Setting → State → Event → Move
happens setting s (Turn t) = turns setting s t (slice_get s.threads t)
happens setting s (Corrupt a w) = record { step = Wrote a w; after = record s { memory = insert s.memory a w } }
happens setting s (Cut t) = cuts s t (slice_get s.threads t)

-- Nothing is stored, thread 0 stands in the entry function, and the others, of so many in all, wait.
abbrev pub opening : Setting → ℕ → State
opening setting threads = record {
  store = new_store;
  memory = empty;
  threads = Running (opened protected setting.code setting.code.entry []) [] ∷ replicate (threads - 1) Waiting;
}

-- the steps of events from a state on
abbrev pub steps_from : Setting → State → List Event → List Step
steps_from setting s [] = []
steps_from setting s (e ∷ es) =
    (happens setting s e).step ∷ steps_from setting (happens setting s e).after es

-- the state behind events
abbrev pub state_after : Setting → State → List Event → State
state_after setting s [] = s
state_after setting s (e ∷ es) = state_after setting (happens setting s e).after es

-- the steps of a whole run, with so many threads
abbrev pub run : Setting → ℕ → List Event → List Step
run setting threads events = steps_from setting (opening setting threads) events

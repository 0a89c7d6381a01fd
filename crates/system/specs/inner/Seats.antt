-- What a thread does in its turn, apart from the others.
use Rattle.std.specs.Prelude.{◌≡◌, ℕ, zero, suc, Bool, ◌&&◌, List, [], ◌∷◌, ◌++◌}
use Rattle.meaning.specs.declared.action.Action.{Action}
use Rattle.meaning.specs.declared.action.Reply.{Reply}
use Rattle.meaning.specs.declared.value.Value.{Value}
use Rattle.machine.specs.declared.code.Code.{Code}
use Rattle.machine.specs.Frames.{Thread, has_begun, is_live}
use Rattle.machine.specs.Logs.{first_thread}
use Rattle.machine.specs.Protected.{next, resume}
use Rattle.machine.specs.Run.{Setting, State}
use Rattle.machine.specs.Store.{answer, remembered}
use Rattle.machine.specs.Trace.{turn_records}
use Rattle.meaning.specs.declared.record.Record.{Record}
use Rattle.meaning.specs.Records.{added_all}
use Rattle.region_seq.specs.Bounded.{behind}
use Rattle.machine.specs.Threads.{Told}
use Rattle.system.specs.declared.memories.Memories.{Memories}

-- what no event changes of them
pub record Keeps (m m' : Memories) : Type 0 where
  pub slots : m'.region.slots ≡ m.region.slots
  pub threads : m'.region.threads ≡ m.region.threads
  pub inputs : m'.inputs ≡ m.inputs

-- the threads of so many numbers before their first turns
abbrev pub first_threads : Code → ℕ → List (Thread Value)
first_threads code zero = []
first_threads code (suc n) = first_threads code n ++ first_thread code n ∷ []

-- it can be cut off
abbrev pub is_running : Thread Value → Bool
is_running thread = is_live thread && has_begun thread

-- what answers an action
abbrev pub answer_of : Memories → Action → Reply
answer_of m action = answer m.region.slots m.region.threads m.inputs m.region.store m.plain action

-- what a thread is told that asks for what it asks for
abbrev pub told_of : Code → ℕ → Thread Value → Memories → Told Value
told_of code t thread m = resume code t thread (next code t thread) (answer_of m (next code t thread))

-- these memories with threads
abbrev pub state_with : Memories → List (Thread Value) → State
state_with m threads = record { store = m.region.store; memory = m.plain; threads = threads }

abbrev pub setting_with : Code → Memories → Setting
setting_with code m = record { code = code; inputs = m.inputs; slots = m.region.slots }

-- a turn of live thread t: what it makes of the thread, the memories and the records
pub record TakesTurn (code : Code) (t : ℕ) (thread thread' : Thread Value) (m m' : Memories) (records records' : List Record) : Type 0 where
  pub told : thread' ≡ (told_of code t thread m).thread
  pub region : m'.region ≡ behind m.region (next code t thread)
  pub plain : m'.plain ≡ remembered m.plain (next code t thread)
  pub recorded : records' ≡ added_all records
      (turn_records t (next code t thread) (answer_of m (next code t thread)) (told_of code t thread m).notes)

-- The state of the definition that a system stands for, and of which code it is a system.
use Rattle.std.specs.Prelude.{◌≡◌, ℕ, ◌≤◌, length, map, Option, Some, None, slice_get}
use Rattle.meaning.specs.declared.value.Stop.TheVariants.{Budget}
use Rattle.meaning.specs.declared.value.Value.{Value}
use Rattle.machine.specs.declared.code.Code.{Code}
use Rattle.machine.specs.Frames.{Thread, Stopped}
use Rattle.machine.specs.Run.{Setting, State}
use Rattle.thread_engine.specs.Sound.{IsSound, most_slots}
use Rattle.thread_engine.specs.State.{ThreadState}
use Rattle.system.specs.declared.run.System.{System}

-- a thread, or one that was cut off
abbrev pub thread_of : Option ThreadState → Thread Value
thread_of None = Stopped Budget
thread_of (Some t) = t.thread

-- what the system stands for
abbrev pub state_of : System → State
state_of s = record {
  store = s.memories.region.store;
  memory = s.memories.plain;
  threads = map thread_of s.threads.items;
}

-- a run of this code with the system's inputs and slots
abbrev pub setting_of : Code → System → Setting
setting_of code s = record { code = code; inputs = s.memories.inputs; slots = s.memories.region.slots }

abbrev pub threads_of : System → ℕ
threads_of s = s.memories.region.threads

-- the numbers of a system are within its limits
pub record IsSystem (s : System) : Type 0 where
  pub count : threads_of s ≡ length s.threads.items
  pub few : threads_of s ≤ 16
  pub slots : s.memories.region.slots ≤ most_slots

-- thread n of this code, unless it was cut off
abbrev pub IsSeat : Code → ℕ → Option ThreadState → Type 0
IsSeat code n None = Unit {0}
IsSeat code n (Some t) = (t.number ≡ n) × IsSound code t.thread

-- a system that was opened for this code
pub record IsSystemOf (code : Code) (s : System) : Type 0 where
  pub within : IsSystem s
  pub each : (n : ℕ) (seat : Option ThreadState) → slice_get s.threads.items n ≡ Some seat → IsSeat code n seat

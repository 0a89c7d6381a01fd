-- The thread for which the engine's fields stand, what these keep, and what a turn is to give.
use Rattle.std.specs.Prelude.{◌≡◌, List, []}
use Rattle.meaning.specs.declared.note.Note.{Note}
use Rattle.meaning.specs.declared.value.Value.{Value}
use Rattle.machine.specs.Frames as model
use Rattle.machine.specs.Threads.{Told}
use Rattle.thread_engine.specs.declared.stack.Stack.{Stack}
use Rattle.thread_engine.specs.declared.state.Phase.{Phase}
use Rattle.thread_engine.specs.declared.state.Phase.TheVariants.{Waiting, Starting, Running, Ended, Stopped}
use Rattle.thread_engine.specs.declared.state.State.{State}
use Rattle.thread_engine.specs.inner.Frames.{HasRoom, top_of, below_of, frames_of, held}

abbrev pub thread_by : Phase → Stack → model.Thread Value
thread_by Waiting s = model.Waiting
thread_by (Starting f) s = model.Starting f
thread_by Running s = model.Running (top_of s) (below_of s)
thread_by Ended s = model.Ended
thread_by (Stopped why) s = model.Stopped why

abbrev pub thread_of : State → model.Thread Value
thread_of s = thread_by s.phase s.stack

-- a thread that hasn't begun has no frames below, and one that runs has counted its values
abbrev pub CountsBy : Phase → Stack → Type 0
CountsBy Running s = s.used ≡ held (frames_of s)
CountsBy Waiting s = s.below.items ≡ []
CountsBy (Starting f) s = s.below.items ≡ []
CountsBy _ s = Unit {0}

pub record IsKept (s : State) : Type 0 where
  pub room : HasRoom s.stack
  pub counts : CountsBy s.phase s.stack

-- the state and the notes are what a turn is to give
pub record Gives (s : State) (list : List Note) (told : Told Value) : Type 0 where
  pub thread : thread_of s ≡ told.thread
  pub notes : list ≡ told.notes

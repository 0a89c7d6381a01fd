-- The objects of the frames of a state.
use Rattle.std.specs.Prelude.{◌≡◌, ◌⊎◌, ℕ, ◌+◌, ◌≤◌, List, [], ◌∷◌, length, Some, slice_get}
use Rattle.meaning.specs.declared.value.Value.{Value}
use Rattle.machine.specs.Addresses.{slots_for}
use Rattle.machine.specs.declared.code.Code.{Code}
use Rattle.machine.specs.Frames.{Frame, Running, Thread}
use Rattle.machine.specs.Run.{State}
use Rattle.machine.specs.Threads.{frame_units}

-- the frames of a thread, the innermost first
abbrev pub frames_of : Thread Value → List (Frame Value)
frames_of (Running top below) = top ∷ below
frames_of _ = []

-- the frame at a depth
abbrev pub HasFrame : List (Frame Value) → ℕ → Frame Value → Type 0
HasFrame [] d f = ⊥
HasFrame (g ∷ gs) d f = ((d ≡ length gs) × (g ≡ f)) ⊎ HasFrame gs d f

-- the frame at a depth of a thread
pub record FrameIn (s : State) (t d : ℕ) (f : Frame Value) : Type 0 where
  pub thread : Thread Value
  pub there : slice_get s.threads t ≡ Some thread
  pub has : HasFrame (frames_of thread) d f

-- the slots of a frame's object
abbrev pub slots_of : Code → Frame Value → ℕ
slots_of code f = slots_for (frame_units code f.function)

-- the slots of the objects of two frames have none in common
abbrev pub ObjectsLieApart : Code → State → Type 0
ObjectsLieApart code s =
    (t u d e : ℕ) (f g : Frame Value) (id other : ℕ)
    → FrameIn s t d f
    → FrameIn s u e g
    → f.object ≡ Some id
    → g.object ≡ Some other
    → ((t ≡ u) × (d ≡ e)) ⊎ ((id + slots_of code f ≤ other) ⊎ (other + slots_of code g ≤ id))

-- The frames for which those of the engine stand.
use Rattle.std.specs.Prelude.{◌≡◌, ◌≤◌, ℕ, ◌+◌, Bool, true, false, List, [], ◌∷◌, map, reverse}
use Rattle.std.specs.Vec.{vec_capacity}
use Rattle.meaning.specs.declared.value.Value.{Value}
use Rattle.machine.specs.Frames as model
use Rattle.machine.specs.Threads.{most_frames}
use Rattle.thread_engine.specs.declared.frame.Frame.{Frame}
use Rattle.thread_engine.specs.declared.stack.Stack.{Stack}
use Rattle.thread_engine.specs.Sound.{length_of}

abbrev pub frame_of : Frame → model.Frame Value
frame_of f = record {
  function = f.function;
  place = f.place;
  registers = f.registers.items;
  slots = f.slots.items;
  units = f.units.items;
  object = f.object;
}

abbrev pub top_of : Stack → model.Frame Value
top_of s = frame_of s.top

-- the frames below the top one, from the top down
abbrev pub below_of : Stack → List (model.Frame Value)
below_of s = reverse (map frame_of s.below.items)

abbrev pub frames_of : Stack → List (model.Frame Value)
frames_of s = top_of s ∷ below_of s

-- the values of frames
abbrev pub held : List (model.Frame Value) → ℕ
held [] = 0
held (f ∷ fs) = length_of f + held fs

-- there is room for the frames of a thread
abbrev pub HasRoom : Stack → Type 0
HasRoom s = most_frames ≤ vec_capacity s.below

-- the top frame goes, if there is another below it
abbrev pub LeavesBy : Bool → Stack → Stack → Type 0
LeavesBy true old new = below_of old ≡ frames_of new
LeavesBy false old new = below_of old ≡ []

-- whether there are no frames
abbrev pub IsBottomBy : Bool → List (model.Frame Value) → Type 0
IsBottomBy true frames = frames ≡ []
IsBottomBy false [] = ⊥
IsBottomBy false (f ∷ fs) = Unit {0}

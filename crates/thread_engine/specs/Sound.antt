-- Which threads a turn may be taken of, and which answers they may be given.
use Rattle.std.specs.Prelude.{ℕ, ◌≡◌, ◌+◌, ◌≤◌, List, [], ◌∷◌, length, Some, IfSome}
use Rattle.meaning.specs.declared.action.Action.{Action}
use Rattle.meaning.specs.declared.action.Action.TheVariants as act
use Rattle.meaning.specs.declared.action.Reply.{Reply}
use Rattle.meaning.specs.declared.action.Reply.TheVariants as reply
use Rattle.meaning.specs.declared.value.Value.{Value}
use Rattle.machine.specs.declared.code.Code.{Code}
use Rattle.machine.specs.Frames.{Frame, Thread, Running}
use Rattle.machine.specs.Threads.{most_frames, most_values, size_of, values_of}

-- the greatest number of slots
abbrev pub most_slots : ℕ
most_slots = 1048576

-- the registers, slots and units of safe locals that a frame has
abbrev pub length_of : Frame Value → ℕ
length_of f = length f.registers + length f.slots + length f.units

-- it has as many values as its function asks for, and its object, if any, lies among the slots
pub record IsSoundFrame (code : Code) (f : Frame Value) : Type 0 where
  pub size : length_of f ≡ size_of code f.function
  pub object : IfSome f.object (λ id. id ≤ most_slots)

abbrev pub EachIsSound : Code → List (Frame Value) → Type 0
EachIsSound code [] = Unit {0}
EachIsSound code (f ∷ fs) = IsSoundFrame code f × EachIsSound code fs

-- frames within the limits of a thread
pub record AreSound (code : Code) (frames : List (Frame Value)) : Type 0 where
  pub each : EachIsSound code frames
  pub few : length frames ≤ most_frames
  pub small : values_of code frames ≤ most_values

-- a thread of this code, as it is opened and as each turn leaves it
abbrev pub IsSound : Code → Thread Value → Type 0
IsSound code (Running top below) = AreSound code (top ∷ below)
IsSound code _ = Unit {0}

-- the slots that answer a request for so many lie among the greatest number of them
abbrev pub LieAmongSlots : ℕ → Reply → Type 0
LieAmongSlots k (reply.Slot (Some s)) = s + k ≤ most_slots
LieAmongSlots k _ = Unit {0}

abbrev pub SlotsAreThere : Action → Reply → Type 0
SlotsAreThere (act.Alloc k) answer = LieAmongSlots k answer
SlotsAreThere _ answer = Unit {0}

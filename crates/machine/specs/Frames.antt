-- Frames and threads, over the values of a machine, and what an answered instruction does to them.
use Rattle.std.specs.Prelude.{ℕ, Bool, true, false, List, Option}
use Rattle.meaning.specs.declared.note.Place.{Place}
use Rattle.meaning.specs.declared.value.Stop.{Stop}

-- one frame of a thread
pub record Frame (V : Type 0) : Type 0 where
  pub function : ℕ
  pub place : ℕ
  pub registers : List V
  pub slots : List V
  -- the units of its safe locals, in the order of locals and offsets
  pub units : List V
  -- the id of its object, once it was drawn
  pub object : Option ℕ

pub data Thread (V : Type 0) : Type 0 where
  -- its start word wasn't found yet
  Waiting : Thread V
  -- it was found, and the argument's word wasn't
  Starting : (f : ℕ) → Thread V
  Running : (top : Frame V) (below : List (Frame V)) → Thread V
  Ended : Thread V
  Stopped : (why : Stop) → Thread V

-- it has neither ended nor stopped
abbrev pub is_live : {V : Type 0} → Thread V → Bool
is_live Ended = false
is_live (Stopped why) = false
is_live _ = true

abbrev pub has_begun : {V : Type 0} → Thread V → Bool
has_begun Waiting = false
has_begun _ = true

-- what an instruction writes in its frame
pub data Write (V : Type 0) : Type 0 where
  Nothing : Write V
  ToRegister : (d : ℕ) (v : V) → Write V
  ToSlot : (s : ℕ) (v : V) → Write V
  -- a unit of a safe local, and its address
  ToUnit : (unit at : ℕ) (v : V) → Write V
  ToObject : (id : ℕ) → Write V

-- what an answered instruction does
pub data Effect (V : Type 0) : Type 0 where
  Stops : (why : Stop) → Effect V
  Goes : (to : ℕ) (write : Write V) → Effect V
  -- a new frame of a function; an indirect call also says where its pointer was read
  Enters : (f : ℕ) (arguments : List V) (through : Option Place) → Effect V
  Leaves : (result : V) → Effect V

-- What calls open, and what the effect of an answered instruction does to its thread and tells of it.
use Rattle.std.specs.Prelude.{ℕ, suc, ◌+◌, ◌-◌, Bool, ◌&&◌, nat_lt, nat_le, List, [], ◌∷◌, ◌++◌, length, replicate, take, Option, Some, None, slice_get, slice_set}
use Rattle.c_types.specs.declared.ty.FnTy.{out-FnTy}
use Rattle.meaning.specs.declared.note.Note.{Note}
use Rattle.meaning.specs.declared.note.Note.TheVariants as note
use Rattle.meaning.specs.declared.note.Place.{Place}
use Rattle.meaning.specs.declared.value.Stop.{Stop}
use Rattle.machine.specs.Addresses.{start_address}
use Rattle.machine.specs.declared.code.Code.{Code}
use Rattle.machine.specs.declared.code.CodeFunction.{CodeFunction}
use Rattle.machine.specs.declared.code.CodePlace.{CodePlace}
use Rattle.machine.specs.declared.code.CodePlace.TheVariants.{Call, CallInd}
use Rattle.machine.specs.Domain.{Domain}
use Rattle.machine.specs.Frames.{Frame, Thread, Running, Ended, Stopped, Write, Nothing, ToRegister, ToSlot, ToUnit, ToObject, Effect, Stops, Goes, Enters, Leaves}
use Rattle.machine.specs.Shapes.{blank}

-- ---- functions of code

abbrev pub body_in : Option CodeFunction → List CodePlace
body_in None = []
body_in (Some f) = f.body

-- the instruction at a place of a function
abbrev pub place_at : Code → ℕ → ℕ → Option CodePlace
place_at code f place = slice_get (body_in (slice_get code.functions f)) place

abbrev pub units_in : Option CodeFunction → ℕ
units_in None = 0
units_in (Some f) = f.frame_units

-- the units of a function's frame object
abbrev pub frame_units : Code → ℕ → ℕ
frame_units code f = units_in (slice_get code.functions f)

abbrev pub size_in : Option CodeFunction → ℕ
size_in None = 0
size_in (Some f) = f.registers + f.slots + f.safe_units

-- the values of a frame: its registers, its slots and the units of its safe locals
abbrev pub size_of : Code → ℕ → ℕ
size_of code f = size_in (slice_get code.functions f)

-- ---- depth

abbrev pub most_frames : ℕ
most_frames = 4096

abbrev pub most_values : ℕ
most_values = 65536

abbrev pub values_of : {V : Type 0} → Code → List (Frame V) → ℕ
values_of code [] = 0
values_of code (f ∷ fs) = size_of code f.function + values_of code fs

-- a call of a function goes neither past the most frames of a thread nor past the most values
abbrev pub has_room : {V : Type 0} → Code → List (Frame V) → ℕ → Bool
has_room code frames f =
    nat_lt (length frames) most_frames && nat_le (values_of code frames + size_of code f) most_values

-- where a frame returns to, the slot that receives the result
abbrev pub result_slot_in : Option CodePlace → Option ℕ
result_slot_in (Some (Call f args s)) = s
result_slot_in (Some (CallInd c args type s origin)) = s
result_slot_in _ = None

-- the slot that receives the result of the call before the frame's place
abbrev pub result_slot : {V : Type 0} → Code → Frame V → Option ℕ
result_slot code f = result_slot_in (place_at code f.function (f.place - 1))

-- a thread behind a turn, and what the turn tells
pub record Told (V : Type 0) : Type 0 where
  pub thread : Thread V
  pub notes : List Note

abbrev pub stops : {V : Type 0} → Stop → Told V
stops why = record { thread = Stopped why; notes = note.Stopped why ∷ [] }

module _ (D : Domain) where
  -- ---- new frames

  -- an argument for each parameter, and nothing in the other slots
  abbrev pub argument_slots : CodeFunction → List D.V → List D.V
  argument_slots f arguments =
      take f.slots (take (length (out-FnTy f.ty).params) arguments ++ replicate f.slots (blank D))

  abbrev pub opened_in : Option CodeFunction → ℕ → List D.V → Frame D.V
  opened_in None f arguments =
      record { function = f; place = 0; registers = []; slots = []; units = []; object = None }
  opened_in (Some c) f arguments = record {
    function = f;
    place = 0;
    registers = replicate c.registers (blank D);
    slots = argument_slots c arguments;
    units = replicate c.safe_units (blank D);
    object = None;
  }

  -- a new frame of function f
  abbrev pub opened : Code → ℕ → List D.V → Frame D.V
  opened code f arguments = opened_in (slice_get code.functions f) f arguments

  -- ---- writes

  abbrev pub written : Write D.V → Frame D.V → Frame D.V
  written Nothing f = f
  written (ToRegister d v) f = record f { registers = slice_set f.registers d v }
  written (ToSlot s v) f = record f { slots = slice_set f.slots s v }
  written (ToUnit unit at v) f = record f { units = slice_set f.units unit v }
  written (ToObject id) f = record f { object = Some id }

  abbrev pub slot_told : ℕ → ℕ → Option ℕ → List Note
  slot_told depth s None = []
  slot_told depth s (Some f) = note.CodeSlot depth s f ∷ []

  abbrev pub unit_told : ℕ → Option ℕ → List Note
  unit_told at None = []
  unit_told at (Some f) = note.CodeOwn at f ∷ []

  -- a function that is written to a safe place of a frame of this depth
  abbrev pub write_told : ℕ → Write D.V → List Note
  write_told depth (ToSlot s v) = slot_told depth s (D.told v)
  write_told depth (ToUnit unit at v) = unit_told at (D.told v)
  write_told depth _ = []

  -- the functions among the values of slots from this one on
  abbrev pub slots_told : ℕ → ℕ → List D.V → List Note
  slots_told depth s [] = []
  slots_told depth s (v ∷ vs) = slot_told depth s (D.told v) ++ slots_told depth (suc s) vs

  -- ---- effects

  -- to a new frame of this depth, from a place
  abbrev pub transfer : ℕ → ℕ → ℕ → Option Place → Note
  transfer depth f from None = note.Call depth f from
  transfer depth f from (Some place) = note.Indirect depth f from place

  abbrev pub enters : Code → Frame D.V → List (Frame D.V) → ℕ → List D.V → Option Place → Told D.V
  enters code top below f arguments through =
      let depth = suc (length below) in
      let new = opened code f arguments in
      record {
        thread = Running new (record top { place = top.place + 1 } ∷ below);
        notes = transfer depth f top.place through ∷ slots_told depth 0 new.slots;
      }

  abbrev pub result_write : Option ℕ → D.V → Write D.V
  result_write None v = Nothing
  result_write (Some s) v = ToSlot s v

  abbrev pub leaves : Code → List (Frame D.V) → D.V → Told D.V
  leaves code [] v = record { thread = Ended; notes = note.End ∷ [] }
  leaves code (caller ∷ below) v =
      let w = result_write (result_slot code caller) v in
      record {
        thread = Running (written w caller) below;
        notes = note.Return (suc (length below)) caller.function caller.place ∷ write_told (length below) w;
      }

  abbrev pub applied : Code → Frame D.V → List (Frame D.V) → Effect D.V → Told D.V
  applied code top below (Stops why) = stops why
  applied code top below (Goes to w) = record {
    thread = Running (written w (record top { place = to })) below;
    notes = write_told (length below) w;
  }
  applied code top below (Enters f arguments through) = enters code top below f arguments through
  applied code top below (Leaves v) = leaves code below v

  -- a thread begins in a function, with one argument
  abbrev pub begins : Code → ℕ → ℕ → D.V → Told D.V
  begins code t f argument =
      let new = opened code f (argument ∷ []) in
      record { thread = Running new []; notes = note.Start f (start_address t) ∷ slots_told 0 0 new.slots }

  -- ---- effects by name

  abbrev pub goes_on : Frame D.V → Effect D.V
  goes_on f = Goes (f.place + 1) Nothing

  abbrev pub defines : Frame D.V → ℕ → D.V → Effect D.V
  defines f d v = Goes (f.place + 1) (ToRegister d v)

  abbrev pub sets : Frame D.V → ℕ → D.V → Effect D.V
  sets f s v = Goes (f.place + 1) (ToSlot s v)

  -- it stays at its place
  abbrev pub stays : Frame D.V → Effect D.V
  stays f = Goes f.place Nothing

-- A turn leaves a sound thread sound.
use Rattle.std.proofs.Common.{◌≡◌, ℕ, zero, suc, ◌+◌, ◌≤◌, ◌<◌, true, nat_lt, nat_le, List, [], ◌∷◌, length, Option, Some, None, IfSome, refl, sym, ap, ◌∙◌, subst, arith}
use Rattle.std.proofs.lemmas.Bool.{leb-true, ltb-true}
use Rattle.meaning.specs.Action.{Fits}
use Rattle.meaning.specs.declared.action.Reply.{Reply}
use Rattle.meaning.specs.declared.value.Entry.{Entry}
use Rattle.meaning.specs.declared.value.Stop.{Stop}
use Rattle.meaning.specs.declared.value.Value.{Value}
use Rattle.machine.specs.declared.code.Code.{Code}
use Rattle.machine.specs.declared.code.CodePlace.{CodePlace}
use Rattle.machine.specs.Domain.{Callee, Reaches, Refused}
use Rattle.machine.specs.Frames.{Frame, Thread, Waiting, Starting, Running, Ended, Stopped, Write, Nothing, ToRegister, ToSlot, ToUnit, ToObject, Effect, Stops, Goes, Enters, Leaves}
use Rattle.machine.specs.Logs.{first_thread}
use Rattle.machine.specs.Protected.{answered, effect_of, found_entry, next, protected, protected_callee, resume, resumed_by, shape_at, start_by, started}
use Rattle.machine.specs.Shapes.{shape_of}
use Rattle.machine.specs.Threads.{applied, has_room, leaves, opened, place_at, result_slot, result_write, size_of, Told, values_of, written}
use Rattle.machine.specs.Values.{loaded_entry}
use Rattle.core_ir.specs.Typed.{start_type}
use Rattle.machine.specs.ValidCode.{ValidCode}
use Rattle.thread_engine.specs.Sound.{AreSound, IsSound, IsSoundFrame, SlotsAreThere, most_slots}
use Rattle.thread_engine.specs.inner.Turns.{EffectFits, StepFits, halt_of}
use Rattle.thread_engine.proofs.Counts.{written_keeps_length}
use Rattle.thread_engine.proofs.Effects.{both, resume_by, resume_halted, step_fits}
use Rattle.thread_engine.proofs.Valid.{opened_function, opened_length, opened_object, sizes_are_small}

-- what is written puts no object there that isn't among the slots
abbrev pub WriteFits : Write Value → Type 0
WriteFits (ToObject id) = id ≤ most_slots
WriteFits _ = Unit {0}

written_function : (w : Write Value) (f : Frame Value) → (written protected w f).function ≡ f.function
written_function Nothing f = refl
written_function (ToRegister d v) f = refl
written_function (ToSlot s v) f = refl
written_function (ToUnit unit at v) f = refl
written_function (ToObject id) f = refl

written_object :
    (w : Write Value) (f : Frame Value)
    → WriteFits w
    → IfSome f.object (λ id. id ≤ most_slots)
    → IfSome (written protected w f).object (λ id. id ≤ most_slots)
written_object Nothing f fits low = low
written_object (ToRegister d v) f fits low = low
written_object (ToSlot s v) f fits low = low
written_object (ToUnit unit at v) f fits low = low
written_object (ToObject id) f fits low = fits

written_is_sound : (code : Code) (w : Write Value) (f : Frame Value) → WriteFits w → IsSoundFrame code f → IsSoundFrame code (written protected w f)
written_is_sound code w f fits sound = record {
  size = written_keeps_length w f ∙ sound.size ∙ ap (size_of code) (sym (written_function w f));
  object = written_object w f fits sound.object;
}

-- the top frame moves to a place, and something is written in it
pub top_is_sound :
    (code : Code) (w : Write Value) (top : Frame Value) (below : List (Frame Value)) (to : ℕ)
    → WriteFits w
    → AreSound code (top ∷ below)
    → AreSound code (written protected w (record top { place = to }) ∷ below)
top_is_sound code w top below to fits sound =
    let moved : Frame Value = record top { place = to } in
    let was : IsSoundFrame code moved = record { size = sound.each.0.size; object = sound.each.0.object } in
    let small : values_of code (top ∷ below) ≡ values_of code (written protected w moved ∷ below) =
    ap (λ (g : ℕ). size_of code g + values_of code below) (sym (written_function w moved)) in
    record {
      each = (written_is_sound code w moved fits was, sound.each.1);
      few = sound.few;
      small = omega (arith, small, sound.small);
    }

new_frame_is_sound : (code : Code) (f : ℕ) (arguments : List Value) → IsSoundFrame code (opened protected code f arguments)
new_frame_is_sound code f arguments = record {
  size = opened_length code f arguments ∙ ap (size_of code) (sym (opened_function code f arguments));
  object = subst (λ (o : Option ℕ). IfSome o (λ id. id ≤ most_slots)) (sym (opened_object code f arguments)) tt;
}

entered_is_sound :
    (code : Code) (top : Frame Value) (below : List (Frame Value)) (f : ℕ) (arguments : List Value)
    → AreSound code (top ∷ below)
    → has_room code (top ∷ below) f ≡ true
    → AreSound code (opened protected code f arguments ∷ record top { place = top.place + 1 } ∷ below)
entered_is_sound code top below f arguments sound room =
    let caller : Frame Value = record top { place = top.place + 1 } in
    let was : IsSoundFrame code caller = record { size = sound.each.0.size; object = sound.each.0.object } in
    let tests = both (nat_lt (length (top ∷ below)) 4096) (nat_le (values_of code (top ∷ below) + size_of code f) 65536) room in
    let frames : length (top ∷ below) < 4096 = ltb-true _ _ tests.0 in
    let values : values_of code (top ∷ below) + size_of code f ≤ 65536 = leb-true _ _ tests.1 in
    let size : size_of code (opened protected code f arguments).function ≡ size_of code f = ap (size_of code) (opened_function code f arguments) in
    record {
      each = (new_frame_is_sound code f arguments, (was, sound.each.1));
      few = omega (arith, frames);
      small = omega (arith, values, size);
    }

first_is_sound : (code : Code) (f : ℕ) (arguments : List Value) → ValidCode code → AreSound code (opened protected code f arguments ∷ [])
first_is_sound code f arguments valid =
    let size : size_of code (opened protected code f arguments).function ≡ size_of code f = ap (size_of code) (opened_function code f arguments) in
    record {
      each = (new_frame_is_sound code f arguments, tt);
      few = omega arith;
      small = omega (arith, size, sizes_are_small code f valid);
    }

result_fits : (s : Option ℕ) (v : Value) → WriteFits (result_write protected s v)
result_fits None v = tt
result_fits (Some s) v = tt

left_is_sound :
    (code : Code) (top : Frame Value) (below : List (Frame Value)) (v : Value)
    → AreSound code (top ∷ below)
    → IsSound code (leaves protected code below v).thread
left_is_sound code top [] v sound = tt
left_is_sound code top (caller ∷ below) v sound =
    let rest : AreSound code (caller ∷ below) = record {
      each = sound.each.1;
      few = omega (arith, sound.few);
      small = omega (arith, sound.small);
    } in
    top_is_sound code (result_write protected (result_slot code caller) v) caller below caller.place (result_fits (result_slot code caller) v) rest

goes_to : (code : Code) (frames : List (Frame Value)) (to : ℕ) (w : Write Value) → EffectFits code frames (Goes to w) → WriteFits w
goes_to code frames to Nothing fits = tt
goes_to code frames to (ToRegister d v) fits = tt
goes_to code frames to (ToSlot s v) fits = tt
goes_to code frames to (ToUnit unit at v) fits = tt
goes_to code frames to (ToObject id) fits = fits

applied_is_sound :
    (code : Code) (top : Frame Value) (below : List (Frame Value)) (e : Effect Value)
    → AreSound code (top ∷ below)
    → EffectFits code (top ∷ below) e
    → IsSound code (applied protected code top below e).thread
applied_is_sound code top below (Stops why) sound fits = tt
applied_is_sound code top below (Goes to w) sound fits = top_is_sound code w top below to (goes_to code (top ∷ below) to w fits) sound
applied_is_sound code top below (Enters f arguments through) sound fits = entered_is_sound code top below f arguments sound fits
applied_is_sound code top below (Leaves v) sound fits = left_is_sound code top below v sound

start_is_sound : (code : Code) (c : Callee) → IsSound code (start_by c).thread
start_is_sound code (Reaches f) = tt
start_is_sound code (Refused why) = tt

started_is_sound : (code : Code) (e : Option Entry) → IsSound code (started code e).thread
started_is_sound code None = tt
started_is_sound code (Some e) = start_is_sound code (protected_callee code start_type (loaded_entry (Some e)))

resumed_is_sound :
    (code : Code) (top : Frame Value) (below : List (Frame Value)) (answer : Reply) (at : Option CodePlace)
    → place_at code top.function top.place ≡ at
    → AreSound code (top ∷ below)
    → StepFits code top below answer
    → IsSound code (resumed_by code top below answer (shape_at top below at)).thread
resumed_is_sound code top below answer None is sound fits = sound
resumed_is_sound code top below answer (Some i) is sound fits =
    applied_is_sound code top below (effect_of code top answer (shape_of protected (length below) top i)) sound (fits.effect i is)

answered_is_sound :
    (code : Code) (t : ℕ) (thread : Thread Value) (answer : Reply)
    → ValidCode code
    → IsSound code thread
    → halt_of (next code t thread) ≡ None
    → Fits (next code t thread) answer
    → SlotsAreThere (next code t thread) answer
    → IsSound code (answered code t thread answer).thread
answered_is_sound code t Waiting answer valid sound goes fits there = started_is_sound code (found_entry answer)
answered_is_sound code t (Starting f) answer valid sound goes fits there = first_is_sound code f (loaded_entry (found_entry answer) ∷ []) valid
answered_is_sound code t (Running top below) answer valid sound goes fits there =
    resumed_is_sound code top below answer (place_at code top.function top.place) refl sound
    (step_fits code t top below answer valid sound goes fits there)
answered_is_sound code t Ended answer valid sound goes fits there = tt
answered_is_sound code t (Stopped why) answer valid sound goes fits there = tt

turned_by :
    (code : Code) (t : ℕ) (thread : Thread Value) (answer : Reply) (halts : Option Stop)
    → halt_of (next code t thread) ≡ halts
    → ValidCode code
    → IsSound code thread
    → Fits (next code t thread) answer
    → SlotsAreThere (next code t thread) answer
    → IsSound code (resume code t thread (next code t thread) answer).thread
turned_by code t thread answer (Some why) halts valid sound fits there =
    subst (λ (told : Told Value). IsSound code told.thread) (sym (resume_halted code t thread (next code t thread) answer why halts)) tt
turned_by code t thread answer None goes valid sound fits there =
    subst (λ (told : Told Value). IsSound code told.thread) (sym (resume_by code t thread (next code t thread) answer goes))
    (answered_is_sound code t thread answer valid sound goes fits there)

-- a turn leaves a sound thread sound
pub turns_keep_sound :
    (code : Code) (t : ℕ) (thread : Thread Value) (answer : Reply)
    → ValidCode code
    → IsSound code thread
    → Fits (next code t thread) answer
    → SlotsAreThere (next code t thread) answer
    → IsSound code (resume code t thread (next code t thread) answer).thread
turns_keep_sound code t thread answer valid sound fits there =
    turned_by code t thread answer (halt_of (next code t thread)) refl valid sound fits there

-- and so is one that was opened
pub opened_is_sound : (code : Code) (t : ℕ) → ValidCode code → IsSound code (first_thread code t)
opened_is_sound code zero valid = first_is_sound code code.entry [] valid
opened_is_sound code (suc t) valid = tt

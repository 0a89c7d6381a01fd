-- What the effect of an instruction is, where its action doesn't stop the thread and is answered.
use Rattle.std.proofs.Common.{◌≡◌, ℕ, ℤ, pos, negsuc, unwrap_or, ◌+◌, ◌*◌, ◌/◌, ◌≤◌, ◌<◌, ◌^◌, Bool, true, false, ◌&&◌, if◌then◌else◌, nat_le, List, ◌∷◌, length, Option, Some, None, IfSome, refl, ap, subst, arith}
use Rattle.std.proofs.lemmas.Bool.{leb-true}
use Rattle.meaning.specs.Action.{Fits}
use Rattle.meaning.specs.declared.action.Action.{Action}
use Rattle.meaning.specs.declared.action.Action.TheVariants as act
use Rattle.meaning.specs.declared.action.Reply.{Reply}
use Rattle.meaning.specs.declared.action.Reply.TheVariants as reply
use Rattle.meaning.specs.declared.note.Place.{Place}
use Rattle.meaning.specs.declared.value.Stop.{Stop}
use Rattle.meaning.specs.declared.value.Stop.TheVariants.{Depth}
use Rattle.meaning.specs.declared.value.Value.{Value}
use Rattle.machine.specs.declared.code.Code.{Code}
use Rattle.machine.specs.declared.code.CodeFunction.{CodeFunction}
use Rattle.machine.specs.declared.code.CodePlace.{CodePlace}
use Rattle.machine.specs.declared.code.CodePlace.TheVariants.{AddrG, AddrL, Malloc}
use Rattle.machine.specs.Domain.{Callee, Reaches, Refused}
use Rattle.machine.specs.Frames.{Frame, Thread, Running, Goes}
use Rattle.machine.specs.Numbers.{low_word}
use Rattle.machine.specs.Protected.{action_by, action_of, allocate_action, callee_action, callee_effect, call_action, drawn, effect_of, finds_zero, is_object_size, next, answered, protected, protected_callee, resume, shape_at, unit_write, unless_no}
use Rattle.machine.specs.Shapes as shape
use Rattle.machine.specs.Shapes.{Shape, number_in, object_of, shape_of}
use Rattle.machine.specs.Threads.{goes_on, has_room, place_at, stays, stops}
use Rattle.machine.specs.ValidCode.{CodeFits, IsValidCodeFunction, ValidCode}
use Rattle.thread_engine.specs.Sound.{AreSound, SlotsAreThere, most_slots}
use Rattle.thread_engine.specs.inner.Turns.{AddressesFit, EffectFits, LiesLow, StepFits, halt_of}
use Rattle.thread_engine.proofs.Valid.{at_place, locals_are_within, places_are_low, stands_in, valid_function}

pub both : (a b : Bool) → (a && b) ≡ true → (a ≡ true) × (b ≡ true)
both true b is = (refl, is)
both false b is = absurd (cc)

module _ (code : Code) (frames : List (Frame Value)) where
  room_by : (room : Bool) → halt_of (if room then act.Own else act.Halt Depth) ≡ None → room ≡ true
  room_by true goes = refl
  room_by false goes = absurd (cc)

  -- a call that isn't stopped finds room
  call_fits : (f : ℕ) → halt_of (call_action code frames f) ≡ None → has_room code frames f ≡ true
  call_fits f goes = room_by (has_room code frames f) goes

  callee_fits :
      (arguments : List Value) (through : Option Place) (callee : Callee)
      → halt_of (callee_action code frames callee) ≡ None
      → EffectFits code frames (callee_effect arguments through callee)
  callee_fits arguments through (Reaches f) goes = call_fits f goes
  callee_fits arguments through (Refused why) goes = tt

  flag_fits : (top : Frame Value) (why : Stop) (b : Bool) → EffectFits code frames (unless_no top why (reply.Flag b))
  flag_fits top why true = tt
  flag_fits top why false = tt

  answer_fits : (top : Frame Value) (why : Stop) (answer : Reply) → EffectFits code frames (unless_no top why answer)
  answer_fits top why (reply.Flag b) = flag_fits top why b
  answer_fits top why reply.Nothing = tt
  answer_fits top why (reply.Word w) = tt
  answer_fits top why (reply.Found e) = tt
  answer_fits top why (reply.Slot s) = tt
  answer_fits top why (reply.Thread n) = tt

  store_fits : (to : ℕ) (unit : Option ℕ) (p a : Value) → EffectFits code frames (Goes to (unit_write unit p a))
  store_fits to None p a = tt
  store_fits to (Some unit) p a = tt

  slot_fits : (top : Frame Value) (k : ℕ) (s : Option ℕ) → SlotsAreThere (act.Alloc k) (reply.Slot s) → EffectFits code frames (drawn top (reply.Slot s))
  slot_fits top k None there = tt
  slot_fits top k (Some s) there = omega (arith, there)

  drawn_fits : (top : Frame Value) (k : ℕ) (answer : Reply) → SlotsAreThere (act.Alloc k) answer → EffectFits code frames (drawn top answer)
  drawn_fits top k (reply.Slot s) there = slot_fits top k s there
  drawn_fits top k reply.Nothing there = tt
  drawn_fits top k (reply.Word w) there = tt
  drawn_fits top k (reply.Found e) there = tt
  drawn_fits top k (reply.Flag b) there = tt
  drawn_fits top k (reply.Thread n) there = tt

  waits_fits : (top : Frame Value) (b : Bool) → EffectFits code frames (if b then goes_on protected top else stays protected top)
  waits_fits top true = tt
  waits_fits top false = tt

  joins_fits : (top : Frame Value) (b : Bool) → EffectFits code frames (if b then stays protected top else goes_on protected top)
  joins_fits top true = tt
  joins_fits top false = tt

-- the effect of an instruction whose action doesn't stop the thread
effect_fits :
    (code : Code) (t : ℕ) (top : Frame Value) (below : List (Frame Value)) (answer : Reply) (s : Shape Value)
    → halt_of (action_of code t top below s) ≡ None
    → SlotsAreThere (action_of code t top below s) answer
    → EffectFits code (top ∷ below) (effect_of code top answer s)
effect_fits code t top below answer (shape.Defines d v) goes there = tt
effect_fits code t top below answer (shape.Sets s v) goes there = tt
effect_fits code t top below answer (shape.Goes l) goes there = tt
effect_fits code t top below answer shape.Divides goes there = tt
effect_fits code t top below answer (shape.Touches p class marked) goes there = answer_fits code (top ∷ below) top _ answer
effect_fits code t top below answer (shape.Loads d p k unit) goes there = tt
effect_fits code t top below answer (shape.Stores p a k unit) goes there = store_fits code (top ∷ below) (top.place + 1) unit p a
effect_fits code t top below answer (shape.Calls f arguments) goes there = call_fits code (top ∷ below) f goes
effect_fits code t top below answer (shape.CallsThrough c arguments type through) goes there =
    callee_fits code (top ∷ below) arguments (Some through) (protected_callee code type c) goes
effect_fits code t top below answer (shape.Returns v) goes there = tt
effect_fits code t top below answer shape.Enters goes there = drawn_fits code (top ∷ below) top _ answer there
effect_fits code t top below answer shape.Leaves goes there = tt
effect_fits code t top below answer (shape.Allocates d n) goes there = tt
effect_fits code t top below answer (shape.Frees p) goes there = answer_fits code (top ∷ below) top _ answer
effect_fits code t top below answer (shape.Forks d) goes there = tt
effect_fits code t top below answer (shape.StartsArgument n a) goes there = tt
effect_fits code t top below answer (shape.StartsFunction n f) goes there = tt
effect_fits code t top below answer (shape.Locks p) goes there = waits_fits code (top ∷ below) top (finds_zero answer)
effect_fits code t top below answer (shape.Unlocks p) goes there = tt
effect_fits code t top below answer (shape.Joins n) goes there = joins_fits code (top ∷ below) top (finds_zero answer)
effect_fits code t top below answer (shape.Prints n) goes there = tt
effect_fits code t top below answer (shape.TakesInput d n) goes there = tt

-- ---- addresses

object_low : (o : Option ℕ) → IfSome o (λ id. id ≤ most_slots) → unwrap_or o 0 ≤ 1048576
object_low None low = omega arith
object_low (Some id) low = omega (arith, low)

sized_low : (units s : ℕ) → SlotsAreThere (act.Alloc ((units + 63) / 64)) (reply.Slot (Some s)) → units ≤ 16384 → 64 * s + units < 2 ^ 32
sized_low units s there small = omega (arith, there)

-- the number of units of an object that can be allocated
size_by : (n : ℤ) → is_object_size n ≡ true → low_word n ≤ 16384
size_by (pos n) is = omega (arith, leb-true n 16384 (both (nat_le 1 n) (nat_le n 16384) is).1)
size_by (negsuc n) is = absurd (cc)

allocated_by : (n : ℤ) (s : ℕ) (is : Bool) → is_object_size n ≡ is
    → Fits (if is then act.Alloc ((low_word n + 63) / 64) else act.Own) (reply.Slot (Some s))
    → SlotsAreThere (if is then act.Alloc ((low_word n + 63) / 64) else act.Own) (reply.Slot (Some s))
    → 64 * s + low_word n < 2 ^ 32
allocated_by n s true is fits there = sized_low (low_word n) s there (size_by n is)
allocated_by n s false is fits there = absurd fits

allocated_slot : (n : ℤ) (s : Option ℕ) → Fits (allocate_action n) (reply.Slot s) → SlotsAreThere (allocate_action n) (reply.Slot s) → LiesLow (low_word n) (reply.Slot s)
allocated_slot n None fits there = tt
allocated_slot n (Some s) fits there = allocated_by n s (is_object_size n) refl fits there

allocated_low : (n : ℤ) (answer : Reply) → Fits (allocate_action n) answer → SlotsAreThere (allocate_action n) answer → LiesLow (low_word n) answer
allocated_low n (reply.Slot s) fits there = allocated_slot n s fits there
allocated_low n reply.Nothing fits there = tt
allocated_low n (reply.Word w) fits there = tt
allocated_low n (reply.Found e) fits there = tt
allocated_low n (reply.Flag b) fits there = tt
allocated_low n (reply.Thread m) fits there = tt

-- the addresses that an instruction of valid code makes are below 2^32
pub addresses_fit :
    (code : Code) (c : CodeFunction) (t : ℕ) (top : Frame Value) (below : List (Frame Value)) (answer : Reply) (i : CodePlace)
    → IsValidCodeFunction code c
    → IfSome top.object (λ id. id ≤ most_slots)
    → CodeFits code c i
    → Fits (action_of code t top below (shape_of protected (length below) top i)) answer
    → SlotsAreThere (action_of code t top below (shape_of protected (length below) top i)) answer
    → AddressesFit top i answer
addresses_fit code c t top below answer (AddrG d g address units kept) valid low fits form there = omega (arith, fits.to)
addresses_fit code c t top below answer (AddrL d v offset units kept) valid low fits form there =
    omega (arith, object_low top.object low, locals_are_within code c v fits.local valid fits.there, fits.at, fits.size)
addresses_fit code c t top below answer (Malloc d a) valid low fits form there =
    allocated_low (number_in protected top a) answer form there
addresses_fit code c t top below answer _ valid low fits form there = tt

-- ---- the turn of a thread that runs

at_instruction : (code : Code) (t : ℕ) (top : Frame Value) (below : List (Frame Value)) (i : CodePlace)
    → place_at code top.function top.place ≡ Some i
    → next code t (Running top below) ≡ action_of code t top below (shape_of protected (length below) top i)
at_instruction code t top below i at =
    ap (λ (o : Option CodePlace). action_by code t top below (shape_at top below o)) at

pub step_fits :
    (code : Code) (t : ℕ) (top : Frame Value) (below : List (Frame Value)) (answer : Reply)
    → ValidCode code
    → AreSound code (top ∷ below)
    → halt_of (next code t (Running top below)) ≡ None
    → Fits (next code t (Running top below)) answer
    → SlotsAreThere (next code t (Running top below)) answer
    → StepFits code top below answer
step_fits code t top below answer valid sound goes form there = record {
  low = λ i at. places_are_low code top.function top.place i valid at;
  addresses = λ i at.
      let s = stands_in code top.function top.place i at in
      let v = valid_function code top.function s.function valid s.there in
      let is = at_instruction code t top below i at in
      addresses_fit code s.function t top below answer i v sound.each.0.object
      (at_place (CodeFits code s.function) s.function.body top.place i v.in_range s.at)
      (subst (λ (a : Action). Fits a answer) is form)
      (subst (λ (a : Action). SlotsAreThere a answer) is there);
  effect = λ i at.
      let is = at_instruction code t top below i at in
      effect_fits code t top below answer (shape_of protected (length below) top i)
      (subst (λ (a : Action). halt_of a ≡ None) is goes)
      (subst (λ (a : Action). SlotsAreThere a answer) is there);
}

-- an action that isn't a halt is answered
pub resume_by : (code : Code) (t : ℕ) (thread : Thread Value) (action : Action) (answer : Reply)
    → halt_of action ≡ None
    → resume code t thread action answer ≡ answered code t thread answer
resume_by code t thread (act.Halt why) answer goes = absurd (cc)
resume_by code t thread act.Own answer goes = refl
resume_by code t thread (act.Load a) answer goes = refl
resume_by code t thread (act.Store a w) answer goes = refl
resume_by code t thread (act.TryLock a) answer goes = refl
resume_by code t thread (act.Get a) answer goes = refl
resume_by code t thread (act.Put a e) answer goes = refl
resume_by code t thread (act.Alloc k) answer goes = refl
resume_by code t thread (act.Free id) answer goes = refl
resume_by code t thread (act.Look id) answer goes = refl
resume_by code t thread act.Fork answer goes = refl
resume_by code t thread (act.Print n) answer goes = refl
resume_by code t thread (act.Input n) answer goes = refl

pub resume_halted : (code : Code) (t : ℕ) (thread : Thread Value) (action : Action) (answer : Reply) (why : Stop)
    → halt_of action ≡ Some why
    → resume code t thread action answer ≡ stops why
resume_halted code t thread (act.Halt why') answer why halts = let same : why' ≡ why = cc in ap stops same
resume_halted code t thread act.Own answer why halts = absurd (cc)
resume_halted code t thread (act.Load a) answer why halts = absurd (cc)
resume_halted code t thread (act.Store a w) answer why halts = absurd (cc)
resume_halted code t thread (act.TryLock a) answer why halts = absurd (cc)
resume_halted code t thread (act.Get a) answer why halts = absurd (cc)
resume_halted code t thread (act.Put a e) answer why halts = absurd (cc)
resume_halted code t thread (act.Alloc k) answer why halts = absurd (cc)
resume_halted code t thread (act.Free id) answer why halts = absurd (cc)
resume_halted code t thread (act.Look id) answer why halts = absurd (cc)
resume_halted code t thread act.Fork answer why halts = absurd (cc)
resume_halted code t thread (act.Print n) answer why halts = absurd (cc)
resume_halted code t thread (act.Input n) answer why halts = absurd (cc)

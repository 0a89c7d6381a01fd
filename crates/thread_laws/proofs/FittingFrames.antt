-- What an instruction of valid code is about fits the store where the frame's values do; so does what it asks for and what
-- its effect writes.
use Rattle.std.proofs.Common.{◌≡◌, ◌⊎◌, inl, inr, ℕ, ℤ, zero, suc, pos, negsuc, ◌+◌, ◌*◌, ◌/◌, ◌%◌, ◌≤◌, ◌<◌, ◌^◌, Bool, true, false, ◌&&◌, if◌then◌else◌, nat_eq, nat_le, nat_lt, List, [], ◌∷◌, length, map, slice_get, slice_index_or, Option, Some, None, unwrap_or, refl, sym, ap, ◌∙◌, subst, arith}
use Rattle.std.proofs.lemmas.Bool.{leb-true, ltb-true}
use Rattle.std.proofs.lemmas.Bool.Decides.{Decides-eqb}
use Rattle.meaning.specs.Action.{Fits}
use Rattle.meaning.specs.declared.action.Action.{Action}
use Rattle.meaning.specs.declared.action.Action.TheVariants as act
use Rattle.meaning.specs.declared.action.Reply.{Reply}
use Rattle.meaning.specs.declared.action.Reply.TheVariants as reply
use Rattle.meaning.specs.declared.note.Place.{Place}
use Rattle.meaning.specs.declared.value.Check.TheVariants.{BadFree, Bounds}
use Rattle.meaning.specs.declared.value.Entry.{Entry}
use Rattle.meaning.specs.declared.value.Stop.{Stop}
use Rattle.meaning.specs.declared.value.Stop.TheVariants.{Depth, Failed}
use Rattle.meaning.specs.declared.value.Value.{Value}
use Rattle.meaning.specs.declared.value.Value.TheVariants.{Bare, Based, Code as CodeValue}
use Rattle.sensitivity.specs.declared.class.Class.{Class}
use Rattle.sensitivity.specs.declared.class.Class.TheVariants as class
use Rattle.machine.specs.declared.code.Code.{Code}
use Rattle.machine.specs.declared.code.CodeFunction.{CodeFunction}
use Rattle.machine.specs.declared.code.CodePlace.{CodePlace}
use Rattle.machine.specs.declared.code.CodePlace.TheVariants.{Const, AddrG, AddrL, AddrF, GetLocal, SetLocal, Binary, Unary, PtrAdd, PtrConst, Cast, Touch, Load, Store, Jump, Branch, Call, CallInd, Return, Enter, Leave, Malloc, Free, Fork, StartArg, StartFn, Lock, Unlock, Join, Print, Input}
use Rattle.machine.specs.declared.code.ScalarKind.{ScalarKind}
use Rattle.machine.specs.Addresses.{done_address, slots_for}
use Rattle.machine.specs.Domain.{Callee, Reaches, Refused}
use Rattle.machine.specs.Frames.{Effect, Enters, Frame, Goes, Leaves, Stops}
use Rattle.machine.specs.Lanes.{ActionFits, AnswerFits, EntryFits, NumberFits, SlotFits}
use Rattle.machine.specs.Numbers.{computed, is_kept, low_word, span}
use Rattle.machine.specs.Protected.{action_of, allocate_action, allocated, callee_action, callee_effect, call_action, drawn, effect_of, finds_zero, free_action, is_no_thread, is_object_size, is_thread_number, join_action, load_action, load_value, look_inside, new_thread, protected, protected_callee, return_action, start_action, store_action, touch_action, unit_value, unit_write, unless_no, unless_unit}
use Rattle.machine.specs.Shapes as shape
use Rattle.machine.specs.Shapes.{Shape, defines_number, number_in, object_of, register, result_in, shape_of, slot}
use Rattle.machine.specs.Threads.{frame_units, goes_on, has_room, stays}
use Rattle.machine.specs.ValidCode.{CodeFits}
use Rattle.machine.specs.Values.{address_of, entry_of, number_of, object_address}
use Rattle.thread_laws.proofs.Bodies.{both}
use Rattle.thread_laws.proofs.FittingValues.{Each, FrameFits, ValueFits, WriteHas, all_read, arguments_fit, cast_fits, entry_fits, loaded_fits, moved_fits, object_fits, register_fits, unit_load_fits}

-- what a shape has fits
abbrev pub ShapeFits : ℕ → Shape Value → Type 0
ShapeFits slots (shape.Defines d v) = ValueFits slots v
ShapeFits slots (shape.Sets s v) = ValueFits slots v
ShapeFits slots (shape.Touches p class marked) = ValueFits slots p
ShapeFits slots (shape.Loads d p k unit) = ValueFits slots p
ShapeFits slots (shape.Stores p a k unit) = ValueFits slots p × ValueFits slots a
ShapeFits slots (shape.Calls f arguments) = Each (ValueFits slots) arguments
ShapeFits slots (shape.CallsThrough c arguments type through) = Each (ValueFits slots) arguments
ShapeFits slots (shape.Returns v) = ValueFits slots v
ShapeFits slots (shape.Frees p) = ValueFits slots p
ShapeFits slots (shape.StartsArgument n a) = ValueFits slots a
ShapeFits slots (shape.StartsFunction n f) = ValueFits slots f
ShapeFits slots _ = Unit {0}

-- a pointer inside its bounds
abbrev pub IsInside : Value → Type 0
IsInside (Based value lower upper id) = (lower ≤ value) × (value < upper)
IsInside _ = ⊥

-- the number of a thread above 0, or none
abbrev pub IsForked : ℤ → Type 0
IsForked (pos n) = (1 ≤ n) × (n ≤ 15)
IsForked (negsuc n) = n ≡ 0

abbrev pub InsideWhere : Bool → Option ℕ → Value → Type 0
InsideWhere true None p = IsInside p
InsideWhere _ _ p = Unit {0}

module _ (slots : ℕ) (few : slots ≤ 1048576) (enough : 1026 ≤ slots) where
  -- an object of the frame's locals is there where a local's address is made
  abbrev pub ObjectFits : Frame Value → CodePlace → Type 0
  ObjectFits f (AddrL d v offset units kept) =
      (64 * object_of protected f + (offset + units) ≤ 64 * slots)
      × (1026 ≤ object_of protected f) × (object_of protected f < slots)
  ObjectFits f _ = Unit {0}

  numbers_fit : (d : ℕ) (n : Option ℤ) → ShapeFits slots (defines_number protected d n)
  numbers_fit d None = tt
  numbers_fit d (Some n) = tt

  result_fits : (f : Frame Value) (a : Option ℕ) → FrameFits slots f → ValueFits slots (result_in protected f a)
  result_fits f None fits = tt
  result_fits f (Some a) fits = register_fits slots f a fits

  -- so is what each instruction is about
  pub shape_fits :
      (code : Code) (c : CodeFunction) (depth : ℕ) (f : Frame Value) (i : CodePlace)
      → length code.functions ≤ 4096
      → CodeFits code c i
      → ObjectFits f i
      → FrameFits slots f
      → ShapeFits slots (shape_of protected depth f i)
  shape_fits code c depth f (Const d v) most in_range object fits = tt
  shape_fits code c depth f (AddrG d g address units kept) most in_range object fits =
      object_fits slots address units 2 kept (omega (arith, in_range.to)) few (omega arith) (omega arith)
  shape_fits code c depth f (AddrL d v offset units kept) most in_range object fits =
      object_fits slots (64 * object_of protected f + offset) units (object_of protected f) kept
      (omega (arith, object.0)) few (omega (arith, object.1)) object.2
  shape_fits code c depth f (AddrF d g) most in_range object fits = omega arith
  shape_fits code c depth f (GetLocal d s) most in_range object fits = all_read (ValueFits slots) f.slots s (Bare (pos 0)) fits.slots_fit tt
  shape_fits code c depth f (SetLocal s a) most in_range object fits = register_fits slots f a fits
  shape_fits code c depth f (Binary d op a b) most in_range object fits =
      numbers_fit d (computed op (number_in protected f a) (number_in protected f b))
  shape_fits code c depth f (Unary d op a) most in_range object fits = tt
  shape_fits code c depth f (PtrAdd d p i s) most in_range object fits =
      moved_fits slots (register protected f p) (span (number_in protected f i) s) (register_fits slots f p fits)
  shape_fits code c depth f (PtrConst d p k) most in_range object fits =
      moved_fits slots (register protected f p) k (register_fits slots f p fits)
  shape_fits code c depth f (Cast d a from to) most in_range object fits =
      cast_fits slots from to (register protected f a) (register_fits slots f a fits)
  shape_fits code c depth f (Touch p class marked) most in_range object fits = register_fits slots f p fits
  shape_fits code c depth f (Load d p k unit) most in_range object fits = register_fits slots f p fits
  shape_fits code c depth f (Store p a k unit) most in_range object fits = (register_fits slots f p fits, register_fits slots f a fits)
  shape_fits code c depth f (Jump l) most in_range object fits = tt
  shape_fits code c depth f (Branch a l) most in_range object fits = tt
  shape_fits code c depth f (Call g args s) most in_range object fits = arguments_fit slots f args fits
  shape_fits code c depth f (CallInd g args type s o) most in_range object fits = arguments_fit slots f args fits
  shape_fits code c depth f (Return a) most in_range object fits = result_fits f a fits
  shape_fits code c depth f Enter most in_range object fits = tt
  shape_fits code c depth f Leave most in_range object fits = tt
  shape_fits code c depth f (Malloc d a) most in_range object fits = tt
  shape_fits code c depth f (Free p) most in_range object fits = register_fits slots f p fits
  shape_fits code c depth f (Fork d) most in_range object fits = tt
  shape_fits code c depth f (StartArg t a) most in_range object fits = register_fits slots f a fits
  shape_fits code c depth f (StartFn t g) most in_range object fits = register_fits slots f g fits
  shape_fits code c depth f (Lock p) most in_range object fits = tt
  shape_fits code c depth f (Unlock p) most in_range object fits = tt
  shape_fits code c depth f (Join t) most in_range object fits = tt
  shape_fits code c depth f (Print a) most in_range object fits = tt
  shape_fits code c depth f (Input d a) most in_range object fits = tt

  -- ---- what is asked for

  -- what else a shape's action needs
  abbrev pub IsReady : Code → Frame Value → Shape Value → Type 0
  IsReady code f (shape.Loads d p k unit) = InsideWhere (is_kept k) unit p
  IsReady code f (shape.Stores p a k unit) = InsideWhere (is_kept k) unit p
  IsReady code f (shape.StartsArgument n a) = IsForked n
  IsReady code f (shape.StartsFunction n g) = IsForked n
  IsReady code f shape.Enters = (1 ≤ frame_units code f.function) × (frame_units code f.function ≤ 16384)
  IsReady code f shape.Leaves = (1026 ≤ object_of protected f) × (object_of protected f < slots)
  IsReady code f _ = Unit {0}

  address_inside : (p : Value) → IsInside p → ValueFits slots p → address_of p < 64 * slots
  address_inside (Bare n) inside fits = absurd inside
  address_inside (Based value lower upper id) inside fits = omega (arith, inside.1, fits.1)
  address_inside (CodeValue f) inside fits = absurd inside

  look_fits : (value lower upper id : ℕ) (inside : Bool) → id < slots
      → ActionFits slots (if inside then act.Look id else act.Halt (Failed Bounds))
  look_fits value lower upper id true low = low
  look_fits value lower upper id false low = tt

  touch_fits : (class : Class) (p : Value) → ValueFits slots p → ActionFits slots (touch_action class p)
  touch_fits class.Sensitive (Based value lower upper id) fits = look_fits value lower upper id (nat_le lower value && nat_lt value upper) fits.3
  touch_fits class.Sensitive (Bare n) fits = tt
  touch_fits class.Sensitive (CodeValue f) fits = tt
  touch_fits class.Universal (Based value lower upper id) fits = look_fits value lower upper id (nat_le lower value && nat_lt value upper) fits.3
  touch_fits class.Universal (Bare n) fits = tt
  touch_fits class.Universal (CodeValue f) fits = tt
  touch_fits class.Code p fits = tt
  touch_fits class.Regular p fits = tt

  marked_fits : (marked : Bool) (class : Class) (p : Value) → ValueFits slots p → ActionFits slots (if marked then act.Own else touch_action class p)
  marked_fits true class p fits = tt
  marked_fits false class p fits = touch_fits class p fits

  load_fits : (kept : Bool) (unit : Option ℕ) (p : Value) → InsideWhere kept unit p → ValueFits slots p
      → ActionFits slots (unless_unit unit (if kept then act.Get (address_of p) else act.Load (address_of p)))
  load_fits true None p inside fits = address_inside p inside fits
  load_fits true (Some u) p inside fits = tt
  load_fits false None p inside fits = tt
  load_fits false (Some u) p inside fits = tt

  store_fits : (kept : Bool) (unit : Option ℕ) (p a : Value) → InsideWhere kept unit p → ValueFits slots p → ValueFits slots a
      → ActionFits slots (unless_unit unit (if kept then act.Put (address_of p) (entry_of a) else act.Store (address_of p) (number_of a)))
  store_fits true None p a inside fits value = (address_inside p inside fits, entry_fits slots a value)
  store_fits true (Some u) p a inside fits value = tt
  store_fits false None p a inside fits value = tt
  store_fits false (Some u) p a inside fits value = tt

  room_fits : (room : Bool) → ActionFits slots (if room then act.Own else act.Halt Depth)
  room_fits true = tt
  room_fits false = tt

  callee_asks : (code : Code) (frames : List (Frame Value)) (c : Callee) → ActionFits slots (callee_action code frames c)
  callee_asks code frames (Reaches f) = room_fits (has_room code frames f)
  callee_asks code frames (Refused why) = tt

  return_fits : (t : ℕ) (below : List (Frame Value)) → ActionFits slots (return_action t below)
  return_fits t [] = tt
  return_fits t (caller ∷ below) = tt

  sized_fits : (n : ℤ) (is : Bool) → is_object_size n ≡ is → ActionFits slots (if is then act.Alloc (slots_for (low_word n)) else act.Own)
  sized_fits (pos n) true is =
      let tests = both (nat_le 1 n) (nat_le n 16384) is in
      (omega (arith, leb-true 1 n tests.0, leb-true n 16384 tests.1), omega (arith, leb-true 1 n tests.0, leb-true n 16384 tests.1))
  sized_fits (negsuc n) true is = absurd (cc)
  sized_fits n false is = tt

  based_free_fits : (id : ℕ) (is : Bool) (first from : Bool) → (first && from) ≡ is → from ≡ nat_le 1026 id → id < slots
      → ActionFits slots (if is then act.Free id else act.Halt (Failed BadFree))
  based_free_fits id true first from is names low = (leb-true 1026 id (sym names ∙ (both first from is).1), low)
  based_free_fits id false first from is names low = tt

  free_fits : (p : Value) → ValueFits slots p → ActionFits slots (free_action p)
  free_fits (Bare n) fits = tt
  free_fits (Based value lower upper id) fits =
      based_free_fits id (nat_eq value lower && nat_le 1026 id) (nat_eq value lower) (nat_le 1026 id) refl refl fits.3
  free_fits (CodeValue f) fits = tt

  start_fits : (first : ℕ) (n : ℤ) (v : Value) → first ≤ 65 → IsForked n → ValueFits slots v → ActionFits slots (start_action first n v)
  start_fits first (pos n) v low forked fits = (omega (arith, forked.0, forked.1), entry_fits slots v fits)
  start_fits first (negsuc zero) v low forked fits = tt
  start_fits first (negsuc (suc n)) v low forked fits = absurd (omega (arith, forked))

  join_fits : (n : ℤ) (is : Bool) → ActionFits slots (if is then act.Load (done_address (low_word n)) else act.Own)
  join_fits n true = tt
  join_fits n false = tt

  -- what an instruction asks for fits
  pub action_fits :
      (code : Code) (t : ℕ) (top : Frame Value) (below : List (Frame Value)) (s : Shape Value)
      → ShapeFits slots s
      → IsReady code top s
      → ActionFits slots (action_of code t top below s)
  action_fits code t top below (shape.Defines d v) fits ready = tt
  action_fits code t top below (shape.Sets s v) fits ready = tt
  action_fits code t top below (shape.Goes l) fits ready = tt
  action_fits code t top below shape.Divides fits ready = tt
  action_fits code t top below (shape.Touches p class marked) fits ready = marked_fits marked class p fits
  action_fits code t top below (shape.Loads d p k unit) fits ready = load_fits (is_kept k) unit p ready fits
  action_fits code t top below (shape.Stores p a k unit) fits ready = store_fits (is_kept k) unit p a ready fits.0 fits.1
  action_fits code t top below (shape.Calls f arguments) fits ready = room_fits (has_room code (top ∷ below) f)
  action_fits code t top below (shape.CallsThrough c arguments type through) fits ready = callee_asks code (top ∷ below) (protected_callee code type c)
  action_fits code t top below (shape.Returns v) fits ready = return_fits t below
  action_fits code t top below shape.Enters fits ready = (omega (arith, ready.0), omega (arith, ready.1))
  action_fits code t top below shape.Leaves fits ready = ready
  action_fits code t top below (shape.Allocates d n) fits ready = sized_fits n (is_object_size n) refl
  action_fits code t top below (shape.Frees p) fits ready = free_fits p fits
  action_fits code t top below (shape.Forks d) fits ready = tt
  action_fits code t top below (shape.StartsArgument n a) fits ready = start_fits 65 n a (omega arith) ready fits
  action_fits code t top below (shape.StartsFunction n f) fits ready = start_fits 64 n f (omega arith) ready fits
  action_fits code t top below (shape.Locks p) fits ready = tt
  action_fits code t top below (shape.Unlocks p) fits ready = tt
  action_fits code t top below (shape.Joins n) fits ready = join_fits n (is_thread_number n)
  action_fits code t top below (shape.Prints n) fits ready = tt
  action_fits code t top below (shape.TakesInput d n) fits ready = tt

  -- ---- what an effect has

  abbrev pub EffectHas : ℕ → Effect Value → Type 0
  EffectHas k (Stops why) = Unit {0}
  EffectHas k (Goes to w) = WriteHas slots k w
  EffectHas k (Enters f arguments through) = Each (ValueFits slots) arguments
  EffectHas k (Leaves v) = ValueFits slots v

  flag_has : (k : ℕ) (top : Frame Value) (why : Stop) (b : Bool) → EffectHas k (unless_no top why (reply.Flag b))
  flag_has k top why true = tt
  flag_has k top why false = tt

  answer_has : (k : ℕ) (top : Frame Value) (why : Stop) (answer : Reply) → EffectHas k (unless_no top why answer)
  answer_has k top why (reply.Flag b) = flag_has k top why b
  answer_has k top why reply.Nothing = tt
  answer_has k top why (reply.Word w) = tt
  answer_has k top why (reply.Found e) = tt
  answer_has k top why (reply.Slot s) = tt
  answer_has k top why (reply.Thread n) = tt

  unit_value_fits : (top : Frame Value) (unit : Option ℕ) → FrameFits slots top → ValueFits slots (unit_value top unit)
  unit_value_fits top None fits = tt
  unit_value_fits top (Some u) fits = all_read (ValueFits slots) top.units u (Bare (pos 0)) fits.units tt

  -- what answers a load fits where it is an entry
  load_has : (top : Frame Value) (k : ScalarKind) (kept : Bool) (unit : Option ℕ) (p : Value) (answer : Reply)
      → FrameFits slots top
      → Fits (unless_unit unit (if kept then act.Get (address_of p) else act.Load (address_of p))) answer
      → AnswerFits slots (unless_unit unit (if kept then act.Get (address_of p) else act.Load (address_of p)), answer)
      → ValueFits slots (load_value top k unit answer)
  load_has top k kept unit p (reply.Word w) frame form fits = tt
  load_has top k true None p (reply.Found e) frame form fits = loaded_fits slots e fits
  load_has top k true (Some u) p (reply.Found e) frame form fits = absurd form
  load_has top k false None p (reply.Found e) frame form fits = absurd form
  load_has top k false (Some u) p (reply.Found e) frame form fits = absurd form
  load_has top k kept unit p reply.Nothing frame form fits = unit_load_fits slots k (unit_value top unit) (unit_value_fits top unit frame)
  load_has top k kept unit p (reply.Slot s) frame form fits = unit_load_fits slots k (unit_value top unit) (unit_value_fits top unit frame)
  load_has top k kept unit p (reply.Flag b) frame form fits = unit_load_fits slots k (unit_value top unit) (unit_value_fits top unit frame)
  load_has top k kept unit p (reply.Thread n) frame form fits = unit_load_fits slots k (unit_value top unit) (unit_value_fits top unit frame)

  store_has : (k to : ℕ) (unit : Option ℕ) (p a : Value) → ValueFits slots a → EffectHas k (Goes to (unit_write unit p a))
  store_has k to None p a fits = tt
  store_has k to (Some u) p a fits = fits

  callee_has : (k : ℕ) (arguments : List Value) (through : Option Place) (c : Callee) → Each (ValueFits slots) arguments → EffectHas k (callee_effect arguments through c)
  callee_has k arguments through (Reaches f) fit = fit
  callee_has k arguments through (Refused why) fit = tt

  drawn_has : (k : ℕ) (top : Frame Value) (answer : Reply) → AnswerFits slots (act.Alloc k, answer) → EffectHas k (drawn top answer)
  drawn_has k top (reply.Slot None) fits = tt
  drawn_has k top (reply.Slot (Some s)) fits = fits
  drawn_has k top reply.Nothing fits = tt
  drawn_has k top (reply.Word w) fits = tt
  drawn_has k top (reply.Found e) fits = tt
  drawn_has k top (reply.Flag b) fits = tt
  drawn_has k top (reply.Thread n) fits = tt

  slot_has : (n : ℤ) (s : ℕ) (is : Bool) → is_object_size n ≡ is
      → Fits (if is then act.Alloc (slots_for (low_word n)) else act.Own) (reply.Slot (Some s))
      → AnswerFits slots (if is then act.Alloc (slots_for (low_word n)) else act.Own, reply.Slot (Some s))
      → ValueFits slots (object_address (64 * s) (low_word n) s true)
  slot_has (pos n) s true is form fits =
      let tests = both (nat_le 1 n) (nat_le n 16384) is in
      object_fits slots (64 * s) (low_word (pos n)) s true
      (omega (arith, fits.1)) few (omega (arith, fits.0))
      (omega (arith, fits.1, leb-true 1 n tests.0, leb-true n 16384 tests.1))
  slot_has (negsuc n) s true is form fits = absurd (cc)
  slot_has n s false is form fits = absurd form

  allocated_has : (n : ℤ) (answer : Reply) → Fits (allocate_action n) answer → AnswerFits slots (allocate_action n, answer)
      → ValueFits slots (allocated n answer)
  allocated_has n (reply.Slot None) form fits = tt
  allocated_has n (reply.Slot (Some s)) form fits = slot_has n s (is_object_size n) refl form fits
  allocated_has n reply.Nothing form fits = tt
  allocated_has n (reply.Word w) form fits = tt
  allocated_has n (reply.Found e) form fits = tt
  allocated_has n (reply.Flag b) form fits = tt
  allocated_has n (reply.Thread m) form fits = tt

  new_thread_has : (answer : Reply) → ValueFits slots (new_thread answer)
  new_thread_has (reply.Thread None) = tt
  new_thread_has (reply.Thread (Some n)) = tt
  new_thread_has reply.Nothing = tt
  new_thread_has (reply.Word w) = tt
  new_thread_has (reply.Found e) = tt
  new_thread_has (reply.Slot s) = tt
  new_thread_has (reply.Flag b) = tt

  waits_has : (k : ℕ) (top : Frame Value) (b : Bool) → EffectHas k (if b then goes_on protected top else stays protected top)
  waits_has k top true = tt
  waits_has k top false = tt

  joins_has : (k : ℕ) (top : Frame Value) (b : Bool) → EffectHas k (if b then stays protected top else goes_on protected top)
  joins_has k top true = tt
  joins_has k top false = tt

  pub effect_has :
      (code : Code) (t : ℕ) (top : Frame Value) (below : List (Frame Value)) (answer : Reply) (s : Shape Value)
      → FrameFits slots top
      → ShapeFits slots s
      → Fits (action_of code t top below s) answer
      → AnswerFits slots (action_of code t top below s, answer)
      → EffectHas (slots_for (frame_units code top.function)) (effect_of code top answer s)
  effect_has code t top below answer (shape.Defines d v) frame fits form reply = fits
  effect_has code t top below answer (shape.Sets s v) frame fits form reply = fits
  effect_has code t top below answer (shape.Goes l) frame fits form reply = tt
  effect_has code t top below answer shape.Divides frame fits form reply = tt
  effect_has code t top below answer (shape.Touches p class marked) frame fits form reply = answer_has _ top _ answer
  effect_has code t top below answer (shape.Loads d p k unit) frame fits form reply = load_has top k (is_kept k) unit p answer frame form reply
  effect_has code t top below answer (shape.Stores p a k unit) frame fits form reply = store_has _ (top.place + 1) unit p a fits.1
  effect_has code t top below answer (shape.Calls f arguments) frame fits form reply = fits
  effect_has code t top below answer (shape.CallsThrough c arguments type through) frame fits form reply =
      callee_has _ arguments (Some through) (protected_callee code type c) fits
  effect_has code t top below answer (shape.Returns v) frame fits form reply = fits
  effect_has code t top below answer shape.Enters frame fits form reply = drawn_has (slots_for (frame_units code top.function)) top answer reply
  effect_has code t top below answer shape.Leaves frame fits form reply = tt
  effect_has code t top below answer (shape.Allocates d n) frame fits form reply = allocated_has n answer form reply
  effect_has code t top below answer (shape.Frees p) frame fits form reply = answer_has _ top _ answer
  effect_has code t top below answer (shape.Forks d) frame fits form reply = new_thread_has answer
  effect_has code t top below answer (shape.StartsArgument n a) frame fits form reply = tt
  effect_has code t top below answer (shape.StartsFunction n f) frame fits form reply = tt
  effect_has code t top below answer (shape.Locks p) frame fits form reply = waits_has _ top (finds_zero answer)
  effect_has code t top below answer (shape.Unlocks p) frame fits form reply = tt
  effect_has code t top below answer (shape.Joins n) frame fits form reply = joins_has _ top (finds_zero answer)
  effect_has code t top below answer (shape.Prints n) frame fits form reply = tt
  effect_has code t top below answer (shape.TakesInput d n) frame fits form reply = tt

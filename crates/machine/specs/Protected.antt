-- The protected machine: what an instruction asks for, by its shape, and what it does once that is answered.
use Rattle.std.specs.Prelude.{ℕ, ℤ, pos, negsuc, ◌+◌, ◌*◌, ◌%◌, ◌^◌, Bool, true, false, ◌&&◌, if◌then◌else◌, nat_lt, nat_le, nat_eq, List, [], ◌∷◌, length, Option, Some, None, slice_get, slice_index_or}
use Rattle.std.specs.Ordering.{int_eq}
use Rattle.c_types.specs.declared.ty.FnTy.{FnTy}
use Rattle.c_types.specs.declared.ty.Ty.TheVariants as ty
use Rattle.c_types.specs.Same.{same}
use Rattle.core_ir.specs.Typed.{start_type}
use Rattle.meaning.specs.declared.action.Action.{Action}
use Rattle.meaning.specs.declared.action.Action.TheVariants as act
use Rattle.meaning.specs.declared.action.Reply.{Reply}
use Rattle.meaning.specs.declared.action.Reply.TheVariants as reply
use Rattle.meaning.specs.declared.note.Place.{Place}
use Rattle.meaning.specs.declared.value.Check.TheVariants.{Bounds, Dead, NoBase, NotCode, WrongType, BadFree}
use Rattle.meaning.specs.declared.value.Entry.{Entry}
use Rattle.meaning.specs.declared.value.Stop.{Stop}
use Rattle.meaning.specs.declared.value.Stop.TheVariants.{Failed, Divide, Depth, Slots}
use Rattle.meaning.specs.declared.value.Value.{Value}
use Rattle.meaning.specs.declared.value.Value.TheVariants.{Bare, Based, Code as CodeValue}
use Rattle.sensitivity.specs.declared.class.Class.{Class}
use Rattle.sensitivity.specs.declared.class.Class.TheVariants as class
use Rattle.machine.specs.Addresses.{argument_address, done_address, slots_for, start_address}
use Rattle.machine.specs.declared.code.Code.{Code}
use Rattle.machine.specs.declared.code.CodeFunction.{CodeFunction}
use Rattle.machine.specs.declared.code.CodePlace.{CodePlace}
use Rattle.machine.specs.declared.code.ScalarKind.{ScalarKind}
use Rattle.machine.specs.Domain.{Callee, Domain, Reaches, Refused}
use Rattle.machine.specs.Frames.{Frame, Thread, Waiting, Starting, Running, Effect, Stops, Goes, Enters, Leaves, Write, Nothing, ToUnit, ToObject}
use Rattle.machine.specs.Numbers.{is_kept, is_zero, low_word, truncated}
use Rattle.machine.specs.Shapes as shape
use Rattle.machine.specs.Shapes.{Shape, object_of, shape_of}
use Rattle.machine.specs.Threads.{Told, applied, begins, defines, frame_units, goes_on, has_room, place_at, sets, stays, stops}
use Rattle.machine.specs.Values.{address_of, cast_value, entry_of, loaded_entry, loaded_value, moved_value, number_of, object_address, told_function}

-- ---- the domain

-- a function that there is has the type of the call
abbrev pub callee_of_type : FnTy → Option CodeFunction → ℕ → Callee
callee_of_type type None f = Refused (Failed WrongType)
callee_of_type type (Some c) f =
    if same (ty.Function type) (ty.Function c.ty) then Reaches f else Refused (Failed WrongType)

-- first whether it is a function, then whether that is of the type
abbrev pub protected_callee : Code → FnTy → Value → Callee
protected_callee code type (CodeValue f) = callee_of_type type (slice_get code.functions f) f
protected_callee code type _ = Refused (Failed NotCode)

abbrev pub protected : Domain
protected = record {
  V = Value;
  bare = Bare;
  number = number_of;
  object = object_address;
  function = CodeValue;
  moved = moved_value;
  cast = cast_value;
  loaded = loaded_value;
  callee = protected_callee;
  told = told_function;
}

-- ---- actions

-- inside the bounds, the store is asked whether the object's id is ended
abbrev pub look_inside : ℕ → ℕ → ℕ → ℕ → Action
look_inside value lower upper id =
    if nat_le lower value && nat_lt value upper then act.Look id else act.Halt (Failed Bounds)

abbrev pub touch_action : Class → Value → Action
touch_action class.Sensitive (Based value lower upper id) = look_inside value lower upper id
touch_action class.Sensitive _ = act.Halt (Failed NoBase)
touch_action class.Universal (Based value lower upper id) = look_inside value lower upper id
touch_action class.Universal (Bare n) = act.Own
touch_action class.Universal (CodeValue f) = act.Halt (Failed NoBase)
touch_action _ p = act.Own

-- a safe local's accesses and touches are the thread's own
abbrev pub unless_unit : Option ℕ → Action → Action
unless_unit None action = action
unless_unit (Some unit) action = act.Own

abbrev pub load_action : ScalarKind → Value → Action
load_action k p = if is_kept k then act.Get (address_of p) else act.Load (address_of p)

abbrev pub store_action : ScalarKind → Value → Value → Action
store_action k p a = if is_kept k then act.Put (address_of p) (entry_of a) else act.Store (address_of p) (number_of a)

abbrev pub call_action : Code → List (Frame Value) → ℕ → Action
call_action code frames f = if has_room code frames f then act.Own else act.Halt Depth

abbrev pub callee_action : Code → List (Frame Value) → Callee → Action
callee_action code frames (Reaches f) = call_action code frames f
callee_action code frames (Refused why) = act.Halt why

-- the bottom frame's return stores the done word
abbrev pub return_action : ℕ → List (Frame Value) → Action
return_action t [] = act.Store (done_address t) (pos 1)
return_action t (caller ∷ below) = act.Own

-- an object has 1 to 16,384 units
abbrev pub is_object_size : ℤ → Bool
is_object_size (pos n) = nat_le 1 n && nat_le n 16384
is_object_size (negsuc n) = false

abbrev pub allocate_action : ℤ → Action
allocate_action n = if is_object_size n then act.Alloc (slots_for (low_word n)) else act.Own

-- ids below 1,026 are no object's that was allocated
abbrev pub free_action : Value → Action
free_action (Bare n) = act.Own
free_action (Based value lower upper id) =
    if nat_eq value lower && nat_le 1026 id then act.Free id else act.Halt (Failed BadFree)
free_action (CodeValue f) = act.Halt (Failed BadFree)

-- the answer of a `spawn` for which there is no thread
abbrev pub is_no_thread : ℤ → Bool
is_no_thread n = int_eq n (negsuc 0)

-- a start word of the thread of this number
abbrev pub start_action : ℕ → ℤ → Value → Action
start_action first n v =
    if is_no_thread n then act.Own else act.Put ((first + 2 * low_word n) % 2 ^ 32) (entry_of v)

abbrev pub is_thread_number : ℤ → Bool
is_thread_number (pos n) = nat_le n 15
is_thread_number (negsuc n) = false

abbrev pub join_action : ℤ → Action
join_action n = if is_thread_number n then act.Load (done_address (low_word n)) else act.Own

-- what an instruction of this shape asks for, in the top frame of thread t over these
abbrev pub action_of : Code → ℕ → Frame Value → List (Frame Value) → Shape Value → Action
action_of code t top below (shape.Defines d v) = act.Own
action_of code t top below (shape.Sets s v) = act.Own
action_of code t top below (shape.Goes l) = act.Own
action_of code t top below shape.Divides = act.Halt Divide
action_of code t top below (shape.Touches p class marked) = if marked then act.Own else touch_action class p
action_of code t top below (shape.Loads d p k unit) = unless_unit unit (load_action k p)
action_of code t top below (shape.Stores p a k unit) = unless_unit unit (store_action k p a)
action_of code t top below (shape.Calls f arguments) = call_action code (top ∷ below) f
action_of code t top below (shape.CallsThrough c arguments type through) =
    callee_action code (top ∷ below) (protected_callee code type c)
action_of code t top below (shape.Returns v) = return_action t below
action_of code t top below shape.Enters = act.Alloc (slots_for (frame_units code top.function))
action_of code t top below shape.Leaves = act.Free (object_of protected top)
action_of code t top below (shape.Allocates d n) = allocate_action n
action_of code t top below (shape.Frees p) = free_action p
action_of code t top below (shape.Forks d) = act.Fork
action_of code t top below (shape.StartsArgument n a) = start_action 65 n a
action_of code t top below (shape.StartsFunction n f) = start_action 64 n f
action_of code t top below (shape.Locks p) = act.TryLock (address_of p)
action_of code t top below (shape.Unlocks p) = act.Store (address_of p) (pos 0)
action_of code t top below (shape.Joins n) = join_action n
action_of code t top below (shape.Prints n) = act.Print n
action_of code t top below (shape.TakesInput d n) = act.Input n

-- ---- effects

-- it goes on, unless the store answers no
abbrev pub unless_no : Frame Value → Stop → Reply → Effect Value
unless_no top why (reply.Flag false) = Stops why
unless_no top why _ = goes_on protected top

abbrev pub unit_value : Frame Value → Option ℕ → Value
unit_value top None = Bare (pos 0)
unit_value top (Some unit) = slice_index_or top.units unit (Bare (pos 0))

-- what a load gives: a word, an entry, or what a safe local's unit has
abbrev pub load_value : Frame Value → ScalarKind → Option ℕ → Reply → Value
load_value top k unit (reply.Word w) = Bare (truncated k w)
load_value top k unit (reply.Found e) = loaded_entry e
load_value top k unit _ = loaded_value k (unit_value top unit)

abbrev pub unit_write : Option ℕ → Value → Value → Write Value
unit_write None p a = Nothing
unit_write (Some unit) p a = ToUnit unit (address_of p) a

abbrev pub callee_effect : List Value → Option Place → Callee → Effect Value
callee_effect arguments through (Reaches f) = Enters f arguments through
callee_effect arguments through (Refused why) = Stops why

abbrev pub drawn : Frame Value → Reply → Effect Value
drawn top (reply.Slot (Some s)) = Goes (top.place + 1) (ToObject s)
drawn top _ = Stops Slots

-- the object that was allocated, or the null pointer
abbrev pub allocated : ℤ → Reply → Value
allocated n (reply.Slot (Some s)) = object_address (64 * s) (low_word n) s true
allocated n _ = Bare (pos 0)

abbrev pub new_thread : Reply → Value
new_thread (reply.Thread (Some n)) = Bare (pos n)
new_thread _ = Bare (negsuc 0)

abbrev pub word_of : Reply → ℤ
word_of (reply.Word w) = w
word_of _ = pos 0

-- a word that is found, and is this
abbrev pub finds_zero : Reply → Bool
finds_zero (reply.Word w) = is_zero w
finds_zero _ = false

-- what an instruction of this shape does once its action is answered
abbrev pub effect_of : Code → Frame Value → Reply → Shape Value → Effect Value
effect_of code top answer (shape.Defines d v) = defines protected top d v
effect_of code top answer (shape.Sets s v) = sets protected top s v
effect_of code top answer (shape.Goes l) = Goes l Nothing
effect_of code top answer shape.Divides = Stops Divide
effect_of code top answer (shape.Touches p class marked) = unless_no top (Failed Dead) answer
effect_of code top answer (shape.Loads d p k unit) = defines protected top d (load_value top k unit answer)
effect_of code top answer (shape.Stores p a k unit) = Goes (top.place + 1) (unit_write unit p a)
effect_of code top answer (shape.Calls f arguments) = Enters f arguments None
effect_of code top answer (shape.CallsThrough c arguments type through) =
    callee_effect arguments (Some through) (protected_callee code type c)
effect_of code top answer (shape.Returns v) = Leaves v
effect_of code top answer shape.Enters = drawn top answer
effect_of code top answer shape.Leaves = goes_on protected top
effect_of code top answer (shape.Allocates d n) = defines protected top d (allocated n answer)
effect_of code top answer (shape.Frees p) = unless_no top (Failed BadFree) answer
effect_of code top answer (shape.Forks d) = defines protected top d (new_thread answer)
effect_of code top answer (shape.StartsArgument n a) = goes_on protected top
effect_of code top answer (shape.StartsFunction n f) = goes_on protected top
effect_of code top answer (shape.Locks p) = if finds_zero answer then goes_on protected top else stays protected top
effect_of code top answer (shape.Unlocks p) = goes_on protected top
effect_of code top answer (shape.Joins n) = if finds_zero answer then stays protected top else goes_on protected top
effect_of code top answer (shape.Prints n) = goes_on protected top
effect_of code top answer (shape.TakesInput d n) = defines protected top d (Bare (word_of answer))

-- ---- turns of a thread

-- the shape of the instruction at which the top frame stands, if there is one
abbrev pub shape_at : Frame Value → List (Frame Value) → Option CodePlace → Option (Shape Value)
shape_at top below None = None
shape_at top below (Some i) = Some (shape_of protected (length below) top i)

abbrev pub shape_in : Code → Frame Value → List (Frame Value) → Option (Shape Value)
shape_in code top below = shape_at top below (place_at code top.function top.place)

abbrev pub action_by : Code → ℕ → Frame Value → List (Frame Value) → Option (Shape Value) → Action
action_by code t top below None = act.Own
action_by code t top below (Some s) = action_of code t top below s

-- what a thread asks for in its next turn; a waiting one for its start word, a starting one for its argument's
abbrev pub next : Code → ℕ → Thread Value → Action
next code t Waiting = act.Get (start_address t)
next code t (Starting f) = act.Get (argument_address t)
next code t (Running top below) = action_by code t top below (shape_in code top below)
next code t _ = act.Own

-- a start word that was found: a function of the type of starts
abbrev pub start_by : Callee → Told Value
start_by (Reaches f) = record { thread = Starting f; notes = [] }
start_by (Refused why) = stops why

abbrev pub started : Code → Option Entry → Told Value
started code None = record { thread = Waiting; notes = [] }
started code (Some e) = start_by (protected_callee code start_type (loaded_entry (Some e)))

abbrev pub found_entry : Reply → Option Entry
found_entry (reply.Found e) = e
found_entry _ = None

abbrev pub resumed_by : Code → Frame Value → List (Frame Value) → Reply → Option (Shape Value) → Told Value
resumed_by code top below answer None = record { thread = Running top below; notes = [] }
resumed_by code top below answer (Some s) = applied protected code top below (effect_of code top answer s)

-- where the answer of its action leads a thread
abbrev pub answered : Code → ℕ → Thread Value → Reply → Told Value
answered code t Waiting answer = started code (found_entry answer)
answered code t (Starting f) answer = begins protected code t f (loaded_entry (found_entry answer))
answered code t (Running top below) answer = resumed_by code top below answer (shape_in code top below)
answered code t thread answer = record { thread = thread; notes = [] }

-- a halt stops the thread
abbrev pub resume : Code → ℕ → Thread Value → Action → Reply → Told Value
resume code t thread (act.Halt why) answer = stops why
resume code t thread action answer = answered code t thread answer

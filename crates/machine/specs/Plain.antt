-- The unprotected machine: C on one memory, where return words stand too. Its turns are over the values of a
-- domain: numbers
-- alone, or numbers with shadows.
use Rattle.std.specs.Prelude.{ℕ, suc, ℤ, pos, negsuc, ◌+◌, ◌-◌, ◌*◌, ◌%◌, ◌^◌, Bool, true, not, ◌&&◌, if◌then◌else◌, nat_eq, nat_lt, nat_le, List, [], ◌∷◌, length, replicate, Option, Some, None, slice_get, slice_set}
use Rattle.std.specs.FinMap.{empty, insert}
use Rattle.std.specs.Ordering.{int_eq}
use Rattle.core_ir.specs.Typed.{start_type}
use Rattle.meaning.specs.declared.action.Action.{Action}
use Rattle.meaning.specs.declared.action.Action.TheVariants as act
use Rattle.meaning.specs.declared.action.Reply.{Reply}
use Rattle.meaning.specs.declared.action.Reply.TheVariants as reply
use Rattle.meaning.specs.declared.event.Event.{Event}
use Rattle.meaning.specs.declared.event.Event.TheVariants.{Turn, Corrupt, Cut}
use Rattle.meaning.specs.declared.note.Place.{Place}
use Rattle.meaning.specs.declared.value.Stop.{Stop}
use Rattle.meaning.specs.declared.value.Stop.TheVariants.{Budget, Depth, Divide, Hijack, Slots, Wild}
use Rattle.machine.specs.Addresses.{argument_address, done_address, slots_for, start_address}
use Rattle.machine.specs.declared.code.Code.{Code}
use Rattle.machine.specs.declared.code.CodePlace.{CodePlace}
use Rattle.machine.specs.declared.code.ScalarKind.{ScalarKind}
use Rattle.machine.specs.declared.code.ScalarKind.TheVariants as kind
use Rattle.machine.specs.Domain.{Callee, Domain, Reaches, Refused}
use Rattle.machine.specs.Frames.{Frame, Thread, Waiting, Starting, Running, Stopped, Effect, Stops, Goes, Enters, Leaves, Nothing, ToObject, has_begun, is_live}
use Rattle.machine.specs.Numbers.{is_kept, is_zero, low_word, truncated}
use Rattle.machine.specs.Protected.{finds_zero, allocate_action, is_no_thread, is_thread_number, word_of}
use Rattle.machine.specs.Run.{Step, Turned, Wrote, CutOff, Idle, site_of}
use Rattle.machine.specs.Shapes as shape
use Rattle.machine.specs.Shapes.{Shape, blank, shape_of}
use Rattle.machine.specs.Store.{Memory, drawn_to, first_drawn, first_slot, input_at, new_number, word_at}
use Rattle.machine.specs.Threads.{Told, applied, begins, defines, frame_units, goes_on, has_room, opened, place_at, sets, stays, stops}
use Rattle.machine.specs.Values.{code_number, moved_number}

-- ---- numbers alone

-- a function of the source; the entry function isn't one
abbrev pub is_source_function : Code → ℕ → Bool
is_source_function code f = nat_lt f (length code.functions) && not (nat_eq f code.entry)

-- the function of the source that has this number
abbrev pub function_at : Code → ℕ → Callee
function_at code n =
    let f = n - code_number 0 in
    if nat_le (code_number 0) n && is_source_function code f then Reaches f else Refused Wild

abbrev pub callee_at : Code → ℤ → Callee
callee_at code (pos n) = function_at code n
callee_at code (negsuc n) = Refused Wild

-- a pointer that both kinds keep stays as it is
abbrev pub cast_number : ScalarKind → ScalarKind → ℤ → ℤ
cast_number from to n = if is_kept from && is_kept to then n else truncated to n

abbrev pub plain : Domain
plain = record {
  V = ℤ;
  bare = λ n. n;
  number = λ n. n;
  object = λ first units id kept. pos first;
  function = λ f. pos (code_number f);
  moved = λ n k. pos (moved_number n k);
  cast = cast_number;
  loaded = truncated;
  callee = λ code type n. callee_at code n;
  told = λ n. None;
}

-- ---- memories

-- a memory of the values of a domain, 0 where nothing was written
pub record Words (D : Domain) : Type 1 where
  pub M : Type 0
  pub at : M → ℕ → D.V
  pub with : M → ℕ → D.V → M

abbrev pub plain_words : Words plain
plain_words = record { M = Memory; at = word_at; with = insert }

-- ---- return words

-- where the return word of thread t's frame at depth d stands
abbrev pub return_address : ℕ → ℕ → ℕ
return_address t d = 100663296 + 65536 * t + d

-- behind a call at this place of a function
abbrev pub return_word : ℕ → ℕ → ℤ
return_word f place = pos (65536 * f + place)

pub record PlainState (V M : Type 0) : Type 0 where
  -- the next slot that is drawn
  pub next : ℕ
  -- the threads that there are
  pub count : ℕ
  pub memory : M
  pub threads : List (Thread V)

module _ (D : Domain) (W : Words D) where
  -- the address for which a value stands
  abbrev pub low : D.V → ℕ
  low v = low_word (D.number v)

  -- ---- what an instruction writes in memory: an address and a value

  -- a call's return word, unless the call stops
  abbrev pub call_word : Code → ℕ → Frame D.V → List (Frame D.V) → ℕ → Option (ℕ × D.V)
  call_word code t top below f =
      if has_room code (top ∷ below) f
      then Some (return_address t (suc (length below)), D.bare (return_word top.function (top.place + 1)))
      else None

  abbrev pub callee_word : Code → ℕ → Frame D.V → List (Frame D.V) → Callee → Option (ℕ × D.V)
  callee_word code t top below (Reaches f) = call_word code t top below f
  callee_word code t top below (Refused why) = None

  abbrev pub start_word : ℕ → ℤ → D.V → Option (ℕ × D.V)
  start_word first n v = if is_no_thread n then None else Some ((first + 2 * low_word n) % 2 ^ 32, v)

  abbrev pub done_word : ℕ → List (Frame D.V) → Option (ℕ × D.V)
  done_word t [] = Some (done_address t, D.bare (pos 1))
  done_word t (caller ∷ below) = None

  abbrev pub writes : Code → ℕ → Frame D.V → List (Frame D.V) → Shape D.V → Option (ℕ × D.V)
  writes code t top below (shape.Stores p a k unit) = Some (low p, a)
  writes code t top below (shape.Calls f arguments) = call_word code t top below f
  writes code t top below (shape.CallsThrough c arguments type through) =
      callee_word code t top below (D.callee code type c)
  writes code t top below (shape.Returns v) = done_word t below
  writes code t top below (shape.StartsArgument n a) = start_word 65 n a
  writes code t top below (shape.StartsFunction n f) = start_word 64 n f
  writes code t top below (shape.Unlocks p) = Some (low p, D.bare (pos 0))
  writes code t top below _ = None

  -- ---- actions

  abbrev pub write_action : Option (ℕ × D.V) → Action
  write_action None = act.Own
  write_action (Some w) = act.Store w.0 (D.number w.1)

  -- a call writes its return word, or stops
  abbrev pub write_or : Stop → Option (ℕ × D.V) → Action
  write_or why None = act.Halt why
  write_or why (Some w) = act.Store w.0 (D.number w.1)

  abbrev pub plain_callee_action : Code → ℕ → Frame D.V → List (Frame D.V) → Callee → Action
  plain_callee_action code t top below (Reaches f) = write_or Depth (call_word code t top below f)
  plain_callee_action code t top below (Refused why) = act.Halt why

  -- the bottom frame stores the done word; another loads its return word
  abbrev pub plain_return : ℕ → List (Frame D.V) → Action
  plain_return t [] = act.Store (done_address t) (pos 1)
  plain_return t (caller ∷ below) = act.Load (return_address t (suc (length below)))

  abbrev pub plain_join : ℤ → Action
  plain_join n = if is_thread_number n then act.Load (done_address (low_word n)) else act.Own

  abbrev pub plain_action : Code → ℕ → Frame D.V → List (Frame D.V) → Shape D.V → Action
  plain_action code t top below (shape.Defines d v) = act.Own
  plain_action code t top below (shape.Sets s v) = act.Own
  plain_action code t top below (shape.Goes l) = act.Own
  plain_action code t top below shape.Divides = act.Halt Divide
  plain_action code t top below (shape.Touches p class marked) = act.Own
  plain_action code t top below (shape.Loads d p k unit) = act.Load (low p)
  plain_action code t top below (shape.Stores p a k unit) = act.Store (low p) (D.number a)
  plain_action code t top below (shape.Calls f arguments) = write_or Depth (call_word code t top below f)
  plain_action code t top below (shape.CallsThrough c arguments type through) =
      plain_callee_action code t top below (D.callee code type c)
  plain_action code t top below (shape.Returns v) = plain_return t below
  plain_action code t top below shape.Enters = act.Alloc (slots_for (frame_units code top.function))
  plain_action code t top below shape.Leaves = act.Own
  plain_action code t top below (shape.Allocates d n) = allocate_action n
  plain_action code t top below (shape.Frees p) = act.Own
  plain_action code t top below (shape.Forks d) = act.Fork
  plain_action code t top below (shape.StartsArgument n a) = write_action (start_word 65 n a)
  plain_action code t top below (shape.StartsFunction n f) = write_action (start_word 64 n f)
  plain_action code t top below (shape.Locks p) = act.TryLock (low p)
  plain_action code t top below (shape.Unlocks p) = act.Store (low p) (pos 0)
  plain_action code t top below (shape.Joins n) = plain_join n
  plain_action code t top below (shape.Prints n) = act.Print n
  plain_action code t top below (shape.TakesInput d n) = act.Input n

  -- ---- effects, once the action is answered and this value was found

  -- a return goes on only where its return word is its caller's
  abbrev pub returns_by : List (Frame D.V) → D.V → D.V → Effect D.V
  returns_by [] found v = Leaves v
  returns_by (caller ∷ below) found v =
      if int_eq (D.number found) (return_word caller.function caller.place) then Leaves v else Stops Hijack

  abbrev pub calls_by : List D.V → Place → Callee → Effect D.V
  calls_by arguments through (Reaches f) = Enters f arguments (Some through)
  calls_by arguments through (Refused why) = Stops why

  abbrev pub drawn_by : Frame D.V → Reply → Effect D.V
  drawn_by top (reply.Slot (Some s)) = Goes (top.place + 1) (ToObject s)
  drawn_by top _ = Stops Slots

  abbrev pub allocated_by : ℤ → Reply → D.V
  allocated_by n (reply.Slot (Some s)) = D.object (64 * s) (low_word n) s true
  allocated_by n _ = blank D

  abbrev pub thread_by : Reply → D.V
  thread_by (reply.Thread (Some n)) = D.bare (pos n)
  thread_by _ = D.bare (negsuc 0)

  abbrev pub plain_effect : Code → Frame D.V → List (Frame D.V) → D.V → Reply → Shape D.V → Effect D.V
  plain_effect code top below found answer (shape.Defines d v) = defines D top d v
  plain_effect code top below found answer (shape.Sets s v) = sets D top s v
  plain_effect code top below found answer (shape.Goes l) = Goes l Nothing
  plain_effect code top below found answer shape.Divides = Stops Divide
  plain_effect code top below found answer (shape.Touches p class marked) = goes_on D top
  plain_effect code top below found answer (shape.Loads d p k unit) = defines D top d (D.loaded k found)
  plain_effect code top below found answer (shape.Stores p a k unit) = goes_on D top
  plain_effect code top below found answer (shape.Calls f arguments) = Enters f arguments None
  plain_effect code top below found answer (shape.CallsThrough c arguments type through) =
      calls_by arguments through (D.callee code type c)
  plain_effect code top below found answer (shape.Returns v) = returns_by below found v
  plain_effect code top below found answer shape.Enters = drawn_by top answer
  plain_effect code top below found answer shape.Leaves = goes_on D top
  plain_effect code top below found answer (shape.Allocates d n) = defines D top d (allocated_by n answer)
  plain_effect code top below found answer (shape.Frees p) = goes_on D top
  plain_effect code top below found answer (shape.Forks d) = defines D top d (thread_by answer)
  plain_effect code top below found answer (shape.StartsArgument n a) = goes_on D top
  plain_effect code top below found answer (shape.StartsFunction n f) = goes_on D top
  plain_effect code top below found answer (shape.Locks p) = if finds_zero answer then goes_on D top else stays D top
  plain_effect code top below found answer (shape.Unlocks p) = goes_on D top
  plain_effect code top below found answer (shape.Joins n) = if finds_zero answer then stays D top else goes_on D top
  plain_effect code top below found answer (shape.Prints n) = goes_on D top
  plain_effect code top below found answer (shape.TakesInput d n) = defines D top d (D.bare (word_of answer))

  -- ---- turns

  abbrev pub plain_shape_at : Frame D.V → List (Frame D.V) → Option CodePlace → Option (Shape D.V)
  plain_shape_at top below None = None
  plain_shape_at top below (Some i) = Some (shape_of D (length below) top i)

  -- the shape of the instruction at which the top frame stands, if there is one
  abbrev pub plain_shape : Code → Frame D.V → List (Frame D.V) → Option (Shape D.V)
  plain_shape code top below = plain_shape_at top below (place_at code top.function top.place)

  abbrev pub plain_action_by : Code → ℕ → Frame D.V → List (Frame D.V) → Option (Shape D.V) → Action
  plain_action_by code t top below None = act.Own
  plain_action_by code t top below (Some s) = plain_action code t top below s

  abbrev pub plain_next : Code → ℕ → Thread D.V → Action
  plain_next code t Waiting = act.Load (start_address t)
  plain_next code t (Starting f) = act.Load (argument_address t)
  plain_next code t (Running top below) = plain_action_by code t top below (plain_shape code top below)
  plain_next code t _ = act.Own

  -- the address whose value a turn finds
  abbrev pub found_at : Action → ℕ
  found_at (act.Load a) = a
  found_at (act.TryLock a) = a
  found_at _ = 0

  abbrev pub begun_by : Callee → Told D.V
  begun_by (Reaches f) = record { thread = Starting f; notes = [] }
  begun_by (Refused why) = stops why

  -- a start word that was found: 0 is none
  abbrev pub begun : Code → D.V → Told D.V
  begun code found =
      if is_zero (D.number found) then record { thread = Waiting; notes = [] }
      else begun_by (D.callee code start_type (D.loaded kind.Code found))

  abbrev pub plain_resumed_by : Code → Frame D.V → List (Frame D.V) → D.V → Reply → Option (Shape D.V) → Told D.V
  plain_resumed_by code top below found answer None = record { thread = Running top below; notes = [] }
  plain_resumed_by code top below found answer (Some s) =
      applied D code top below (plain_effect code top below found answer s)

  abbrev pub plain_answered : Code → ℕ → Thread D.V → D.V → Reply → Told D.V
  plain_answered code t Waiting found answer = begun code found
  plain_answered code t (Starting f) found answer = begins D code t f (D.loaded kind.Protected found)
  plain_answered code t (Running top below) found answer =
      plain_resumed_by code top below found answer (plain_shape code top below)
  plain_answered code t thread found answer = record { thread = thread; notes = [] }

  abbrev pub plain_resume : Code → ℕ → Thread D.V → Action → D.V → Reply → Told D.V
  plain_resume code t thread (act.Halt why) found answer = stops why
  plain_resume code t thread action found answer = plain_answered code t thread found answer

  -- ---- memory

  abbrev pub with_write : W.M → Option (ℕ × D.V) → W.M
  with_write memory None = memory
  with_write memory (Some w) = W.with memory w.0 w.1

  abbrev pub thread_writes : Code → ℕ → Frame D.V → List (Frame D.V) → Option (Shape D.V) → Option (ℕ × D.V)
  thread_writes code t top below None = None
  thread_writes code t top below (Some s) = writes code t top below s

  -- a lock that finds 0 sets 1
  abbrev pub locked : W.M → Action → W.M
  locked memory (act.TryLock a) =
      if is_zero (D.number (W.at memory a)) then W.with memory a (D.bare (pos 1)) else memory
  locked memory _ = memory

  abbrev pub memory_after : Code → ℕ → Thread D.V → Action → W.M → W.M
  memory_after code t (Running top below) action memory =
      locked (with_write memory (thread_writes code t top below (plain_shape code top below))) action
  memory_after code t thread action memory = memory

  -- ---- answers

  abbrev pub plain_answer : ℕ → ℕ → List ℤ → ℕ → ℕ → W.M → Action → Reply
  plain_answer slots threads inputs next count memory (act.Load a) = reply.Word (D.number (W.at memory a))
  plain_answer slots threads inputs next count memory (act.TryLock a) = reply.Word (D.number (W.at memory a))
  plain_answer slots threads inputs next count memory (act.Alloc k) = reply.Slot (first_slot slots next k)
  plain_answer slots threads inputs next count memory act.Fork = reply.Thread (new_number threads count)
  plain_answer slots threads inputs next count memory (act.Input n) = reply.Word (input_at inputs n)
  plain_answer slots threads inputs next count memory _ = reply.Nothing

  abbrev pub next_after : ℕ → Action → ℕ
  next_after next (act.Alloc k) = drawn_to next k
  next_after next _ = next

  abbrev pub count_after : ℕ → ℕ → Action → ℕ
  count_after threads count act.Fork = if nat_lt count threads then count + 1 else count
  count_after threads count _ = count

  -- ---- runs

  pub record PlainMove : Type 0 where
    pub step : Step
    pub after : PlainState D.V W.M

  abbrev pub plain_acts : Code → PlainState D.V W.M → ℕ → Thread D.V → Action → Reply → PlainMove
  plain_acts code s t thread action answer =
      let told = plain_resume code t thread action (W.at s.memory (found_at action)) answer in
      record {
        step = Turned t (site_of thread) action answer told.notes;
        after = record {
          next = next_after s.next action;
          count = count_after (length s.threads) s.count action;
          memory = memory_after code t thread action s.memory;
          threads = slice_set s.threads t told.thread;
        };
      }

  abbrev pub plain_turn : Code → List ℤ → ℕ → PlainState D.V W.M → ℕ → Thread D.V → PlainMove
  plain_turn code inputs slots s t thread =
      let action = plain_next code t thread in
      plain_acts code s t thread action
      (plain_answer slots (length s.threads) inputs s.next s.count s.memory action)

  abbrev pub plain_idles : PlainState D.V W.M → PlainMove
  plain_idles s = record { step = Idle; after = s }

  abbrev pub plain_turns : Code → List ℤ → ℕ → PlainState D.V W.M → ℕ → Option (Thread D.V) → PlainMove
  plain_turns code inputs slots s t None = plain_idles s
  plain_turns code inputs slots s t (Some thread) =
      if is_live thread then plain_turn code inputs slots s t thread else plain_idles s

  abbrev pub plain_cuts : PlainState D.V W.M → ℕ → Option (Thread D.V) → PlainMove
  plain_cuts s t None = plain_idles s
  plain_cuts s t (Some thread) =
      if is_live thread && has_begun thread
      then record { step = CutOff t; after = record s { threads = slice_set s.threads t (Stopped Budget) } }
      else plain_idles s

  abbrev pub plain_happens : Code → List ℤ → ℕ → PlainState D.V W.M → Event → PlainMove
  plain_happens code inputs slots s (Turn t) = plain_turns code inputs slots s t (slice_get s.threads t)
  plain_happens code inputs slots s (Corrupt a w) =
      record { step = Wrote a w; after = record s { memory = W.with s.memory a (D.bare w) } }
  plain_happens code inputs slots s (Cut t) = plain_cuts s t (slice_get s.threads t)

  -- thread 0 stands in the entry function, and the others, of so many in all, wait
  abbrev pub plain_opening : Code → W.M → ℕ → PlainState D.V W.M
  plain_opening code memory threads = record {
    next = first_drawn;
    count = 1;
    memory = memory;
    threads = Running (opened D code code.entry []) [] ∷ replicate (threads - 1) Waiting;
  }

  abbrev pub plain_steps : Code → List ℤ → ℕ → PlainState D.V W.M → List Event → List Step
  plain_steps code inputs slots s [] = []
  plain_steps code inputs slots s (e ∷ es) =
      let move = plain_happens code inputs slots s e in
      move.step ∷ plain_steps code inputs slots move.after es

  abbrev pub plain_after : Code → List ℤ → ℕ → PlainState D.V W.M → List Event → PlainState D.V W.M
  plain_after code inputs slots s [] = s
  plain_after code inputs slots s (e ∷ es) =
      plain_after code inputs slots (plain_happens code inputs slots s e).after es

-- ---- the run of the unprotected machine

abbrev pub plain_threads : ℕ
plain_threads = 16

abbrev pub plain_slots : ℕ
plain_slots = 1048576

abbrev pub plain_run : Code → List ℤ → List Event → List Step
plain_run code inputs events =
    plain_steps plain plain_words code inputs plain_slots
    (plain_opening plain plain_words code empty plain_threads) events

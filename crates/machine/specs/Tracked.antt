-- Numbers with shadows: of which object or function each number of the unprotected machine is, and whether
-- protection keeps
-- that.
use Rattle.std.specs.Prelude.{ℕ, ℤ, pos, negsuc, ◌+◌, ◌*◌, ◌%◌, ◌^◌, Bool, true, false, not, ◌&&◌, ◌||◌, if◌then◌else◌, nat_eq, nat_le, nat_lt, List, [], ◌∷◌, ◌++◌, map, Option, Some, None, slice_get}
use Rattle.std.specs.List.{list_any}
use Rattle.std.specs.Ordering.{int_eq}
use Rattle.c_types.specs.declared.ty.FnTy.{FnTy}
use Rattle.c_types.specs.declared.ty.Ty.TheVariants as ty
use Rattle.c_types.specs.Same.{same}
use Rattle.core_ir.specs.Typed.{start_type}
use Rattle.meaning.specs.declared.action.Reply.TheVariants as reply
use Rattle.meaning.specs.declared.event.Event.{Event}
use Rattle.meaning.specs.declared.event.Event.TheVariants.{Turn}
use Rattle.sensitivity.specs.declared.class.Class.{Class}
use Rattle.sensitivity.specs.declared.class.Class.TheVariants as class
use Rattle.machine.specs.Addresses.{argument_address, done_address, start_address}
use Rattle.machine.specs.declared.code.Code.{Code}
use Rattle.machine.specs.declared.code.CodeFunction.{CodeFunction}
use Rattle.machine.specs.declared.code.ScalarKind.{ScalarKind}
use Rattle.machine.specs.declared.code.ScalarKind.TheVariants as kind
use Rattle.machine.specs.Domain.{Domain}
use Rattle.machine.specs.Frames.{Frame, Thread, Waiting, Starting, Running}
use Rattle.machine.specs.Numbers.{is_kept, low_word, truncated}
use Rattle.machine.specs.Plain.{PlainState, Words, callee_at, cast_number, plain_happens, plain_opening, plain_shape, plain_slots, plain_threads}
use Rattle.machine.specs.Protected.{is_no_thread, is_thread_number}
use Rattle.machine.specs.Run.{Step, Turned}
use Rattle.machine.specs.Shapes as shape
use Rattle.machine.specs.Shapes.{Shape}
use Rattle.machine.specs.Values.{code_number, moved_number}

-- ---- shadows

pub data Shadow : Type 0 where
  Nothing : Shadow
  -- an object: its bounds and its id
  Object : (lower upper id : ℕ) (kept : Bool) → Shadow
  Function : (f : ℕ) (kept : Bool) → Shadow

pub record Tracked : Type 0 where
  pub number : ℤ
  pub shadow : Shadow

abbrev pub tracked_number : ℤ → Tracked
tracked_number n = record { number = n; shadow = Nothing }

-- a conversion to a pointer that stands in ordinary memory removes the mark
abbrev pub unkept : Shadow → Shadow
unkept Nothing = Nothing
unkept (Object lower upper id kept) = Object lower upper id false
unkept (Function f kept) = Function f false

abbrev pub is_integer_kind : ScalarKind → Bool
is_integer_kind kind.Int = true
is_integer_kind kind.Char = true
is_integer_kind _ = false

abbrev pub pointer_shadow : ScalarKind → Shadow → Shadow
pointer_shadow to s = if is_kept to then s else unkept s

-- integers have no shadow; a pointer that is made of a pointer has that one's
abbrev pub cast_shadow : ScalarKind → ScalarKind → Shadow → Shadow
cast_shadow from to s = if is_integer_kind from || is_integer_kind to then Nothing else pointer_shadow to s

abbrev pub loaded_shadow : ScalarKind → Shadow → Shadow
loaded_shadow k s = if is_integer_kind k then Nothing else s

-- an object's address stays one of it; a function's only where the number stays
abbrev pub moved_shadow : ℤ → ℤ → Shadow → Shadow
moved_shadow from to (Function f kept) = if int_eq from to then Function f kept else Nothing
moved_shadow from to s = s

abbrev pub moved_tracked : Tracked → ℕ → Tracked
moved_tracked v k =
    let n = pos (moved_number v.number k) in record { number = n; shadow = moved_shadow v.number n v.shadow }

abbrev pub tracked : Domain
tracked = record {
  V = Tracked;
  bare = tracked_number;
  number = λ v. v.number;
  object = λ first units id kept. record { number = pos first; shadow = Object first (first + units) id kept };
  function = λ f. record { number = pos (code_number f); shadow = Function f true };
  moved = moved_tracked;
  cast = λ from to v. record { number = cast_number from to v.number; shadow = cast_shadow from to v.shadow };
  loaded = λ k v. record { number = truncated k v.number; shadow = loaded_shadow k v.shadow };
  callee = λ code type v. callee_at code v.number;
  told = λ v. None;
}

-- ---- memory

abbrev pub set_word : (ℕ → Tracked) → ℕ → Tracked → ℕ → Tracked
set_word memory a v b = if nat_eq b a then v else memory b

-- a function, so that runs compute
abbrev pub tracked_words : Words tracked
tracked_words = record { M = ℕ → Tracked; at = λ memory a. memory a; with = set_word }

abbrev pub no_words : ℕ → Tracked
no_words a = tracked_number (pos 0)

-- ---- what a run has allocated and lost

pub record TrackedState : Type 0 where
  pub state : PlainState Tracked (ℕ → Tracked)
  -- the ids of objects that were allocated
  pub allocated : List ℕ
  -- those of objects that were freed, and of frames that were left
  pub dead : List ℕ

-- ---- turns that are safe

abbrev pub is_dead : List ℕ → ℕ → Bool
is_dead dead id = list_any (nat_eq id) dead

abbrev pub is_inside : ℤ → ℕ → ℕ → Bool
is_inside (pos n) lower upper = nat_le lower n && nat_lt n upper
is_inside (negsuc n) lower upper = false

abbrev pub needs_mark : Class → Bool
needs_mark class.Sensitive = true
needs_mark _ = false

-- a touch of an object that is alive, inside it; where the class is sensitive, protection keeps the pointer
abbrev pub touches_safely : List ℕ → Class → ℤ → Shadow → Bool
touches_safely dead c n (Object lower upper id kept) =
    is_inside n lower upper && not (is_dead dead id) && (kept || not (needs_mark c))
touches_safely dead c n _ = false

abbrev pub has_type : Code → FnTy → Option CodeFunction → Bool
has_type code type None = false
has_type code type (Some f) = same (ty.Function type) (ty.Function f.ty)

-- a kept function of this type
abbrev pub calls_safely : Code → FnTy → Shadow → Bool
calls_safely code type (Function f kept) = kept && has_type code type (slice_get code.functions f)
calls_safely code type _ = false

abbrev pub is_start_of_allocated : List ℕ → List ℕ → ℤ → ℕ → ℕ → Bool
is_start_of_allocated allocated dead n lower id =
    int_eq n (pos lower) && list_any (nat_eq id) allocated && not (is_dead dead id)

-- of 0 that is nothing's address, or of the first unit of a allocated object that is alive
abbrev pub frees_safely : List ℕ → List ℕ → ℤ → Shadow → Bool
frees_safely allocated dead n Nothing = int_eq n (pos 0)
frees_safely allocated dead n (Object lower upper id kept) = is_start_of_allocated allocated dead n lower id
frees_safely allocated dead n (Function f kept) = false

abbrev pub is_safe_shape : Code → List ℕ → List ℕ → Shape Tracked → Bool
is_safe_shape code allocated dead (shape.Touches p c marked) = touches_safely dead c p.number p.shadow
is_safe_shape code allocated dead (shape.CallsThrough c arguments type through) = calls_safely code type c.shadow
is_safe_shape code allocated dead (shape.StartsFunction n f) = is_no_thread n || calls_safely code start_type f.shadow
is_safe_shape code allocated dead (shape.Frees p) = frees_safely allocated dead p.number p.shadow
is_safe_shape code allocated dead _ = true

-- ---- accesses: an address, and whether the access's type stands in the safe store

abbrev pub Access : Type 0
Access = ℕ × Bool

abbrev pub start_access : ℕ → ℤ → List Access
start_access first n = if is_no_thread n then [] else ((first + 2 * low_word n) % 2 ^ 32, true) ∷ []

abbrev pub done_access : ℕ → List (Frame Tracked) → List Access
done_access t [] = (done_address t, false) ∷ []
done_access t (caller ∷ below) = []

abbrev pub join_access : ℤ → List Access
join_access n = if is_thread_number n then (done_address (low_word n), false) ∷ [] else []

abbrev pub shape_accesses : ℕ → List (Frame Tracked) → Shape Tracked → List Access
shape_accesses t below (shape.Loads d p k unit) = (low_word p.number, is_kept k) ∷ []
shape_accesses t below (shape.Stores p a k unit) = (low_word p.number, is_kept k) ∷ []
shape_accesses t below (shape.Locks p) = (low_word p.number, false) ∷ []
shape_accesses t below (shape.Unlocks p) = (low_word p.number, false) ∷ []
shape_accesses t below (shape.Joins n) = join_access n
shape_accesses t below (shape.Returns v) = done_access t below
shape_accesses t below (shape.StartsArgument n a) = start_access 65 n
shape_accesses t below (shape.StartsFunction n f) = start_access 64 n
shape_accesses t below _ = []

-- ---- turns

abbrev pub shape_in : Code → Thread Tracked → Option (Shape Tracked)
shape_in code (Running top below) = plain_shape tracked tracked_words code top below
shape_in code thread = None

abbrev pub is_safe_by : Code → List ℕ → List ℕ → Option (Shape Tracked) → Bool
is_safe_by code allocated dead None = true
is_safe_by code allocated dead (Some s) = is_safe_shape code allocated dead s

abbrev pub is_safe_in : Code → TrackedState → Option (Thread Tracked) → Bool
is_safe_in code s None = true
is_safe_in code s (Some thread) = is_safe_by code s.allocated s.dead (shape_in code thread)

-- a turn of thread t is safe
abbrev pub is_safe_turn : Code → TrackedState → ℕ → Bool
is_safe_turn code s t = is_safe_in code s (slice_get s.state.threads t)

abbrev pub accesses_by : ℕ → List (Frame Tracked) → Option (Shape Tracked) → List Access
accesses_by t below None = []
accesses_by t below (Some s) = shape_accesses t below s

abbrev pub thread_accesses : Code → ℕ → Thread Tracked → List Access
thread_accesses code t Waiting = (start_address t, true) ∷ []
thread_accesses code t (Starting f) = (argument_address t, true) ∷ []
thread_accesses code t (Running top below) =
    accesses_by t below (plain_shape tracked tracked_words code top below)
thread_accesses code t _ = []

abbrev pub accesses_in : Code → ℕ → Option (Thread Tracked) → List Access
accesses_in code t None = []
accesses_in code t (Some thread) = thread_accesses code t thread

-- the accesses of a turn of thread t
abbrev pub accesses_of : Code → TrackedState → ℕ → List Access
accesses_of code s t = accesses_in code t (slice_get s.state.threads t)

-- ---- runs

abbrev pub allocated_by_step : Option (Shape Tracked) → Step → List ℕ
allocated_by_step (Some (shape.Allocates d n)) (Turned t site action (reply.Slot (Some id)) notes) = id ∷ []
allocated_by_step _ step = []

abbrev pub freed : Shadow → List ℕ
freed (Object lower upper id kept) = id ∷ []
freed _ = []

abbrev pub left : Option ℕ → List ℕ
left None = []
left (Some id) = id ∷ []

-- what a turn makes dead: what it frees, and the frame object that it leaves
abbrev pub ended_by : Thread Tracked → Option (Shape Tracked) → List ℕ
ended_by (Running top below) (Some (shape.Frees p)) = freed p.shadow
ended_by (Running top below) (Some shape.Leaves) = left top.object
ended_by thread s = []

abbrev pub shape_of_thread : Code → Option (Thread Tracked) → Option (Shape Tracked)
shape_of_thread code None = None
shape_of_thread code (Some thread) = shape_in code thread

abbrev pub ended_in : Code → Option (Thread Tracked) → List ℕ
ended_in code None = []
ended_in code (Some thread) = ended_by thread (shape_in code thread)

pub record TrackedMove : Type 0 where
  pub step : Step
  pub after : TrackedState

abbrev pub tracked_turn : Code → List ℤ → TrackedState → ℕ → TrackedMove
tracked_turn code inputs s t =
    let thread = slice_get s.state.threads t in
    let move = plain_happens tracked tracked_words code inputs plain_slots s.state (Turn t) in
    record {
      step = move.step;
      after = record {
        state = move.after;
        allocated = allocated_by_step (shape_of_thread code thread) move.step ++ s.allocated;
        dead = ended_in code thread ++ s.dead;
      };
    }

abbrev pub tracked_opening : Code → TrackedState
tracked_opening code = record {
  state = plain_opening tracked tracked_words code no_words plain_threads;
  allocated = [];
  dead = [];
}

-- ---- memory-safe runs, of turns alone

-- each turn is safe
abbrev pub all_safe : Code → List ℤ → TrackedState → List ℕ → Bool
all_safe code inputs s [] = true
all_safe code inputs s (t ∷ ts) =
    is_safe_turn code s t && all_safe code inputs (tracked_turn code inputs s t).after ts

abbrev pub all_accesses : Code → List ℤ → TrackedState → List ℕ → List Access
all_accesses code inputs s [] = []
all_accesses code inputs s (t ∷ ts) =
    accesses_of code s t ++ all_accesses code inputs (tracked_turn code inputs s t).after ts

abbrev pub same_truth : Bool → Bool → Bool
same_truth true b = b
same_truth false b = not b

-- the same address with another kind of type
abbrev pub mixes : Access → Access → Bool
mixes x y = nat_eq x.0 y.0 && not (same_truth x.1 y.1)

-- no address is accessed both with a type that stands in ordinary memory and with another
abbrev pub is_unmixed : List Access → Bool
is_unmixed [] = true
is_unmixed (x ∷ xs) = not (list_any (mixes x) xs) && is_unmixed xs

abbrev pub is_memory_safe : Code → List ℤ → List ℕ → Bool
is_memory_safe code inputs turns =
    all_safe code inputs (tracked_opening code) turns
    && is_unmixed (all_accesses code inputs (tracked_opening code) turns)

-- turns alone
abbrev pub turns_of : List ℕ → List Event
turns_of ts = map (λ t. Turn t) ts

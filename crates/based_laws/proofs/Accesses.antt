-- Each get and put of a run is at a word of a start, or inside the bounds of a pointer that the thread touched just before.
use Rattle.std.proofs.Common.{◌≡◌, inl, inr, ℕ, ℤ, ◌+◌, ◌*◌, ◌%◌, ◌^◌, ◌<◌, ◌≤◌, Bool, true, false, ◌&&◌, if◌then◌else◌, nat_eq, nat_le, nat_lt, List, [], ◌∷◌, length, Option, Some, None, slice_get, refl, sym, ap, ◌∙◌, subst, arith}
use Rattle.meaning.specs.declared.action.Action.{Action}
use Rattle.meaning.specs.declared.action.Action.TheVariants as act
use Rattle.meaning.specs.declared.event.Event.{Event}
use Rattle.meaning.specs.declared.value.Check.TheVariants.{BadFree, Bounds}
use Rattle.meaning.specs.declared.value.Stop.TheVariants.{Depth, Failed}
use Rattle.meaning.specs.declared.value.Value.{Value}
use Rattle.meaning.specs.declared.value.Value.TheVariants.{Bare, Based, Code as CodeValue}
use Rattle.sensitivity.specs.declared.class.Class.{Class}
use Rattle.sensitivity.specs.declared.class.Class.TheVariants as class
use Rattle.core_ir.specs.declared.program.Program.{Program}
use Rattle.machine.specs.declared.code.Code.{Code}
use Rattle.machine.specs.declared.code.CodePlace.{CodePlace}
use Rattle.machine.specs.declared.code.CodePlace.TheVariants.{Binary, Load, Store, StartArg, StartFn}
use Rattle.machine.specs.declared.code.ScalarKind.{ScalarKind}
use Rattle.machine.specs.Addresses.{argument_address, done_address, slots_for, start_address}
use Rattle.machine.specs.Based.{AccessesAreRight, BasedOn, IsRightAccess, IsRightFrom, IsTouched, IsWordOf, accesses}
use Rattle.machine.specs.Domain.{Callee, Reaches, Refused}
use Rattle.machine.specs.Frames.{Ended, Frame, Running, Starting, Stopped, Thread, Waiting}
use Rattle.machine.specs.Numbers.{computed, is_kept, low_word}
use Rattle.machine.specs.Protected.{action_by, action_of, callee_action, free_action, is_object_size, is_thread_number, next, protected, protected_callee, return_action, shape_at, start_action, touch_action, unless_unit}
use Rattle.machine.specs.Run.{Move, Setting, Site, State, Step, Turned, happens, opening, site_of, state_after, steps_from}
use Rattle.machine.specs.Shapes as shape
use Rattle.machine.specs.Shapes.{Shape, defines_number, number_in, register, shape_of}
use Rattle.machine.specs.Stands.{Stands}
use Rattle.machine.specs.Threads.{has_room, place_at}
use Rattle.machine.specs.ValidCode.{ValidCode}
use Rattle.machine.specs.Values.{address_of, entry_of, number_of}
use Rattle.machine_laws.proofs.Events.{any_event}
use Rattle.machine_laws.proofs.Values.{register_is}
use Rattle.based_laws.proofs.Reached.{values_behind}
use Rattle.based_laws.proofs.Ready.{IsNumber, IsReady, Looked, LookedWhere}
use Rattle.based_laws.proofs.ReadyThreads.{IsLow, Kept, RunningIs, ThreadAt, ThreadIs, low_is_closed, reached_is}

-- ---- what doesn't access the safe store

abbrev MayAccess : Shape Value → Type 0
MayAccess (shape.Loads d p k unit) = Unit {0}
MayAccess (shape.Stores p a k unit) = Unit {0}
MayAccess (shape.StartsArgument n a) = Unit {0}
MayAccess (shape.StartsFunction n a) = Unit {0}
MayAccess _ = ⊥

none_of : (b : Bool) (x y : Action) → accesses x ≡ None → accesses y ≡ None → accesses (if b then x else y) ≡ None
none_of true x y left right = left
none_of false x y left right = right

touch_accesses : (k : Class) (p : Value) → accesses (touch_action k p) ≡ None
touch_accesses class.Sensitive (Based value lower upper id) = none_of (nat_le lower value && nat_lt value upper) (act.Look id) (act.Halt (Failed Bounds)) refl refl
touch_accesses class.Sensitive (Bare n) = refl
touch_accesses class.Sensitive (CodeValue f) = refl
touch_accesses class.Universal (Based value lower upper id) = none_of (nat_le lower value && nat_lt value upper) (act.Look id) (act.Halt (Failed Bounds)) refl refl
touch_accesses class.Universal (Bare n) = refl
touch_accesses class.Universal (CodeValue f) = refl
touch_accesses class.Code p = refl
touch_accesses class.Regular p = refl

callee_accesses : (code : Code) (frames : List (Frame Value)) (c : Callee) → accesses (callee_action code frames c) ≡ None
callee_accesses code frames (Reaches f) = none_of (has_room code frames f) act.Own (act.Halt Depth) refl refl
callee_accesses code frames (Refused why) = refl

return_accesses : (t : ℕ) (below : List (Frame Value)) → accesses (return_action t below) ≡ None
return_accesses t [] = refl
return_accesses t (f ∷ fs) = refl

free_accesses : (p : Value) → accesses (free_action p) ≡ None
free_accesses (Bare n) = refl
free_accesses (Based value lower upper id) = none_of (nat_eq value lower && nat_le 1026 id) (act.Free id) (act.Halt (Failed BadFree)) refl refl
free_accesses (CodeValue f) = refl

none_accessed : (code : Code) (t : ℕ) (top : Frame Value) (below : List (Frame Value)) (s : Shape Value) → (MayAccess s → ⊥) → accesses (action_of code t top below s) ≡ None
none_accessed code t top below (shape.Loads d p k unit) plain = absurd (plain tt)
none_accessed code t top below (shape.Stores p a k unit) plain = absurd (plain tt)
none_accessed code t top below (shape.StartsArgument n a) plain = absurd (plain tt)
none_accessed code t top below (shape.StartsFunction n f) plain = absurd (plain tt)
none_accessed code t top below (shape.Touches p k marked) plain = none_of marked act.Own (touch_action k p) refl (touch_accesses k p)
none_accessed code t top below (shape.Calls f arguments) plain = none_of (has_room code (top ∷ below) f) act.Own (act.Halt Depth) refl refl
none_accessed code t top below (shape.CallsThrough c arguments type through) plain = callee_accesses code (top ∷ below) (protected_callee code type c)
none_accessed code t top below (shape.Returns v) plain = return_accesses t below
none_accessed code t top below (shape.Allocates d n) plain = none_of (is_object_size n) (act.Alloc (slots_for (low_word n))) act.Own refl refl
none_accessed code t top below (shape.Frees p) plain = free_accesses p
none_accessed code t top below (shape.Joins n) plain = none_of (is_thread_number n) (act.Load (done_address (low_word n))) act.Own refl refl
none_accessed code t top below _ plain = refl

abbrev IsPlain : CodePlace → Type 0
IsPlain (Load d p k unit) = ⊥
IsPlain (Store p a k unit) = ⊥
IsPlain (StartArg t a) = ⊥
IsPlain (StartFn t g) = ⊥
IsPlain _ = Unit {0}

numbers_plain : (d : ℕ) (n : Option ℤ) → MayAccess (defines_number protected d n) → ⊥
numbers_plain d None may = may
numbers_plain d (Some n) may = may

plain_shape : (depth : ℕ) (f : Frame Value) (i : CodePlace) → IsPlain i → MayAccess (shape_of protected depth f i) → ⊥
plain_shape depth f (Binary d op a b) plain may = numbers_plain d (computed op (number_in protected f a) (number_in protected f b)) may
plain_shape depth f (Load d p k unit) plain may = plain
plain_shape depth f (Store p a k unit) plain may = plain
plain_shape depth f (StartArg t a) plain may = plain
plain_shape depth f (StartFn t g) plain may = plain
plain_shape depth f _ plain may = may

-- ---- addresses of accesses

address_is : (v : Value) (value lower upper id : ℕ) → v ≡ Based value lower upper id → IsLow v → address_of v ≡ value
address_is v value lower upper id is low =
    let small : value < 2 ^ 32 = subst IsLow is low in
    ap address_of is ∙ (let same : value % 2 ^ 32 ≡ value = omega (arith, small) in same)

module _ (setting : Setting) (valid : ValidCode setting.code) (few : setting.slots ≤ 1048576) where
  abbrev code : Code
  code = setting.code

  module _ (past : List Step) (t : ℕ) (top : Frame Value) (below : List (Frame Value)) (r : RunningIs setting valid few past t top below) where
    abbrev site : Site
    site = record { depth = length below; function = top.function; place = top.place }

    touched : (p a : ℕ) → Looked code past t top below p → Some (address_of (register protected top p)) ≡ Some a → IsTouched code past t site top p a
    touched p a l at =
        let value : address_of (register protected top p) ≡ l.value =
        address_is (register protected top p) l.value l.lower l.upper l.id l.based (register_is IsLow low_is_closed top p r.low.values) in
        let same : l.value ≡ a = let here : address_of (register protected top p) ≡ a = cc in sym value ∙ here in
        record {
          lower = l.lower;
          upper = l.upper;
          id = l.id;
          class = class.Sensitive;
          based = l.based ∙ ap (λ (n : ℕ). Based n l.lower l.upper l.id) same;
          above = subst (λ (n : ℕ). l.lower ≤ n) same l.above;
          below = subst (λ (n : ℕ). n < l.upper) same l.under;
          touch = l.touch;
          looked = l.looked;
        }

    load_right : (k : ScalarKind) (kept : Bool) (unit : Option ℕ) (p a other : ℕ) → is_kept k ≡ kept
        → LookedWhere code past t top below k unit p
        → accesses (unless_unit unit (if kept then act.Get (address_of (register protected top p)) else act.Load other)) ≡ Some a
        → IsTouched code past t site top p a
    load_right k true None p a other kept looked at = touched p a (looked kept) at
    load_right k false None p a other kept looked at = absurd (cc)
    load_right k kept (Some u) p a other is looked at = absurd (cc)

    store_right : (k : ScalarKind) (kept : Bool) (unit : Option ℕ) (p v a : ℕ) → is_kept k ≡ kept
        → LookedWhere code past t top below k unit p
        → accesses (unless_unit unit (if kept then act.Put (address_of (register protected top p)) (entry_of (register protected top v))
        else act.Store (address_of (register protected top p)) (number_of (register protected top v)))) ≡ Some a
        → IsTouched code past t site top p a
    store_right k true None p v a kept looked at = touched p a (looked kept) at
    store_right k false None p v a kept looked at = absurd (cc)
    store_right k kept (Some u) p v a is looked at = absurd (cc)

    word_right : (first : ℕ) (word : ℕ → ℕ) (n v a : ℕ)
        → first ≤ 65
        → ((m : ℕ) → word m ≡ first + 2 * m)
        → IsNumber (register protected top n)
        → accesses (start_action first (number_of (register protected top n)) (register protected top v)) ≡ Some a
        → IsWordOf word top n a
    word_right first word n v a low words number at =
        elim number [
          | inl none ↦
              let no : None ≡ Some a =
              ap (λ (x : Value). accesses (start_action first (number_of x) (register protected top v))) (sym none) ∙ at in
              absurd (cc)
          | inr some ↦
              let put : Some ((first + 2 * (some.0 % 2 ^ 32)) % 2 ^ 32) ≡ Some a =
              ap (λ (x : Value). accesses (start_action first (number_of x) (register protected top v))) (sym some.1) ∙ at in
              let there : (first + 2 * (some.0 % 2 ^ 32)) % 2 ^ 32 ≡ a = cc in
              let is : word some.0 ≡ first + 2 * some.0 = words some.0 in
              record {
                thread = some.0;
                number = some.1;
                few = some.2;
                at = omega (arith, there, is, low, some.2);
              }
        ]

    right_at : (i : CodePlace) (a : ℕ)
        → IsReady code past t top below i
        → accesses (action_of code t top below (shape_of protected (length below) top i)) ≡ Some a
        → IsRightAccess code past t site top (Some i) a
    right_at (Load d p k unit) a ready at = load_right k (is_kept k) unit p a (address_of (register protected top p)) refl ready at
    right_at (Store p v k unit) a ready at = store_right k (is_kept k) unit p v a refl ready at
    right_at (StartArg n v) a ready at = word_right 65 argument_address n v a (omega arith) (λ m. refl) ready at
    right_at (StartFn n v) a ready at = word_right 64 start_address n v a (omega arith) (λ m. refl) ready at
    right_at i a ready at =
        let no : None ≡ Some a =
        sym (none_accessed code t top below (shape_of protected (length below) top i) (plain_shape (length below) top i tt)) ∙ at in
        absurd (cc)

    right_by : (o : Option CodePlace) (a : ℕ)
        → place_at code top.function top.place ≡ o
        → accesses (action_by code t top below (shape_at top below o)) ≡ Some a
        → IsRightAccess code past t site top o a
    right_by None a here at = absurd (cc)
    right_by (Some i) a here at = right_at i a (r.ready i here) at

    running_right : (a : ℕ) → accesses (next code t (Running top below)) ≡ Some a
        → IsRightAccess code past t site top (place_at code top.function top.place) a
    running_right a at = right_by (place_at code top.function top.place) a refl at

  word_of : (b a : ℕ) → Some b ≡ Some a → a ≡ b
  word_of b a is = cc

  thread_right : (past : List Step) (t : ℕ) (thread : Thread Value) (a : ℕ)
      → ThreadIs setting valid few past t thread
      → accesses (next code t thread) ≡ Some a
      → IsRightFrom code past t (site_of thread) (Some thread) a
  thread_right past t Waiting a is at = inl (word_of (start_address t) a at)
  thread_right past t (Starting f) a is at = inr (word_of (argument_address t) a at)
  thread_right past t (Running top below) a is at = running_right past t top below is a at
  thread_right past t Ended a is at = absurd (cc)
  thread_right past t (Stopped why) a is at = absurd (cc)

  -- a step, where it is a get or a put
  abbrev StepIsRight : List Step → State → Step → Type 0
  StepIsRight past s (Turned t site action answer notes) =
      (a : ℕ) → accesses action ≡ Some a → IsRightFrom code past t site (slice_get s.threads t) a
  StepIsRight past s _ = Unit {0}

  event_right : (past : List Step) (s : State) (e : Event) → Kept setting valid few past s → StepIsRight past s (happens setting s e).step
  event_right past s e kept =
      any_event setting s (λ (move : Move). StepIsRight past s move.step)
      tt
      (λ t thread there live a at.
      subst (λ (o : Option (Thread Value)). IsRightFrom code past t (site_of thread) o a) (sym there)
      (thread_right past t thread a (subst (λ (o : Option (Thread Value)). ThreadAt setting valid few past t o) there (kept.0 t)) at))
      (λ a w. tt)
      (λ t thread there live begun. tt)
      e

  accesses_are_right : (threads : ℕ) → 1 ≤ threads → threads ≤ 16 → (events : List Event) → AccessesAreRight setting (opening setting threads) events
  accesses_are_right threads some many events earlier later e t here action answer notes a split is at =
      let s = state_after setting (opening setting threads) earlier in
      let past = steps_from setting (opening setting threads) earlier in
      subst (StepIsRight past s) is (event_right past s e (reached_is setting valid few threads some many earlier)) a at

-- a run's values and accesses are based on objects that were made before
pub run_is_based :
    (program : Program) (setting : Setting) (threads : ℕ) (events : List Event)
    → ValidCode setting.code
    → Stands setting.code program
    → setting.slots ≤ 1048576
    → 1 ≤ threads
    → threads ≤ 16
    → BasedOn program setting threads events
run_is_based program setting threads events valid stands few some many = record {
  values = λ before after split. values_behind program setting valid stands threads before;
  accesses = accesses_are_right setting valid few threads some many events;
}

-- Each start goes to the function that its thread found at its start word.
use Rattle.std.proofs.Common.{◌≡◌, ℕ, suc, Bool, true, false, if◌then◌else◌, List, [], ◌∷◌, ◌++◌, length, Contains, Option, Some, None, slice_get, refl, sym, ap, ◌∙◌, append_assoc}
use Rattle.std.proofs.lemmas.List.Elements.{All-nil, All-push}
use Rattle.std.specs.FinMap.{get}
use Rattle.c_types.specs.declared.ty.FnTy.{FnTy}
use Rattle.c_types.specs.declared.ty.Ty.TheVariants as ty
use Rattle.c_types.specs.Same.{same}
use Rattle.core_ir.specs.Typed.{start_type}
use Rattle.meaning.specs.declared.action.Action.{Action}
use Rattle.meaning.specs.declared.action.Action.TheVariants as act
use Rattle.meaning.specs.declared.action.Reply.{Reply}
use Rattle.meaning.specs.declared.action.Reply.TheVariants as reply
use Rattle.meaning.specs.declared.event.Event.{Event}
use Rattle.meaning.specs.declared.note.Note.{Note}
use Rattle.meaning.specs.declared.note.Note.TheVariants as note
use Rattle.meaning.specs.declared.note.Place.{Place}
use Rattle.meaning.specs.declared.value.Entry.{Entry}
use Rattle.meaning.specs.declared.value.Entry.TheVariants as entry
use Rattle.meaning.specs.declared.value.Stop.{Stop}
use Rattle.meaning.specs.declared.value.Stop.TheVariants.{Failed}
use Rattle.meaning.specs.declared.value.Check.TheVariants.{WrongType}
use Rattle.meaning.specs.declared.value.Value.{Value}
use Rattle.meaning.specs.declared.value.Value.TheVariants.{Code as CodeValue}
use Rattle.machine.specs.Addresses.{start_address}
use Rattle.machine.specs.declared.code.Code.{Code}
use Rattle.machine.specs.declared.code.CodeFunction.{CodeFunction}
use Rattle.machine.specs.Domain.{Callee, Reaches, Refused}
use Rattle.machine.specs.Frames.{Effect, Ended, Enters, Frame, Goes, Leaves, Running, Starting, Stopped, Stops, Thread, Waiting, is_live}
use Rattle.machine.specs.Protected.{callee_of_type, found_entry, next, protected, protected_callee, start_by, started}
use Rattle.machine.specs.Run.{CutOff, Idle, Setting, Site, State, Step, Turned, Wrote, opening, run, takes_turn}
use Rattle.machine.specs.Threads.{Told, applied, enters, leaves, opened, result_slot, result_write}
use Rattle.machine.specs.Transfers.{Gets, IsFound}
use Rattle.machine.specs.Values.{loaded_entry}
use Rattle.thread_laws.proofs.FittingValues.{Each}
use Rattle.machine_laws.proofs.Events.{IsNoTurn, IsNotOf, answer_in, each_step, opening_each, told_in}
use Rattle.machine_laws.proofs.Splits.{EachBehind-at}
use Rattle.machine_laws.proofs.Turns.{running}
use Rattle.transfer_laws.proofs.Notes.{contained, slots_quiet, write_quiet}

-- ---- functions that are reached

typed_reaches : (f g : ℕ) (why : Stop) (b : Bool) → (if b then Reaches g else Refused why) ≡ Reaches f → f ≡ g
typed_reaches f g why true is = cc
typed_reaches f g why false is = absurd (cc)

function_reaches : (type : FnTy) (o : Option CodeFunction) (f g : ℕ) → callee_of_type type o g ≡ Reaches f → f ≡ g
function_reaches type None f g is = absurd (cc)
function_reaches type (Some c) f g is = typed_reaches f g (Failed WrongType) (same (ty.Function type) (ty.Function c.ty)) is

-- a value that is called is the function that is reached
pub value_reaches : (code : Code) (type : FnTy) (v : Value) (f : ℕ) → protected_callee code type v ≡ Reaches f → v ≡ CodeValue f
value_reaches code type (CodeValue g) f is = ap (λ (n : ℕ). CodeValue n) (sym (function_reaches type (slice_get code.functions g) f g is))
value_reaches code type _ f is = absurd (cc)

-- an entry that loads as a function is that function
pub loaded_code : (o : Option Entry) (f : ℕ) → loaded_entry o ≡ CodeValue f → o ≡ Some (entry.Code f)
loaded_code None f is = absurd (cc)
loaded_code (Some (entry.Code g)) f is = let same : g ≡ f = cc in ap (λ (n : ℕ). Some (entry.Code n)) same
loaded_code (Some (entry.Bare n)) f is = absurd (cc)
loaded_code (Some (entry.Based value lower upper id)) f is = absurd (cc)

-- ---- threads that start

abbrev StartIs : List Step → ℕ → Option (Thread Value) → Type 0
StartIs past t (Some (Starting f)) = IsFound past t (start_address t) f
StartIs past t _ = Unit {0}

gets_none : (t a : ℕ) (step : Step) → IsNotOf t step → Gets t a step → ⊥
gets_none t a (Turned u site (act.Get b) answer notes) other gets = other gets.0
gets_none t a _ other gets = gets

found_later : (past : List Step) (step : Step) (t a f : ℕ) → IsNotOf t step → IsFound past t a f → IsFound (past ++ step ∷ []) t a f
found_later past step t a f other was =
    let read : Step = Turned t was.at (act.Get a) (reply.Found (Some (entry.Code f))) was.notes in
    record {
      earlier = was.earlier;
      at = was.at;
      notes = was.notes;
      later = was.later ++ step ∷ [];
      is = ap (λ (l : List Step). l ++ step ∷ []) was.is ∙ append_assoc was.earlier (read ∷ was.later) (step ∷ []);
      only = All-push (λ (x : Step). Gets t a x → ⊥) was.later step was.only (gets_none t a step other);
    }

start_later : (past : List Step) (step : Step) (t : ℕ) (o : Option (Thread Value)) → IsNotOf t step → StartIs past t o → StartIs (past ++ step ∷ []) t o
start_later past step t None other was = tt
start_later past step t (Some Waiting) other was = tt
start_later past step t (Some (Starting f)) other was = found_later past step t (start_address t) f other was
start_later past step t (Some (Running top below)) other was = tt
start_later past step t (Some Ended) other was = tt
start_later past step t (Some (Stopped why)) other was = tt

-- ---- turns

-- a start that is told
abbrev IsStartTold : List Step → ℕ → Note → Type 0
IsStartTold past t (note.Start f a) = (a ≡ start_address t) × IsFound past t a f
IsStartTold past t n = Unit {0}

module _ (setting : Setting) (past : List Step) (s : State) (t : ℕ) where
  abbrev read_by : Option Entry → List Note → Step
  read_by o notes = Turned t None (act.Get (start_address t)) (reply.Found o) notes

  just_found : (o : Option Entry) (notes : List Note) (f : ℕ) → o ≡ Some (entry.Code f) → IsFound (past ++ read_by o notes ∷ []) t (start_address t) f
  just_found o notes f is = record {
    earlier = past;
    at = None;
    notes = notes;
    later = [];
    is = ap (λ (e : Option Entry). past ++ read_by e notes ∷ []) is;
    only = All-nil (λ (x : Step). Gets t (start_address t) x → ⊥);
  }

  callee_found : (e : Entry) (notes : List Note) (c : Callee) → protected_callee setting.code start_type (loaded_entry (Some e)) ≡ c
      → StartIs (past ++ read_by (Some e) notes ∷ []) t (Some (start_by c).thread)
  callee_found e notes (Reaches f) is =
      just_found (Some e) notes f (loaded_code (Some e) f (value_reaches setting.code start_type (loaded_entry (Some e)) f is))
  callee_found e notes (Refused why) is = tt

  entry_found : (o : Option Entry) (notes : List Note) → StartIs (past ++ read_by o notes ∷ []) t (Some (started setting.code o).thread)
  entry_found None notes = tt
  entry_found (Some e) notes = callee_found e notes (protected_callee setting.code start_type (loaded_entry (Some e))) refl

  abbrev StartsNone : Told Value → Type 0
  StartsNone told =
      ((later : List Step) → StartIs later t (Some told.thread))
      × Each (IsStartTold past t) told.notes

  none_left : (below : List (Frame Value)) (v : Value) → StartsNone (leaves protected setting.code below v)
  none_left [] v = (λ later. tt, (tt, tt))
  none_left (caller ∷ below) v =
      (λ later. tt, (tt, write_quiet (IsStartTold past t) (λ depth s f. tt) (λ at f. tt) (length below) (result_write protected (result_slot setting.code caller) v)))

  none_entered : (top : Frame Value) (below : List (Frame Value)) (f : ℕ) (arguments : List Value) (through : Option Place)
      → StartsNone (enters protected setting.code top below f arguments through)
  none_entered top below f arguments None =
      (λ later. tt, (tt, slots_quiet (IsStartTold past t) (λ depth s f. tt) (λ at f. tt) (suc (length below)) 0 (opened protected setting.code f arguments).slots))
  none_entered top below f arguments (Some place) =
      (λ later. tt, (tt, slots_quiet (IsStartTold past t) (λ depth s f. tt) (λ at f. tt) (suc (length below)) 0 (opened protected setting.code f arguments).slots))

  none_applied : (top : Frame Value) (below : List (Frame Value)) (e : Effect Value) → StartsNone (applied protected setting.code top below e)
  none_applied top below (Stops why) = (λ later. tt, (tt, tt))
  none_applied top below (Goes to w) = (λ later. tt, write_quiet (IsStartTold past t) (λ depth s f. tt) (λ at f. tt) (length below) w)
  none_applied top below (Enters f arguments through) = none_entered top below f arguments through
  none_applied top below (Leaves v) = none_left below v

  running_none : (top : Frame Value) (below : List (Frame Value)) → StartsNone (told_in setting s t (Running top below))
  running_none top below =
      running setting.code t top below (answer_in setting s) (λ (action : Action) (told : Told Value). StartsNone told)
      (λ why. (λ later. tt, (tt, tt)))
      (λ none. (λ later. tt, tt))
      (λ i here goes. none_applied top below _)

  callee_tells : (c : Callee) → Each (IsStartTold past t) (start_by c).notes
  callee_tells (Reaches f) = tt
  callee_tells (Refused why) = (tt, tt)

  entry_tells : (o : Option Entry) → Each (IsStartTold past t) (started setting.code o).notes
  entry_tells None = tt
  entry_tells (Some e) = callee_tells (protected_callee setting.code start_type (loaded_entry (Some e)))

  start_turn : (thread : Thread Value) → is_live thread ≡ true → StartIs past t (Some thread)
      → StartIs (past ++ (takes_turn setting s t thread).step ∷ []) t (Some (told_in setting s t thread).thread)
  start_turn Waiting live was = entry_found (get s.store.entries (start_address t)) _
  start_turn (Starting f) live was = tt
  start_turn (Running top below) live was = (running_none top below).0 _
  start_turn Ended live was = absurd (cc)
  start_turn (Stopped why) live was = absurd (cc)

  tells : (thread : Thread Value) → is_live thread ≡ true → StartIs past t (Some thread) → Each (IsStartTold past t) (told_in setting s t thread).notes
  tells Waiting live was = entry_tells (get s.store.entries (start_address t))
  tells (Starting f) live was = (
    (refl, was),
    slots_quiet (IsStartTold past t) (λ depth s f. tt) (λ at f. tt) 0 0
        (opened protected setting.code f (loaded_entry (found_entry (answer_in setting s (next setting.code t (Starting f)))) ∷ [])).slots,
  )
  tells (Running top below) live was = (running_none top below).1
  tells Ended live was = absurd (cc)
  tells (Stopped why) live was = absurd (cc)

-- each start that a step tells goes to what was found
abbrev AreStartsFound : List Step → Step → Type 0
AreStartsFound past (Turned t site action answer notes) = Each (IsStartTold past t) notes
AreStartsFound past _ = Unit {0}

still_found : (past : List Step) (step : Step) → IsNoTurn step → AreStartsFound past step
still_found past (Turned t at action answer notes) none = absurd none
still_found past (Wrote a w) none = tt
still_found past (CutOff u) none = tt
still_found past Idle none = tt

pub starts_are_found :
    (setting : Setting) (threads : ℕ) (events : List Event) (before after : List Step) (t : ℕ) (at : Option Site) (action : Action) (answer : Reply)
    (notes : List Note) (f a : ℕ)
    → run setting threads events ≡ before ++ Turned t at action answer notes ∷ after
    → Contains notes (note.Start f a)
    → (a ≡ start_address t) × IsFound before t a f
starts_are_found setting threads events before after t at action answer notes f a split has =
    contained (IsStartTold before t) notes (note.Start f a)
    (EachBehind-at AreStartsFound [] (run setting threads events) before after (Turned t at action answer notes)
    (each_step setting StartIs start_later (λ past t thread was live. tt)
    (λ past s t thread live was. start_turn setting past s t thread live was)
    AreStartsFound still_found
    (λ past s t thread live was. tells setting past s t thread live was)
    [] (opening setting threads) events
    (opening_each setting threads (StartIs []) tt (λ t. tt) (λ t. tt)))
    split)
    has

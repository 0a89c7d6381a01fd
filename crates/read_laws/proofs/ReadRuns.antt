-- In every run each call through a pointer goes to the function that was read.
use Rattle.std.proofs.Common.{◌≡◌, ℕ, pos, ◌≤◌, List, [], ◌∷◌, ◌++◌, length, Contains, Option, Some, None, slice_get, refl, subst, arith}
use Rattle.meaning.specs.declared.action.Action.{Action}
use Rattle.meaning.specs.declared.action.Reply.{Reply}
use Rattle.meaning.specs.declared.event.Event.{Event}
use Rattle.meaning.specs.declared.note.Note.{Note}
use Rattle.meaning.specs.declared.note.Note.TheVariants as note
use Rattle.meaning.specs.declared.note.Place.{Place}
use Rattle.meaning.specs.declared.value.Value.{Value}
use Rattle.meaning.specs.declared.value.Value.TheVariants.{Bare, Code as CodeValue}
use Rattle.machine.specs.declared.code.Code.{Code}
use Rattle.machine.specs.Frames.{Ended, Frame, Running, Starting, Stopped, Thread, Waiting}
use Rattle.machine.specs.Protected.{protected}
use Rattle.machine.specs.Run.{Move, Setting, Site, State, Step, Turned, happens, opening, run}
use Rattle.machine.specs.Shapes.{slot}
use Rattle.machine.specs.Threads.{opened}
use Rattle.machine.specs.Transfers.{IsReadBefore}
use Rattle.machine.specs.ValidCode.{ValidCode}
use Rattle.thread_laws.proofs.FittingValues.{all_read}
use Rattle.machine_laws.proofs.Events.{IsNotOf, all_said, any_event, each_kept, opening_each}
use Rattle.machine_laws.proofs.Frames.{opened_place}
use Rattle.machine_laws.proofs.Splits.{EachBehind, EachBehind-at}
use Rattle.machine_laws.proofs.Values.{FrameOf, IsClosed, opened_of}
use Rattle.read_laws.proofs.CallReads.{CallsAreRead, IsCallTold, OwnReads, turn_calls, turn_reads}
use Rattle.read_laws.proofs.CodeReads.{ThreadReads, frames_later as reads_later, new_reads}
use Rattle.transfer_laws.proofs.Notes.{contained}
use Rattle.unit_laws.proofs.OwnedStates.{OwnState, reads_own}
use Rattle.unit_laws.proofs.OwnRuns.{opening_owns, own_keeps}
use Rattle.read_laws.proofs.Tells.{others_pass}

-- a value that is no function
abbrev NoFunction : Value → Type 0
NoFunction (CodeValue f) = ⊥
NoFunction v = Unit {0}

plain_is_closed : IsClosed NoFunction
plain_is_closed = record { bare = λ n. tt; moved = λ value lower upper id k here. here }

module _ (setting : Setting) (valid : ValidCode setting.code) (few : setting.slots ≤ 1048576) where
  abbrev code : Code
  code = setting.code

  -- ---- reads

  abbrev ReadsAt : List Step → ℕ → Option (Thread Value) → Type 0
  ReadsAt past t None = Unit {0}
  ReadsAt past t (Some thread) = ThreadReads code past t thread

  at_later : (past : List Step) (step : Step) (t : ℕ) (o : Option (Thread Value)) → IsNotOf t step → ReadsAt past t o → ReadsAt (past ++ step ∷ []) t o
  at_later past step t None other was = tt
  at_later past step t (Some (Running top below)) other was =
      reads_later code past step t (top ∷ below) (length (top ∷ below)) (omega arith) (λ d low. others_pass t d step other) was
  at_later past step t (Some Waiting) other was = tt
  at_later past step t (Some (Starting f)) other was = tt
  at_later past step t (Some Ended) other was = tt
  at_later past step t (Some (Stopped why)) other was = tt

  own_reads : (past : List Step) (s : State) → OwnState setting valid few past s → (t : ℕ) (thread : Thread Value) → slice_get s.threads t ≡ Some thread → OwnReads code past t thread
  own_reads past s is t (Running top below) there = λ i here r p u f kind same value.
      reads_own setting valid few past s is t (Running top below) there top below refl i r p u f kind here same value
  own_reads past s is t Waiting there = tt
  own_reads past s is t (Starting f) there = tt
  own_reads past s is t Ended there = tt
  own_reads past s is t (Stopped why) there = tt

  abbrev Kept : List Step → State → Type 0
  Kept past s = OwnState setting valid few past s × ((t : ℕ) → ReadsAt past t (slice_get s.threads t))

  keeps : (past : List Step) (s : State) (e : Event) → Kept past s → Kept (past ++ (happens setting s e).step ∷ []) (happens setting s e).after
  keeps past s e kept = (
    own_keeps setting valid few past s e kept.0,
    each_kept setting ReadsAt at_later (λ past t thread was live. tt) (OwnState setting valid few)
        (λ past s t thread own there live was. turn_reads setting valid s past t thread live (own_reads past s own t thread there) was)
        past s e kept.0 kept.1,
  )

  says : (past : List Step) (s : State) (e : Event) → Kept past s → CallsAreRead code past (happens setting s e).step
  says past s e kept =
      any_event setting s (λ (move : Move). CallsAreRead code past move.step)
      tt
      (λ t thread there live.
      turn_calls setting valid s past t thread live (subst (λ (o : Option (Thread Value)). ReadsAt past t o) there (kept.1 t)))
      (λ a w. tt)
      (λ t thread there live begun. tt)
      e

  first_slots : (past : List Step) (k f : ℕ) → slot protected (opened protected code code.entry []) k ≡ CodeValue f → ⊥
  first_slots past k f is =
      let new : Frame Value = opened protected code code.entry [] in
      let plain : FrameOf NoFunction new = opened_of NoFunction plain_is_closed code code.entry [] tt in
      subst NoFunction is (all_read NoFunction new.slots k (Bare (pos 0)) plain.slots tt)

  pub calls_are_read : (threads : ℕ) (events : List Event) → EachBehind (CallsAreRead code) [] (run setting threads events)
  calls_are_read threads events =
      all_said setting Kept keeps (CallsAreRead code) says [] (opening setting threads) events (
        opening_owns setting valid few threads,
        opening_each setting threads (ReadsAt [])
            (new_reads code [] 0 0 (opened protected code code.entry []) (opened_place code code.entry []) (λ k f is. absurd (first_slots [] k f is)), tt)
            (λ t. tt)
            (λ t. tt),
      )

pub run_reads :
    (setting : Setting) (threads : ℕ) (events : List Event)
    → ValidCode setting.code
    → setting.slots ≤ 1048576
    → (before after : List Step) (t : ℕ) (at : Option Site) (action : Action) (answer : Reply) (notes : List Note)
    (depth f from : ℕ) (place : Place)
    → run setting threads events ≡ before ++ Turned t at action answer notes ∷ after
    → Contains notes (note.Indirect depth f from place)
    → IsReadBefore setting.code before t at f from place
run_reads setting threads events valid few before after t at action answer notes depth f from place split has =
    contained (IsCallTold setting.code before t at) notes (note.Indirect depth f from place)
    (EachBehind-at (CallsAreRead setting.code) [] (run setting threads events) before after (Turned t at action answer notes)
    (calls_are_read setting valid few threads events) split)
    has

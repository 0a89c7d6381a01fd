-- What a thread does in its turn is what the turn does to the state.
use Rattle.std.proofs.Common.{◌≡◌, ℕ, Bool, true, false, List, [], ◌∷◌, ◌++◌, length, map, refl, sym, ap, ◌∙◌, Some, slice_get, slice_set}
use Rattle.std.proofs.lemmas.List.{append-nil}
use Rattle.meaning.specs.declared.action.Action.{Action}
use Rattle.meaning.specs.declared.action.Reply.{Reply}
use Rattle.meaning.specs.declared.note.Note.{Note}
use Rattle.meaning.specs.declared.record.Record.{Record}
use Rattle.meaning.specs.declared.record.Record.TheVariants.{Noted, Steps}
use Rattle.meaning.specs.declared.value.Value.{Value}
use Rattle.meaning.specs.Blocks.{repeated}
use Rattle.meaning.specs.Records.{added, added_all, did, or_one_step}
use Rattle.machine.specs.declared.code.Code.{Code}
use Rattle.machine.specs.Frames.{Thread, is_live}
use Rattle.machine.specs.Protected.{next, resume}
use Rattle.machine.specs.Run.{State, cuts, state_after, steps_from, turns}
use Rattle.meaning.specs.declared.event.Event.TheVariants.{Turn}
use Rattle.machine.specs.Store.{remembered}
use Rattle.machine.specs.Trace.{traced, turn_records}
use Rattle.region_seq.specs.Bounded.{behind}
use Rattle.thread_engine.specs.Quiet.{IsQuietTurn}
use Rattle.machine.specs.Threads.{Told}
use Rattle.system.specs.declared.memories.Memories.{Memories}
use Rattle.system.proofs.SeatLemmas.{set_same}
use Rattle.system.specs.inner.Seats.{answer_of, is_running, setting_with, state_with, told_of}

-- a turn of a live thread
taken : (code : Code) (t : ℕ) (thread thread' : Thread Value) (m m' : Memories) (threads : List (Thread Value))
    → length threads ≡ m.region.threads
    → is_live thread ≡ true
    → thread' ≡ (told_of code t thread m).thread
    → m'.region ≡ behind m.region (next code t thread)
    → m'.plain ≡ remembered m.plain (next code t thread)
    → (turns (setting_with code m) (state_with m threads) t (Some thread)).after
    ≡ state_with m' (slice_set threads t thread')
taken code t thread thread' m m' threads len live told region plain = rw (live, len, told, region, plain) refl

-- and its records
recorded : (code : Code) (t : ℕ) (thread : Thread Value) (m : Memories) (threads : List (Thread Value)) (records records' : List Record)
    → length threads ≡ m.region.threads
    → is_live thread ≡ true
    → records' ≡ added_all records
    (turn_records t (next code t thread) (answer_of m (next code t thread)) (told_of code t thread m).notes)
    → records' ≡ traced records ((turns (setting_with code m) (state_with m threads) t (Some thread)).step ∷ [])
recorded code t thread m threads records records' len live is =
    let rs = turn_records t (next code t thread) (answer_of m (next code t thread)) (told_of code t thread m).notes in
    rw (live, len) (is ∙ ap (added_all records) (sym (append-nil rs)))

-- what a turn records is what its thread asks for, with its answer and what the thread is told
pub told_records : (code : Code) (t n : ℕ) (thread : Thread Value) (m : Memories) (begun before records : List Record)
    (action : Action) (reply : Reply) (notes : List Note)
    → n ≡ t
    → action ≡ next code n thread
    → reply ≡ answer_of m action
    → notes ≡ (resume code n thread (next code n thread) reply).notes
    → before ≡ begun
    → records ≡ added_all before (or_one_step t (did t action reply ++ map (Noted t) notes))
    → records ≡ added_all begun
    (turn_records t (next code t thread) (answer_of m (next code t thread)) (told_of code t thread m).notes)
told_records code t n thread m begun before records action reply notes same asked answered told begins is =
    rw (is, begins, told, answered, asked, same) refl

-- ---- a turn that asks for nothing and tells nothing

-- what it is told, where nothing answers
quiet_told : (code : Code) (t : ℕ) (thread thread' : Thread Value) (m : Memories)
    → IsQuietTurn code t thread thread'
    → told_of code t thread m ≡ record { thread = thread'; notes = [] }
quiet_told code t thread thread' m quiet =
    ap (λ (a : Action). resume code t thread a (answer_of m a)) quiet.asks ∙ quiet.goes

quietly_taken : (code : Code) (t : ℕ) (thread thread' : Thread Value) (m : Memories) (threads : List (Thread Value))
    → length threads ≡ m.region.threads
    → is_live thread ≡ true
    → IsQuietTurn code t thread thread'
    → (turns (setting_with code m) (state_with m threads) t (Some thread)).after
    ≡ state_with m (slice_set threads t thread')
quietly_taken code t thread thread' m threads len live quiet =
    taken code t thread thread' m m threads len live
    (sym (ap (λ (told : Told Value). told.thread) (quiet_told code t thread thread' m quiet)))
    (rw (quiet.asks) refl) (rw (quiet.asks) refl)

quietly_recorded : (code : Code) (t : ℕ) (thread thread' : Thread Value) (m : Memories) (threads : List (Thread Value)) (records records' : List Record)
    → length threads ≡ m.region.threads
    → is_live thread ≡ true
    → IsQuietTurn code t thread thread'
    → records' ≡ added records (Steps t 1)
    → records' ≡ traced records ((turns (setting_with code m) (state_with m threads) t (Some thread)).step ∷ [])
quietly_recorded code t thread thread' m threads records records' len live quiet is =
    recorded code t thread m threads records records' len live
    (rw (is, quiet_told code t thread thread' m quiet, quiet.asks) refl)

-- a turn of a thread that isn't live has no records
unrecorded : (code : Code) (t : ℕ) (thread : Thread Value) (m : Memories) (threads : List (Thread Value)) (records : List Record)
    → is_live thread ≡ false
    → records ≡ traced records ((turns (setting_with code m) (state_with m threads) t (Some thread)).step ∷ [])
unrecorded code t thread m threads records dead = rw dead refl

-- and leaves the state as it is
stays : (code : Code) (t : ℕ) (thread : Thread Value) (m : Memories) (threads : List (Thread Value))
    → is_live thread ≡ false
    → slice_get threads t ≡ Some thread
    → (turns (setting_with code m) (state_with m threads) t (Some thread)).after
    ≡ state_with m (slice_set threads t thread)
stays code t thread m threads dead is = rw (dead, set_same threads t thread is) refl

-- ---- one turn of the thread that stands there, as a list of events

module _ (code : Code) (t : ℕ) (thread : Thread Value) (m : Memories) (threads : List (Thread Value)) (at : slice_get threads t ≡ Some thread) where
  as_event : (s : State) → (turns (setting_with code m) (state_with m threads) t (Some thread)).after ≡ s
      → state_after (setting_with code m) (state_with m threads) (repeated 1 (Turn t ∷ [])) ≡ s
  as_event s is = ap (λ x. (turns (setting_with code m) (state_with m threads) t x).after) at ∙ is

  as_step : (records records' : List Record)
      → records' ≡ traced records ((turns (setting_with code m) (state_with m threads) t (Some thread)).step ∷ [])
      → records' ≡ traced records (steps_from (setting_with code m) (state_with m threads) (repeated 1 (Turn t ∷ [])))
  as_step records records' is = is ∙ ap (λ x. traced records ((turns (setting_with code m) (state_with m threads) t x).step ∷ [])) (sym at)

pub taken_once : (code : Code) (t : ℕ) (thread thread' : Thread Value) (m m' : Memories) (threads : List (Thread Value))
    → length threads ≡ m.region.threads
    → is_live thread ≡ true
    → thread' ≡ (told_of code t thread m).thread
    → m'.region ≡ behind m.region (next code t thread)
    → m'.plain ≡ remembered m.plain (next code t thread)
    → slice_get threads t ≡ Some thread
    → state_after (setting_with code m) (state_with m threads) (repeated 1 (Turn t ∷ [])) ≡ state_with m' (slice_set threads t thread')
taken_once code t thread thread' m m' threads len live told region plain at =
    as_event code t thread m threads at (state_with m' (slice_set threads t thread')) (taken code t thread thread' m m' threads len live told region plain)

pub recorded_once : (code : Code) (t : ℕ) (thread : Thread Value) (m : Memories) (threads : List (Thread Value)) (records records' : List Record)
    → length threads ≡ m.region.threads
    → is_live thread ≡ true
    → records' ≡ added_all records
    (turn_records t (next code t thread) (answer_of m (next code t thread)) (told_of code t thread m).notes)
    → slice_get threads t ≡ Some thread
    → records' ≡ traced records (steps_from (setting_with code m) (state_with m threads) (repeated 1 (Turn t ∷ [])))
recorded_once code t thread m threads records records' len live is at =
    as_step code t thread m threads at records records' (recorded code t thread m threads records records' len live is)

pub quiet_turn : (code : Code) (t : ℕ) (thread thread' : Thread Value) (m : Memories) (threads : List (Thread Value))
    → length threads ≡ m.region.threads
    → is_live thread ≡ true
    → IsQuietTurn code t thread thread'
    → slice_get threads t ≡ Some thread
    → state_after (setting_with code m) (state_with m threads) (repeated 1 (Turn t ∷ [])) ≡ state_with m (slice_set threads t thread')
quiet_turn code t thread thread' m threads len live quiet at =
    as_event code t thread m threads at (state_with m (slice_set threads t thread')) (quietly_taken code t thread thread' m threads len live quiet)

pub quiet_record : (code : Code) (t : ℕ) (thread thread' : Thread Value) (m : Memories) (threads : List (Thread Value)) (records : List Record)
    → length threads ≡ m.region.threads
    → is_live thread ≡ true
    → IsQuietTurn code t thread thread'
    → slice_get threads t ≡ Some thread
    → added records (Steps t 1) ≡ traced records (steps_from (setting_with code m) (state_with m threads) (repeated 1 (Turn t ∷ [])))
quiet_record code t thread thread' m threads records len live quiet at =
    as_step code t thread m threads at records (added records (Steps t 1))
    (quietly_recorded code t thread thread' m threads records (added records (Steps t 1)) len live quiet refl)

pub unrecorded_once : (code : Code) (t : ℕ) (thread : Thread Value) (m : Memories) (threads : List (Thread Value)) (records : List Record)
    → is_live thread ≡ false
    → slice_get threads t ≡ Some thread
    → records ≡ traced records (steps_from (setting_with code m) (state_with m threads) (repeated 1 (Turn t ∷ [])))
unrecorded_once code t thread m threads records dead at =
    as_step code t thread m threads at records records (unrecorded code t thread m threads records dead)

pub stays_once : (code : Code) (t : ℕ) (thread : Thread Value) (m : Memories) (threads : List (Thread Value))
    → is_live thread ≡ false
    → slice_get threads t ≡ Some thread
    → state_after (setting_with code m) (state_with m threads) (repeated 1 (Turn t ∷ [])) ≡ state_with m (slice_set threads t thread)
stays_once code t thread m threads dead at =
    as_event code t thread m threads at (state_with m (slice_set threads t thread)) (stays code t thread m threads dead at)

-- a cut of a thread that can't be cut off leaves the state as it is
pub uncut : (t : ℕ) (thread : Thread Value) (m : Memories) (threads : List (Thread Value)) (can : Bool)
    → can ≡ false
    → can ≡ is_running thread
    → slice_get threads t ≡ Some thread
    → (cuts (state_with m threads) t (Some thread)).after ≡ state_with m (slice_set threads t thread)
uncut t thread m threads can cannot is at = rw (sym is, cannot, set_same threads t thread at) refl

-- Logs: what one thread asked and was answered, as a run of that thread alone; the events that explain the logs of all
-- threads; and runs that real threads end.
use Rattle.std.specs.Prelude.{◌≡◌, ◌≢◌, ◌⊎◌, ◌↔◌, ℕ, zero, suc, ℤ, ◌<◌, ◌≤◌, Bool, true, false, if◌then◌else◌, nat_eq, List, [], ◌∷◌, ◌++◌, length, Option, Some, None, Contains, slice_get}
use Rattle.std.specs.List.{All}
use Rattle.meaning.specs.Action.{Fits}
use Rattle.meaning.specs.declared.action.Action.{Action}
use Rattle.meaning.specs.declared.action.Action.TheVariants as act
use Rattle.meaning.specs.declared.action.Reply.{Reply}
use Rattle.meaning.specs.declared.action.Reply.TheVariants as reply
use Rattle.meaning.specs.declared.event.Event.{Event}
use Rattle.meaning.specs.declared.event.Event.TheVariants.{Corrupt, Cut}
use Rattle.meaning.specs.declared.value.Value.{Value}
use Rattle.meaning.specs.Legal.{Call}
use Rattle.machine.specs.Addresses.{start_address}
use Rattle.machine.specs.declared.code.Code.{Code}
use Rattle.machine.specs.Frames.{Thread, Waiting, Running, has_begun, is_live}
use Rattle.machine.specs.Protected.{next, protected, resume}
use Rattle.machine.specs.Run.{Idle, Setting, State, Step, Turned, happens, opening, state_after, steps_from}
use Rattle.machine.specs.Store.{input_at, word_at}
use Rattle.machine.specs.Threads.{opened}

-- ---- one thread alone

-- where thread m begins
abbrev pub first_thread : Code → ℕ → Thread Value
first_thread code zero = Running (opened protected code code.entry []) []
first_thread code (suc m) = Waiting

-- an input's reply is that input
abbrev pub IsInputOf : List ℤ → Action → Reply → Type 0
IsInputOf inputs (act.Input n) answer = answer ≡ reply.Word (input_at inputs n)
IsInputOf inputs _ answer = Unit {0}

-- From this state on, thread m is live and asks for each of these calls in turn; each reply fits.
abbrev pub LocalRunFrom : Code → List ℤ → ℕ → Thread Value → List Call → Type 0
LocalRunFrom code inputs m thread [] = Unit {0}
LocalRunFrom code inputs m thread (c ∷ cs) =
    (is_live thread ≡ true)
    × (c.0 ≡ next code m thread)
    × Fits c.0 c.1
    × IsInputOf inputs c.0 c.1
    × LocalRunFrom code inputs m (resume code m thread c.0 c.1).thread cs

-- a thread's log is a run of it alone
abbrev pub LocalRun : Code → List ℤ → ℕ → List Call → Type 0
LocalRun code inputs m calls = LocalRunFrom code inputs m (first_thread code m) calls

-- ---- events that explain the logs of all threads

abbrev pub call_by : ℕ → Step → List Call
call_by m (Turned t site action answer notes) = if nat_eq t m then (action, answer) ∷ [] else []
call_by m _ = []

-- the actions and replies of thread m's turns, in order
abbrev pub calls_by : ℕ → List Step → List Call
calls_by m [] = []
calls_by m (step ∷ steps) = call_by m step ++ calls_by m steps

-- the ordinary word that a turn reads, and the address
abbrev pub read_word : Step → Option (ℕ × ℤ)
read_word (Turned t site (act.Load a) (reply.Word w) notes) = Some (a, w)
read_word (Turned t site (act.TryLock a) (reply.Word w) notes) = Some (a, w)
read_word _ = None

-- Events where each corruption stands directly before a turn that reads its word, which had another value.
abbrev pub CorruptsRightly : Setting → State → List Event → Type 0
CorruptsRightly setting s [] = Unit {0}
CorruptsRightly setting s (Corrupt a w ∷ []) = ⊥
CorruptsRightly setting s (Corrupt a w ∷ e ∷ es) =
    (word_at s.memory a ≢ w)
    × (read_word (happens setting (happens setting s (Corrupt a w)).after e).step ≡ Some (a, w))
    × CorruptsRightly setting (happens setting s (Corrupt a w)).after (e ∷ es)
CorruptsRightly setting s (e ∷ es) = CorruptsRightly setting (happens setting s e).after es

-- the events explain the logs, one for each thread
pub record Explained (setting : Setting) (logs : List (List Call)) (events : List Event) : Type 0 where
  pub turns :
      (m : ℕ) (log : List Call)
      → slice_get logs m ≡ Some log
      → calls_by m (steps_from setting (opening setting (length logs)) events) ≡ log
  pub corruptions : CorruptsRightly setting (opening setting (length logs)) events
  -- each turn is one of a thread that there is and that is live
  pub busy : All (λ step. step ≢ Idle) (steps_from setting (opening setting (length logs)) events)

-- ---- runs that real threads end

-- a get that finds thread t's start
abbrev pub finds_start : ℕ → Call → Bool
finds_start t (act.Get a, reply.Found (Some e)) = nat_eq a (start_address t)
finds_start t _ = false

-- the turns behind the one that found the start
abbrev pub turns_behind : ℕ → List Call → ℕ
turns_behind t [] = 0
turns_behind t (c ∷ cs) = if finds_start t c then length cs else turns_behind t cs

-- the counted turns of a thread: all of thread 0
abbrev pub counted_turns : ℕ → List Call → ℕ
counted_turns zero calls = length calls
counted_turns (suc m) calls = turns_behind (suc m) calls

abbrev pub has_found_start : ℕ → List Call → Bool
has_found_start t [] = false
has_found_start t (c ∷ cs) = if finds_start t c then true else has_found_start t cs

-- thread 0 runs from the start
abbrev pub has_started : ℕ → List Call → Bool
has_started zero calls = true
has_started (suc m) calls = has_found_start (suc m) calls

-- the events without their last cuts
abbrev pub IsCut : Event → Type 0
IsCut (Cut t) = Unit {0}
IsCut _ = ⊥

abbrev pub AreAscending : List Event → Type 0
AreAscending (Cut t ∷ Cut u ∷ es) = (t < u) × AreAscending (Cut u ∷ es)
AreAscending _ = Unit {0}

abbrev pub PutsAt : ℕ → Step → Type 0
PutsAt a (Turned t site (act.Put b e) answer notes) = b ≡ a
PutsAt a _ = ⊥

-- A run of so many threads in which each takes at most so many counted turns, and all have ended.
pub record Settled (setting : Setting) (threads most : ℕ) (events : List Event) : Type 0 where
  pub before : List Event
  pub cuts : List Event
  pub is : events ≡ before ++ cuts
  pub no_other_cuts : All (λ e. IsCut e → ⊥) before
  pub only_cuts : All IsCut cuts
  pub ascending : AreAscending cuts
  -- of threads that there are
  pub cuts_there : (t : ℕ) → Contains cuts (Cut t) → t < threads
  -- no thread takes more turns
  pub few_turns :
      (t : ℕ) → t < threads
      → counted_turns t (calls_by t (steps_from setting (opening setting threads) events)) ≤ most
  -- a thread that started has ended, has stopped, or took them all
  pub all_taken :
      (t : ℕ) (thread : Thread Value)
      → has_started t (calls_by t (steps_from setting (opening setting threads) events)) ≡ true
      → slice_get (state_after setting (opening setting threads) before).threads t ≡ Some thread
      → (is_live thread ≡ false)
      ⊎ (counted_turns t (calls_by t (steps_from setting (opening setting threads) events)) ≡ most)
  -- just those are cut that took them all, and neither ended nor stopped before
  pub cut_where :
      (t : ℕ) (thread : Thread Value)
      → slice_get (state_after setting (opening setting threads) before).threads t ≡ Some thread
      → Contains cuts (Cut t)
      ↔ ((is_live thread ≡ true) × (has_begun thread ≡ true)
      × (counted_turns t (calls_by t (steps_from setting (opening setting threads) events)) ≡ most))
  -- where a start wasn't found, none was put
  pub none_lost :
      (t : ℕ) → 0 < t → t < threads
      → has_started t (calls_by t (steps_from setting (opening setting threads) events)) ≡ false
      → All (λ step. PutsAt (start_address t) step → ⊥) (steps_from setting (opening setting threads) events)
  pub corruptions : CorruptsRightly setting (opening setting threads) before

-- What each thread keeps, where its own turns and cuts keep it and the other events don't concern it.
use Rattle.std.proofs.Common.{◌≡◌, ◌≢◌, inl, inr, ℕ, ℤ, zero, suc, ◌-◌, Bool, true, false, ◌&&◌, if◌then◌else◌, List, [], ◌∷◌, ◌++◌, length, replicate, Option, Some, None, slice_get, slice_set, refl, sym, ap, subst, arith, append_assoc, append-nil}
use Rattle.meaning.specs.declared.action.Action.{Action}
use Rattle.meaning.specs.declared.action.Reply.{Reply}
use Rattle.meaning.specs.declared.event.Event.{Event}
use Rattle.meaning.specs.declared.event.Event.TheVariants.{Turn, Corrupt, Cut}
use Rattle.meaning.specs.declared.value.Stop.TheVariants.{Budget}
use Rattle.meaning.specs.declared.value.Value.{Value}
use Rattle.machine.specs.Frames.{Thread, Running, Stopped, Waiting, has_begun, is_live}
use Rattle.machine.specs.Protected.{next, protected, resume}
use Rattle.machine.specs.Run.{CutOff, Idle, Move, Setting, State, Step, Turned, Wrote, cuts, happens, idles, opening, state_after, steps_from, takes_turn, turns}
use Rattle.machine.specs.Store.{answer}
use Rattle.machine.specs.Threads.{Told, opened}
use Rattle.thread_laws.proofs.Bodies.{order}
use Rattle.machine_laws.proofs.Splits.{EachBehind}

-- ---- lists

pub set_there : {A : Type 0} (xs : List A) (i : ℕ) (x y : A) → slice_get xs i ≡ Some y → slice_get (slice_set xs i x) i ≡ Some x
set_there [] i x y there = absurd (cc)
set_there (z ∷ zs) zero x y there = refl
set_there (z ∷ zs) (suc i) x y there = set_there zs i x y there

pub set_elsewhere : {A : Type 0} (xs : List A) (i j : ℕ) (x : A) → j ≢ i → slice_get (slice_set xs i x) j ≡ slice_get xs j
set_elsewhere [] i j x other = refl
set_elsewhere (z ∷ zs) zero zero x other = absurd (other refl)
set_elsewhere (z ∷ zs) zero (suc j) x other = refl
set_elsewhere (z ∷ zs) (suc i) zero x other = refl
set_elsewhere (z ∷ zs) (suc i) (suc j) x other = set_elsewhere zs i j x (λ same. other (ap suc same))

-- ---- events

-- what answers an action in a state
abbrev pub answer_in : Setting → State → Action → Reply
answer_in setting s action = answer setting.slots (length s.threads) setting.inputs s.store s.memory action

-- where its turn leads a thread
abbrev pub told_in : Setting → State → ℕ → Thread Value → Told Value
told_in setting s t thread = resume setting.code t thread (next setting.code t thread) (answer_in setting s (next setting.code t thread))

-- neither a turn of thread t nor its cut
abbrev pub IsNotOf : ℕ → Step → Type 0
IsNotOf t (Turned u site action answer notes) = u ≢ t
IsNotOf t (CutOff u) = u ≢ t
IsNotOf t _ = Unit {0}

-- an event is a turn, a corruption or a cut, or nothing
module _ (setting : Setting) (s : State) (Q : Move → Type 0)
    (idle : Q (idles s))
    (turned : (t : ℕ) (thread : Thread Value) → slice_get s.threads t ≡ Some thread → is_live thread ≡ true → Q (takes_turn setting s t thread))
    (wrote : (a : ℕ) (w : ℤ) → Q (happens setting s (Corrupt a w)))
    (cut : (t : ℕ) (thread : Thread Value) → slice_get s.threads t ≡ Some thread → is_live thread ≡ true → has_begun thread ≡ true
    → Q (record { step = CutOff t; after = record s { threads = slice_set s.threads t (Stopped Budget) } })) where
  turn_by : (t : ℕ) (thread : Thread Value) → slice_get s.threads t ≡ Some thread → (b : Bool) → is_live thread ≡ b
      → Q (if b then takes_turn setting s t thread else idles s)
  turn_by t thread there true live = turned t thread there live
  turn_by t thread there false live = idle

  turn_of : (t : ℕ) (o : Option (Thread Value)) → slice_get s.threads t ≡ o → Q (turns setting s t o)
  turn_of t None there = idle
  turn_of t (Some thread) there = turn_by t thread there (is_live thread) refl

  cut_by : (t : ℕ) (thread : Thread Value) → slice_get s.threads t ≡ Some thread → (b c : Bool) → is_live thread ≡ b → has_begun thread ≡ c
      → Q (if b && c then record { step = CutOff t; after = record s { threads = slice_set s.threads t (Stopped Budget) } } else idles s)
  cut_by t thread there true true live begun = cut t thread there live begun
  cut_by t thread there true false live begun = idle
  cut_by t thread there false c live begun = idle

  cut_of : (t : ℕ) (o : Option (Thread Value)) → slice_get s.threads t ≡ o → Q (cuts s t o)
  cut_of t None there = idle
  cut_of t (Some thread) there = cut_by t thread there (is_live thread) (has_begun thread) refl refl

  pub any_event : (e : Event) → Q (happens setting s e)
  any_event (Turn t) = turn_of t (slice_get s.threads t) refl
  any_event (Corrupt a w) = wrote a w
  any_event (Cut t) = cut_of t (slice_get s.threads t) refl

-- ---- what threads keep

module _ (setting : Setting) (U : List Step → ℕ → Option (Thread Value) → Type 0)
    (later : (past : List Step) (step : Step) (t : ℕ) (o : Option (Thread Value)) → IsNotOf t step → U past t o → U (past ++ step ∷ []) t o)
    (cut : (past : List Step) (t : ℕ) (thread : Thread Value) → U past t (Some thread) → is_live thread ≡ true → U (past ++ CutOff t ∷ []) t (Some (Stopped Budget)))
    (G : List Step → State → Type 0)
    (turn : (past : List Step) (s : State) (t : ℕ) (thread : Thread Value)
    → G past s
    → slice_get s.threads t ≡ Some thread
    → is_live thread ≡ true
    → U past t (Some thread)
    → U (past ++ (takes_turn setting s t thread).step ∷ []) t (Some (told_in setting s t thread).thread)) where
  abbrev pub Each : List Step → State → Type 0
  Each past s = (t : ℕ) → U past t (slice_get s.threads t)

  abbrev Keeps : List Step → Move → Type 0
  Keeps past move = Each (past ++ move.step ∷ []) move.after

  -- one thread is another behind the step, and the others are as they were
  one_other : (past : List Step) (s : State) (step : Step) (t : ℕ) (thread new : Thread Value)
      → Each past s
      → slice_get s.threads t ≡ Some thread
      → ((u : ℕ) → u ≢ t → IsNotOf u step)
      → U (past ++ step ∷ []) t (Some new)
      → (u : ℕ) → U (past ++ step ∷ []) u (slice_get (slice_set s.threads t new) u)
  one_other past s step t thread new each there others here u =
      let elsewhere : u ≢ t → U (past ++ step ∷ []) u (slice_get (slice_set s.threads t new) u) =
      λ other. subst (λ (o : Option (Thread Value)). U (past ++ step ∷ []) u o) (sym (set_elsewhere s.threads t u new other))
      (later past step u (slice_get s.threads u) (others u other) (each u)) in
      elim (order u t) [
        | inl less ↦ elsewhere (λ same. omega (arith, less, same))
        | inr rest ↦ elim rest [
          | inl more ↦ elsewhere (λ same. omega (arith, more, same))
          | inr same ↦
              subst (λ (n : ℕ). U (past ++ step ∷ []) n (slice_get (slice_set s.threads t new) n)) (sym same)
              (subst (λ (o : Option (Thread Value)). U (past ++ step ∷ []) t o) (sym (set_there s.threads t new thread there)) here)
        ]
      ]

  pub each_kept : (past : List Step) (s : State) (e : Event) → G past s → Each past s → Keeps past (happens setting s e)
  each_kept past s e known each =
      any_event setting s (Keeps past)
      (λ u. later past Idle u (slice_get s.threads u) tt (each u))
      (λ t thread there live.
      let here : U past t (Some thread) = subst (λ (o : Option (Thread Value)). U past t o) there (each t) in
      one_other past s (takes_turn setting s t thread).step t thread (told_in setting s t thread).thread each there (λ u other same. other (sym same))
      (turn past s t thread known there live here))
      (λ a w u. later past (Wrote a w) u (slice_get s.threads u) tt (each u))
      (λ t thread there live begun.
      let here : U past t (Some thread) = subst (λ (o : Option (Thread Value)). U past t o) there (each t) in
      one_other past s (CutOff t) t thread (Stopped Budget) each there (λ u other same. other (sym same)) (cut past t thread here live))
      e

-- ---- runs

module _ (setting : Setting) (I : List Step → State → Type 0)
    (keeps : (past : List Step) (s : State) (e : Event) → I past s → I (past ++ (happens setting s e).step ∷ []) (happens setting s e).after) where
  -- what each event keeps holds behind all
  pub all_kept : (past : List Step) (s : State) (events : List Event) → I past s → I (past ++ steps_from setting s events) (state_after setting s events)
  all_kept past s [] here = subst (λ (l : List Step). I l s) (sym (append-nil past)) here
  all_kept past s (e ∷ es) here =
      let move : Move = happens setting s e in
      subst (λ (l : List Step). I l (state_after setting move.after es)) (append_assoc past (move.step ∷ []) (steps_from setting move.after es))
      (all_kept (past ++ move.step ∷ []) move.after es (keeps past s e here))

  -- and so does what it says of each step
  module _ (P : List Step → Step → Type 0) (says : (past : List Step) (s : State) (e : Event) → I past s → P past (happens setting s e).step) where
    pub all_said : (past : List Step) (s : State) (events : List Event) → I past s → EachBehind P past (steps_from setting s events)
    all_said past s [] here = tt
    all_said past s (e ∷ es) here =
        let move : Move = happens setting s e in
        (says past s e here, all_said (past ++ move.step ∷ []) move.after es (keeps past s e here))

-- a step that is no turn
abbrev pub IsNoTurn : Step → Type 0
IsNoTurn (Turned u site action answer notes) = ⊥
IsNoTurn _ = Unit {0}

-- what holds of each step, where it holds of a turn by what its thread keeps
module _ (setting : Setting) (U : List Step → ℕ → Option (Thread Value) → Type 0)
    (later : (past : List Step) (step : Step) (t : ℕ) (o : Option (Thread Value)) → IsNotOf t step → U past t o → U (past ++ step ∷ []) t o)
    (cut : (past : List Step) (t : ℕ) (thread : Thread Value) → U past t (Some thread) → is_live thread ≡ true → U (past ++ CutOff t ∷ []) t (Some (Stopped Budget)))
    (turn : (past : List Step) (s : State) (t : ℕ) (thread : Thread Value)
    → is_live thread ≡ true
    → U past t (Some thread)
    → U (past ++ (takes_turn setting s t thread).step ∷ []) t (Some (told_in setting s t thread).thread)) where
  kept : (past : List Step) (s : State) (e : Event)
      → ((t : ℕ) → U past t (slice_get s.threads t))
      → (t : ℕ) → U (past ++ (happens setting s e).step ∷ []) t (slice_get (happens setting s e).after.threads t)
  kept past s e each =
      each_kept setting U later cut (λ past s. Unit {0}) (λ past s t thread known there live was. turn past s t thread live was) past s e tt each

  pub each_behind : (past : List Step) (s : State) (events : List Event)
      → ((t : ℕ) → U past t (slice_get s.threads t))
      → (t : ℕ) → U (past ++ steps_from setting s events) t (slice_get (state_after setting s events).threads t)
  each_behind past s events each =
      all_kept setting (λ past s. (t : ℕ) → U past t (slice_get s.threads t)) kept past s events each

  module _ (P : List Step → Step → Type 0)
      (still : (past : List Step) (step : Step) → IsNoTurn step → P past step)
      (good : (past : List Step) (s : State) (t : ℕ) (thread : Thread Value)
      → is_live thread ≡ true
      → U past t (Some thread)
      → P past (takes_turn setting s t thread).step) where
    good_now : (past : List Step) (s : State) (e : Event) → ((t : ℕ) → U past t (slice_get s.threads t)) → P past (happens setting s e).step
    good_now past s e each =
        any_event setting s (λ (move : Move). P past move.step)
        (still past Idle tt)
        (λ t thread there live. good past s t thread live (subst (λ (o : Option (Thread Value)). U past t o) there (each t)))
        (λ a w. still past (Wrote a w) tt)
        (λ t thread there live begun. still past (CutOff t) tt)
        e

    pub each_step : (past : List Step) (s : State) (events : List Event)
        → ((t : ℕ) → U past t (slice_get s.threads t))
        → EachBehind P past (steps_from setting s events)
    each_step past s [] each = tt
    each_step past s (e ∷ es) each =
        let move : Move = happens setting s e in
        (good_now past s e each, each_step (past ++ move.step ∷ []) move.after es (kept past s e each))

-- ---- the opening state

abbrev waiting : Thread Value
waiting = Waiting

waiting_by : (U : ℕ → Option (Thread Value) → Type 0) → ((t : ℕ) → U t None) → ((t : ℕ) → U t (Some Waiting)) → (n i t : ℕ)
    → U t (slice_get (replicate n waiting) i)
waiting_by U none waits zero i t = none t
waiting_by U none waits (suc n) zero t = waits t
waiting_by U none waits (suc n) (suc i) t = waiting_by U none waits n i t

pub opening_each : (setting : Setting) (threads : ℕ) (U : ℕ → Option (Thread Value) → Type 0)
    → U 0 (Some (Running (opened protected setting.code setting.code.entry []) []))
    → ((t : ℕ) → U t None)
    → ((t : ℕ) → U (suc t) (Some Waiting))
    → (t : ℕ) → U t (slice_get (opening setting threads).threads t)
opening_each setting threads U first none waits zero = first
opening_each setting threads U first none waits (suc t) =
    waiting_by (λ u o. U (suc u) o) (λ u. none (suc u)) waits (threads - 1) t t

-- Each event keeps what frames keep of their safe locals.
use Rattle.std.proofs.Common.{◌≡◌, ◌≢◌, inl, inr, ℕ, suc, ◌≤◌, true, List, [], ◌∷◌, ◌++◌, length, Some, None, slice_get, slice_set, refl, sym, ap, ◌∙◌, subst, arith}
use Rattle.meaning.specs.declared.action.Action.{Action}
use Rattle.meaning.specs.declared.action.Action.TheVariants as act
use Rattle.meaning.specs.declared.event.Event.{Event}
use Rattle.meaning.specs.declared.event.Event.TheVariants.{Corrupt}
use Rattle.meaning.specs.declared.value.Stop.TheVariants.{Budget}
use Rattle.meaning.specs.declared.value.Value.{Value}
use Rattle.machine.specs.declared.code.Code.{Code}
use Rattle.machine.specs.Frames.{Ended, Frame, Running, Starting, Stopped, Thread, Waiting, is_live}
use Rattle.machine.specs.Protected.{found_entry, next, protected}
use Rattle.machine.specs.Run.{CutOff, Idle, Move, Setting, State, Step, Wrote, happens, opening, state_after, takes_turn}
use Rattle.machine.specs.Store.{Store, stored}
use Rattle.machine.specs.Threads.{opened}
use Rattle.machine.specs.Transfers.{IsInside, all_told, last_own}
use Rattle.machine.specs.ValidCode.{ValidCode}
use Rattle.machine.specs.Values.{loaded_entry}
use Rattle.thread_laws.proofs.Bodies.{order}
use Rattle.machine_laws.proofs.Events.{all_kept, answer_in, any_event, opening_each, set_elsewhere, set_there, told_in}
use Rattle.machine_laws.proofs.Frames.{opened_object}
use Rattle.unit_laws.specs.Objects.{FrameIn, HasFrame, ObjectsLieApart, frames_of}
use Rattle.unit_laws.proofs.OwnedStates.{FrameFrom, FramesOwn, OwnState, apart_after, begun_owns, drawn_after, frames_later, other_outside, running_all, started_owns}
use Rattle.unit_laws.proofs.OwnedTurns.{IsClear, new_owns}

abbrev waiting : Thread Value
waiting = Waiting

module _ (setting : Setting) (valid : ValidCode setting.code) (few : setting.slots ≤ 1048576) where
  abbrev code : Code
  code = setting.code

  abbrev pub Own : List Step → State → Type 0
  Own past s = OwnState setting valid few past s

  -- ---- safe locals

  -- what a turn of a thread comes to
  record WholeTurn (past : List Step) (s : State) (t : ℕ) (thread : Thread Value) : Type 0 where
    pub deep : ℕ
    pub frames : FramesOwn code (past ++ (takes_turn setting s t thread).step ∷ []) t (frames_of (told_in setting s t thread).thread)
    pub from :
        (d : ℕ) (f : Frame Value)
        → HasFrame (frames_of (told_in setting s t thread).thread) d f
        → FrameFrom setting valid few s (stored (length s.threads) s.store (next code t thread)).next t deep t d f
    pub clear : (u d : ℕ) (f : Frame Value) → FrameIn s u d f → u ≢ t → IsClear code u d f (takes_turn setting s t thread).step

  turn_owns : (past : List Step) (s : State) → Own past s → (t : ℕ) (thread : Thread Value) → slice_get s.threads t ≡ Some thread → is_live thread ≡ true
      → WholeTurn past s t thread
  turn_owns past s is t Waiting there live =
      let owns = started_owns setting valid few past s is t Waiting there (found_entry (answer_in setting s (next code t Waiting))) (next code t Waiting) in
      record {
        deep = 0;
        frames = owns.frames;
        from = owns.from;
        clear = λ u d f has other. record { inside = λ same. other (sym same); quiet = λ id a object low high. owns.tells a tt };
      }
  turn_owns past s is t (Starting f) there live =
      let owns = begun_owns setting valid few past s is t (Starting f) there f (loaded_entry (found_entry (answer_in setting s (next code t (Starting f))))) (next code t (Starting f)) in
      record {
        deep = 0;
        frames = owns.frames;
        from = owns.from;
        clear = λ u d g has other. record { inside = λ same. other (sym same); quiet = λ id a object low high. owns.tells a tt };
      }
  turn_owns past s is t (Running top below) there live =
      let owns = running_all setting valid few past s is t (Running top below) there top below refl in
      record {
        deep = length below;
        frames = owns.frames;
        from = owns.from;
        clear = λ u d f has other. record {
          inside = inl (λ same. other (sym same));
          quiet = λ id a object low high.
              owns.tells a (other_outside setting valid few past s is t (Running top below) there top below refl u d f id a has (λ same. other same.0) object low high);
        };
      }
  turn_owns past s is t Ended there live = absurd (cc)
  turn_owns past s is t (Stopped why) there live = absurd (cc)

  grows_by : (many : ℕ) (s : Store) (action : Action) (n : ℕ) → n ≤ s.next → n ≤ setting.slots → n ≤ (stored many s action).next
  grows_by many s (act.Alloc k) n low small = omega (arith, low, small, few)
  grows_by many s act.Own n low small = low
  grows_by many s (act.Load a) n low small = low
  grows_by many s (act.Store a w) n low small = low
  grows_by many s (act.TryLock a) n low small = low
  grows_by many s (act.Get a) n low small = low
  grows_by many s (act.Put a e) n low small = low
  grows_by many s (act.Free id) n low small = low
  grows_by many s (act.Look id) n low small = low
  grows_by many s act.Fork n low small = low
  grows_by many s (act.Print v) n low small = low
  grows_by many s (act.Input k) n low small = low
  grows_by many s (act.Halt why) n low small = low

  -- one thread is another behind a move, and the others are as they were
  module _ (past : List Step) (s after : State) (step : Step) (t deep : ℕ) (old new : Thread Value)
      (is : Own past s)
      (there : slice_get s.threads t ≡ Some old)
      (set : after.threads ≡ slice_set s.threads t new)
      (grows : (n : ℕ) → n ≤ s.store.next → n ≤ setting.slots → n ≤ after.store.next)
      (frames : FramesOwn code (past ++ step ∷ []) t (frames_of new))
      (from : (d : ℕ) (f : Frame Value) → HasFrame (frames_of new) d f → FrameFrom setting valid few s after.store.next t deep t d f)
      (clear : (u d : ℕ) (f : Frame Value) → FrameIn s u d f → u ≢ t → IsClear code u d f step) where
    at_it : slice_get after.threads t ≡ Some new
    at_it = ap (λ (ts : List (Thread Value)). slice_get ts t) set ∙ set_there s.threads t new old there

    elsewhere : (u : ℕ) → u ≢ t → slice_get after.threads u ≡ slice_get s.threads u
    elsewhere u other = ap (λ (ts : List (Thread Value)). slice_get ts u) set ∙ set_elsewhere s.threads t u new other

    either : (P : ℕ → Type 0) → P t → ((u : ℕ) → u ≢ t → P u) → (u : ℕ) → P u
    either P here others u =
        elim (order u t) [
          | inl less ↦ others u (λ same. omega (arith, less, same))
          | inr (inl more) ↦ others u (λ same. omega (arith, more, same))
          | inr (inr same) ↦ subst P (sym same) here
        ]

    frames_after : (u : ℕ) (thread : Thread Value) → slice_get after.threads u ≡ Some thread → FramesOwn code (past ++ step ∷ []) u (frames_of thread)
    frames_after =
        either (λ u. (thread : Thread Value) → slice_get after.threads u ≡ Some thread → FramesOwn code (past ++ step ∷ []) u (frames_of thread))
        (λ thread has.
        let same : new ≡ thread = let both : Some new ≡ Some thread = sym at_it ∙ has in cc in
        subst (λ (x : Thread Value). FramesOwn code (past ++ step ∷ []) t (frames_of x)) same frames)
        (λ u other thread has.
        let was : slice_get s.threads u ≡ Some thread = sym (elsewhere u other) ∙ has in
        frames_later code valid past step u (frames_of thread)
        (λ d f mine. clear u d f (record { thread = thread; there = was; has = mine }) other)
        (is.frames u thread was))

    origins : (u d : ℕ) (f : Frame Value) → FrameIn after u d f → FrameFrom setting valid few s after.store.next t deep u d f
    origins =
        either (λ u. (d : ℕ) (f : Frame Value) → FrameIn after u d f → FrameFrom setting valid few s after.store.next t deep u d f)
        (λ d f has.
        let same : new ≡ has.thread = let both : Some new ≡ Some has.thread = sym at_it ∙ has.there in cc in
        from d f (subst (λ (x : Thread Value). HasFrame (frames_of x) d f) (sym same) has.has))
        (λ u other d f has. inl (f, record { thread = has.thread; there = sym (elsewhere u other) ∙ has.there; has = has.has }, refl, refl))

    moved_owns : Own (past ++ step ∷ []) after
    moved_owns = record {
      frames = frames_after;
      apart = apart_after setting valid few s after t deep is.apart is.drawn grows origins;
      drawn = drawn_after setting valid few s after t deep is.apart is.drawn grows origins;
    }

  -- the threads are as they were, and nothing is told
  same_owns : (past : List Step) (s after : State) (step : Step) → Own past s
      → after.threads ≡ s.threads
      → after.store.next ≡ s.store.next
      → ((u d : ℕ) → IsInside u d step)
      → ((a : ℕ) → last_own a (all_told step) ≡ None)
      → Own (past ++ step ∷ []) after
  same_owns past s after step is same next-is inside quiet = record {
    frames = λ u thread has.
        let was : slice_get s.threads u ≡ Some thread = ap (λ (ts : List (Thread Value)). slice_get ts u) (sym same) ∙ has in
        frames_later code valid past step u (frames_of thread)
        (λ d f mine. record { inside = inside u d; quiet = λ id a object low high. quiet a }) (is.frames u thread was);
    apart = λ t u d e f g id other one two left right. is.apart t u d e f g id other (before t d f one) (before u e g two) left right;
    drawn = λ t d f id has object.
        let was = is.drawn t d f id (before t d f has) object in (omega (arith, was.0, next-is), was.1);
  } where
    before : (t d : ℕ) (f : Frame Value) → FrameIn after t d f → FrameIn s t d f
    before t d f has = record { thread = has.thread; there = ap (λ (ts : List (Thread Value)). slice_get ts t) (sym same) ∙ has.there; has = has.has }

  pub own_keeps : (past : List Step) (s : State) (e : Event) → Own past s → Own (past ++ (happens setting s e).step ∷ []) (happens setting s e).after
  own_keeps past s e is =
      any_event setting s (λ (move : Move). Own (past ++ move.step ∷ []) move.after)
      (same_owns past s s Idle is refl refl (λ u d. tt) (λ a. refl))
      (λ t thread there live.
      let turn = turn_owns past s is t thread there live in
      moved_owns past s (takes_turn setting s t thread).after (takes_turn setting s t thread).step t turn.deep thread (told_in setting s t thread).thread is there refl
      (grows_by (length s.threads) s.store (next code t thread)) turn.frames turn.from turn.clear)
      (λ a w. same_owns past s (happens setting s (Corrupt a w)).after (Wrote a w) is refl refl (λ u d. tt) (λ b. refl))
      (λ t thread there live begun.
      moved_owns past s (record s { threads = slice_set s.threads t (Stopped Budget) }) (CutOff t) t 0 thread (Stopped Budget) is there refl
      (λ n low small. low) tt (λ d f has. absurd has)
      (λ u d f has other. record { inside = λ same. other (sym same); quiet = λ id a object low high. refl }))
      e

  -- ---- the opening state

  opening_has : (threads t : ℕ) (thread : Thread Value) → slice_get (opening setting threads).threads t ≡ Some thread
      → (d : ℕ) (f : Frame Value) → HasFrame (frames_of thread) d f → f.object ≡ None
  opening_has threads =
      opening_each setting threads (λ t o. (thread : Thread Value) → o ≡ Some thread → (d : ℕ) (f : Frame Value) → HasFrame (frames_of thread) d f → f.object ≡ None)
      (λ thread same d f has.
      let one : Running (opened protected code code.entry []) [] ≡ thread = cc in
      elim (subst (λ (x : Thread Value). HasFrame (frames_of x) d f) (sym one) has) [
        | inl here ↦ subst (λ (x : Frame Value). x.object ≡ None) here.1 (opened_object code code.entry [])
        | inr rest ↦ absurd rest
      ])
      (λ t thread same. absurd (cc))
      (λ t thread same d f has.
      let one : waiting ≡ thread = cc in absurd (subst (λ (x : Thread Value). HasFrame (frames_of x) d f) (sym one) has))

  opening_frames : (threads t : ℕ) (thread : Thread Value) → slice_get (opening setting threads).threads t ≡ Some thread → FramesOwn code [] t (frames_of thread)
  opening_frames threads =
      opening_each setting threads (λ t o. (thread : Thread Value) → o ≡ Some thread → FramesOwn code [] t (frames_of thread))
      (λ thread same.
      let one : Running (opened protected code code.entry []) [] ≡ thread = cc in
      subst (λ (x : Thread Value). FramesOwn code [] 0 (frames_of x)) one (new_owns code [] 0 0 code.entry [], tt))
      (λ t thread same. absurd (cc))
      (λ t thread same. let one : waiting ≡ thread = cc in subst (λ (x : Thread Value). FramesOwn code [] (suc t) (frames_of x)) one tt)

  pub opening_owns : (threads : ℕ) → Own [] (opening setting threads)
  opening_owns threads = record {
    frames = opening_frames threads;
    apart = λ t u d e f g id other one two left right.
        let no-object : None ≡ Some id = sym (opening_has threads t one.thread one.there d f one.has) ∙ left in absurd (cc);
    drawn = λ t d f id has object.
        let no-object : None ≡ Some id = sym (opening_has threads t has.thread has.there d f has.has) ∙ object in absurd (cc);
  }

pub run_is_apart : (setting : Setting) (threads : ℕ) (events : List Event) → ValidCode setting.code → setting.slots ≤ 1048576
    → ObjectsLieApart setting.code (state_after setting (opening setting threads) events)
run_is_apart setting threads events valid few =
    (all_kept setting (Own setting valid few) (own_keeps setting valid few) [] (opening setting threads) events (opening_owns setting valid few threads)).apart

-- A thread that runs alone asks what fits the store, and no more puts than half of its counted turns.
use Rattle.std.proofs.Common.{◌≡◌, ◌⊎◌, inl, inr, ℕ, ℤ, zero, suc, pos, ◌+◌, ◌*◌, ◌≤◌, ◌<◌, Bool, true, false, if◌then◌else◌, nat_eq, All, List, [], ◌∷◌, ◌++◌, length, Option, Some, None, refl, sym, ap, ◌∙◌, subst, arith, eq-eqb}
use Rattle.meaning.specs.Action.{Fits}
use Rattle.meaning.specs.declared.action.Action.{Action}
use Rattle.meaning.specs.declared.action.Action.TheVariants as act
use Rattle.meaning.specs.declared.action.Reply.{Reply}
use Rattle.meaning.specs.declared.action.Reply.TheVariants as reply
use Rattle.meaning.specs.declared.value.Entry.{Entry}
use Rattle.meaning.specs.declared.value.Value.{Value}
use Rattle.meaning.specs.Legal.{Call}
use Rattle.core_ir.specs.Typed.{start_type}
use Rattle.machine.specs.declared.code.Code.{Code}
use Rattle.machine.specs.declared.code.CodePlace.{CodePlace}
use Rattle.machine.specs.Addresses.{argument_address, start_address}
use Rattle.machine.specs.Domain.{Callee, Reaches, Refused}
use Rattle.machine.specs.Frames.{Ended, Frame, Running, Starting, Stopped, Thread, Waiting, is_live}
use Rattle.machine.specs.Lanes.{ActionFits, AnswerFits, AsksWhatFits, FoundFits, one_put, puts_among}
use Rattle.machine.specs.Logs.{LocalRun, LocalRunFrom, counted_turns, finds_start, first_thread, turns_behind}
use Rattle.machine.specs.Protected.{action_by, action_of, answered, found_entry, next, protected, protected_callee, resume, resumed_by, shape_at, start_by, started}
use Rattle.machine.specs.Shapes.{shape_of}
use Rattle.machine.specs.Threads.{Told, opened, place_at}
use Rattle.machine.specs.ValidCode.{ValidCode}
use Rattle.machine.specs.Values.{loaded_entry}
use Rattle.thread_laws.specs.Theorems.{ThreadsAskWhatFits}
use Rattle.thread_laws.proofs.FittingValues.{Each, ValueFits, loaded_fits}
use Rattle.thread_laws.proofs.Readiness.{IsGoodRunning, IsGoodThread, halts}
use Rattle.thread_laws.proofs.Turns.{asks_now, new_is_good, new_is_prepared, put_is_paid, turn_keeps}

each_of : {A : Type 0} (P : A → Type 0) (xs : List A) → All P xs → Each P xs
each_of P [] all = tt
each_of P (x ∷ xs) all = (all 0 x (omega arith), each_of P xs (λ k d low. all (suc k) d (omega (arith, low))))

resume_on : (code : Code) (t : ℕ) (thread : Thread Value) (action : Action) (answer : Reply) → halts action ≡ false → resume code t thread action answer ≡ answered code t thread answer
resume_on code t thread (act.Halt why) answer goes = absurd (cc)
resume_on code t thread act.Own answer goes = refl
resume_on code t thread (act.Load a) answer goes = refl
resume_on code t thread (act.Store a w) answer goes = refl
resume_on code t thread (act.TryLock a) answer goes = refl
resume_on code t thread (act.Get a) answer goes = refl
resume_on code t thread (act.Put a e) answer goes = refl
resume_on code t thread (act.Alloc k) answer goes = refl
resume_on code t thread (act.Free id) answer goes = refl
resume_on code t thread (act.Look id) answer goes = refl
resume_on code t thread act.Fork answer goes = refl
resume_on code t thread (act.Print n) answer goes = refl
resume_on code t thread (act.Input n) answer goes = refl

module _ (slots : ℕ) (few : slots ≤ 1048576) (enough : 1026 ≤ slots) (code : Code) (valid : ValidCode code) (m : ℕ) (low : m ≤ 15) where
  -- ---- one turn

  halted_good : (thread : Thread Value) (action : Action) (answer : Reply) (puts turns : ℕ) → halts action ≡ true
      → IsGoodThread slots code (resume code m thread action answer).thread puts turns
  halted_good thread (act.Halt why) answer puts turns is = tt
  halted_good thread act.Own answer puts turns is = absurd (cc)
  halted_good thread (act.Load a) answer puts turns is = absurd (cc)
  halted_good thread (act.Store a w) answer puts turns is = absurd (cc)
  halted_good thread (act.TryLock a) answer puts turns is = absurd (cc)
  halted_good thread (act.Get a) answer puts turns is = absurd (cc)
  halted_good thread (act.Put a e) answer puts turns is = absurd (cc)
  halted_good thread (act.Alloc k) answer puts turns is = absurd (cc)
  halted_good thread (act.Free id) answer puts turns is = absurd (cc)
  halted_good thread (act.Look id) answer puts turns is = absurd (cc)
  halted_good thread act.Fork answer puts turns is = absurd (cc)
  halted_good thread (act.Print n) answer puts turns is = absurd (cc)
  halted_good thread (act.Input n) answer puts turns is = absurd (cc)

  -- what stands at the place of the top frame
  running_by : (top : Frame Value) (below : List (Frame Value)) (puts turns : ℕ) (answer : Reply) (at : Option CodePlace)
      → place_at code top.function top.place ≡ at
      → IsGoodRunning slots code top below puts turns
      → halts (action_by code m top below (shape_at top below at)) ≡ false
      → Fits (action_by code m top below (shape_at top below at)) answer
      → AnswerFits slots (action_by code m top below (shape_at top below at), answer)
      → IsGoodThread slots code (resumed_by code top below answer (shape_at top below at)).thread
      (puts + one_put (action_by code m top below (shape_at top below at))) (suc turns)
  running_by top below puts turns answer None is r goes form fits = record {
    made = r.made;
    rest = r.rest;
    credit = r.credit;
    good = r.good;
    prepared = r.prepared;
    others = r.others;
    paid = omega (arith, r.paid);
  }
  running_by top below puts turns answer (Some i) is r goes form fits =
      turn_keeps slots few enough code valid m top below puts turns answer i r is goes form fits

  running_keeps : (top : Frame Value) (below : List (Frame Value)) (puts turns : ℕ) (answer : Reply) (stops : Bool)
      → halts (next code m (Running top below)) ≡ stops
      → IsGoodRunning slots code top below puts turns
      → Fits (next code m (Running top below)) answer
      → AnswerFits slots (next code m (Running top below), answer)
      → IsGoodThread slots code (resume code m (Running top below) (next code m (Running top below)) answer).thread
      (puts + one_put (next code m (Running top below))) (suc turns)
  running_keeps top below puts turns answer true is r form fits =
      halted_good (Running top below) (next code m (Running top below)) answer (puts + one_put (next code m (Running top below))) (suc turns) is
  running_keeps top below puts turns answer false is r form fits =
      subst (λ (told : Told Value). IsGoodThread slots code told.thread (puts + one_put (next code m (Running top below))) (suc turns))
      (sym (resume_on code m (Running top below) (next code m (Running top below)) answer is))
      (running_by top below puts turns answer (place_at code top.function top.place) refl r is form fits)

  running_asks_by : (top : Frame Value) (below : List (Frame Value)) (puts turns : ℕ) (at : Option CodePlace)
      → place_at code top.function top.place ≡ at
      → IsGoodRunning slots code top below puts turns
      → ActionFits slots (action_by code m top below (shape_at top below at))
      × (one_put (action_by code m top below (shape_at top below at)) ≡ 1 → 2 * (puts + 1) ≤ turns + 1)
  running_asks_by top below puts turns None is r = (tt, λ put. absurd (omega (arith, put)))
  running_asks_by top below puts turns (Some i) is r = (
    asks_now slots few enough code valid m top below puts turns i r is,
    λ put. put_is_paid slots few enough code valid m top below puts turns i r is put,
  )

  found_fits : (a : ℕ) (answer : Reply) → Fits (act.Get a) answer → AnswerFits slots (act.Get a, answer) → FoundFits slots (found_entry answer)
  found_fits a (reply.Found e) form fits = fits
  found_fits a reply.Nothing form fits = absurd form
  found_fits a (reply.Word w) form fits = absurd form
  found_fits a (reply.Slot s) form fits = absurd form
  found_fits a (reply.Flag b) form fits = absurd form
  found_fits a (reply.Thread n) form fits = absurd form

  -- one frame, in a function's first place
  first_good : (f : ℕ) (arguments : List Value) (puts turns : ℕ) → Each (ValueFits slots) arguments → puts ≡ 0
      → IsGoodRunning slots code (opened protected code f arguments) [] puts turns
  first_good f arguments puts turns fit none = record {
    made = [];
    rest = 0;
    credit = 0;
    good = new_is_good slots few enough code valid f arguments fit;
    prepared = new_is_prepared slots few enough code valid f arguments;
    others = tt;
    paid = omega (arith, none);
  }

  -- ---- threads that have begun

  asks : (thread : Thread Value) (puts turns : ℕ) → IsGoodThread slots code thread puts turns
      → is_live thread ≡ true
      → ActionFits slots (next code m thread) × (one_put (next code m thread) ≡ 1 → 2 * (puts + 1) ≤ turns + 1)
  asks Waiting puts turns good live = absurd good
  asks (Starting f) puts turns good live = (omega (arith, low), λ put. absurd (omega (arith, put)))
  asks (Running top below) puts turns good live = running_asks_by top below puts turns (place_at code top.function top.place) refl good
  asks Ended puts turns good live = absurd (cc)
  asks (Stopped why) puts turns good live = absurd (cc)

  keeps : (thread : Thread Value) (puts turns : ℕ) (answer : Reply) → IsGoodThread slots code thread puts turns
      → is_live thread ≡ true
      → Fits (next code m thread) answer
      → AnswerFits slots (next code m thread, answer)
      → IsGoodThread slots code (resume code m thread (next code m thread) answer).thread (puts + one_put (next code m thread)) (suc turns)
  keeps Waiting puts turns answer good live form fits = absurd good
  keeps (Starting f) puts turns answer good live form fits =
      first_good f (loaded_entry (found_entry answer) ∷ []) (puts + 0) (suc turns)
      (loaded_fits slots (found_entry answer) (found_fits (argument_address m) answer form fits), tt) (omega (arith, good))
  keeps (Running top below) puts turns answer good live form fits =
      running_keeps top below puts turns answer (halts (next code m (Running top below))) refl good form fits
  keeps Ended puts turns answer good live form fits = absurd (cc)
  keeps (Stopped why) puts turns answer good live form fits = absurd (cc)

  -- what the last call of a run asks
  begun_run : (inputs : List ℤ) (before : List Call) (last : Call) (thread : Thread Value) (puts turns : ℕ)
      → IsGoodThread slots code thread puts turns
      → LocalRunFrom code inputs m thread (before ++ last ∷ [])
      → Each (AnswerFits slots) before
      → ActionFits slots last.0
      × (one_put last.0 ≡ 1 → 2 * (puts + puts_among (before ++ last ∷ [])) ≤ turns + length (before ++ last ∷ []))
  begun_run inputs [] last thread puts turns good run fits =
      let asked = asks thread puts turns good run.0 in (
        subst (ActionFits slots) (sym run.1) asked.0,
        λ put.
            let is : one_put (next code m thread) ≡ 1 = ap one_put (sym run.1) ∙ put in
            let half : 2 * (puts + 1) ≤ turns + 1 = asked.1 is in
            omega (arith, half, put),
      )
  begun_run inputs (c ∷ cs) last thread puts turns good run fits =
      let form : Fits (next code m thread) c.1 = subst (λ (a : Action). Fits a c.1) run.1 run.2 in
      let answer : AnswerFits slots (next code m thread, c.1) = subst (λ (a : Action). AnswerFits slots (a, c.1)) run.1 fits.0 in
      let kept : IsGoodThread slots code (resume code m thread (next code m thread) c.1).thread (puts + one_put (next code m thread)) (suc turns) =
      keeps thread puts turns c.1 good run.0 form answer in
      let after : IsGoodThread slots code (resume code m thread c.0 c.1).thread (puts + one_put c.0) (suc turns) =
      subst (λ (a : Action). IsGoodThread slots code (resume code m thread a c.1).thread (puts + one_put a) (suc turns)) (sym run.1) kept in
      let rest = begun_run inputs cs last (resume code m thread c.0 c.1).thread (puts + one_put c.0) (suc turns) after run.4 fits.1 in
      (rest.0, λ put. let half = rest.1 put in omega (arith, half))

  -- ---- threads that wait for their start

  start_good : (callee : Callee) → IsGoodThread slots code (start_by callee).thread 0 0
  start_good (Reaches f) = refl
  start_good (Refused why) = tt

  -- the turns behind the read that found the start
  found_turns : (e : Entry) (calls : List Call) → turns_behind m ((act.Get (start_address m), reply.Found (Some e)) ∷ calls) ≡ length calls
  found_turns e calls =
      ap (λ (b : Bool). if b then length calls else turns_behind m calls) (eq-eqb (start_address m) (start_address m) refl)

  abbrev Asked : Call → List Call → ℕ → Type 0
  Asked last calls turns = ActionFits slots last.0 × (one_put last.0 ≡ 1 → 2 * puts_among calls ≤ turns)

  waiting_by : (inputs : List ℤ) (cs : List Call) (last : Call)
      → (LocalRunFrom code inputs m Waiting (cs ++ last ∷ []) → Asked last (cs ++ last ∷ []) (turns_behind m (cs ++ last ∷ [])))
      → Each (AnswerFits slots) cs
      → (answer : Reply)
      → Fits (act.Get (start_address m)) answer
      → LocalRunFrom code inputs m (resume code m Waiting (act.Get (start_address m)) answer).thread (cs ++ last ∷ [])
      → Asked last (cs ++ last ∷ []) (turns_behind m ((act.Get (start_address m), answer) ∷ (cs ++ last ∷ [])))
  waiting_by inputs cs last still fits (reply.Found None) form run = still run
  waiting_by inputs cs last still fits (reply.Found (Some e)) form run =
      let asked = begun_run inputs cs last (start_by (protected_callee code start_type (loaded_entry (Some e)))).thread 0 0
      (start_good (protected_callee code start_type (loaded_entry (Some e)))) run fits in
      (asked.0, λ put. let half = asked.1 put in omega (arith, half, found_turns e (cs ++ last ∷ [])))
  waiting_by inputs cs last still fits reply.Nothing form run = absurd form
  waiting_by inputs cs last still fits (reply.Word w) form run = absurd form
  waiting_by inputs cs last still fits (reply.Slot s) form run = absurd form
  waiting_by inputs cs last still fits (reply.Flag b) form run = absurd form
  waiting_by inputs cs last still fits (reply.Thread n) form run = absurd form

  waiting_run : (inputs : List ℤ) (before : List Call) (last : Call)
      → LocalRunFrom code inputs m Waiting (before ++ last ∷ [])
      → Each (AnswerFits slots) before
      → Asked last (before ++ last ∷ []) (turns_behind m (before ++ last ∷ []))
  waiting_run inputs [] last run fits = (
    subst (ActionFits slots) (sym run.1) (omega (arith, low)),
    λ put. let none : one_put (act.Get (start_address m)) ≡ 1 = ap one_put (sym run.1) ∙ put in absurd (omega (arith, none)),
  )
  waiting_run inputs (c ∷ cs) last run fits =
      let calls = cs ++ last ∷ [] in
      let form : Fits (act.Get (start_address m)) c.1 = subst (λ (a : Action). Fits a c.1) run.1 run.2 in
      let after : LocalRunFrom code inputs m (resume code m Waiting (act.Get (start_address m)) c.1).thread calls =
      subst (λ (a : Action). LocalRunFrom code inputs m (resume code m Waiting a c.1).thread calls) run.1 run.4 in
      let asked = waiting_by inputs cs last (λ still. waiting_run inputs cs last still fits.1) fits.1 c.1 form after in
      let none : one_put c.0 ≡ 0 = ap one_put run.1 in
      let turns : turns_behind m ((act.Get (start_address m), c.1) ∷ calls) ≡ turns_behind m (c ∷ calls) =
      ap (λ (a : Action). turns_behind m ((a, c.1) ∷ calls)) (sym run.1) in
      (asked.0, λ put. let half = asked.1 put in omega (arith, half, none, turns))

asked_by : (m slots : ℕ) → slots ≤ 1048576 → 1026 ≤ slots → (code : Code) → ValidCode code → m ≤ 15
    → (inputs : List ℤ) (before : List Call) (last : Call)
    → LocalRun code inputs m (before ++ last ∷ [])
    → Each (AnswerFits slots) before
    → ActionFits slots last.0
    × (one_put last.0 ≡ 1 → 2 * puts_among (before ++ last ∷ []) ≤ counted_turns m (before ++ last ∷ []))
asked_by zero slots few enough code valid low inputs before last run fits =
    let asked = begun_run slots few enough code valid zero low inputs before last (first_thread code zero) 0 0
    (first_good slots few enough code valid zero low code.entry [] 0 0 tt refl) run fits in
    (asked.0, λ put. let half = asked.1 put in omega (arith, half))
asked_by (suc k) slots few enough code valid low inputs before last run fits =
    waiting_run slots few enough code valid (suc k) low inputs before last run fits

-- a thread's actions fit, and its puts are at most half of its counted turns
pub threads_ask : ThreadsAskWhatFits
threads_ask code inputs slots m valid enough few low before last run fits =
    asked_by m slots few enough code valid low inputs before last run (each_of (AnswerFits slots) before fits)

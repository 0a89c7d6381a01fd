-- The calls, starts and returns of each thread are bracketed by depth: what its notes leave open are its frames.
use Rattle.std.proofs.Common.{◌≡◌, ◌≢◌, ℕ, zero, suc, ◌+◌, Bool, true, if◌then◌else◌, nat_eq, List, [], ◌∷◌, ◌++◌, length, Option, Some, None, refl, sym, ap, ◌∙◌, subst, append_assoc, append-nil, eq-eqb, ne_eqb}
use Rattle.core_ir.specs.Typed.{start_type}
use Rattle.meaning.specs.declared.action.Action.{Action}
use Rattle.meaning.specs.declared.event.Event.{Event}
use Rattle.meaning.specs.declared.note.Note.{Note}
use Rattle.meaning.specs.declared.note.Note.TheVariants as note
use Rattle.meaning.specs.declared.note.Place.{Place}
use Rattle.meaning.specs.declared.value.Entry.{Entry}
use Rattle.meaning.specs.declared.value.Stop.TheVariants.{Budget}
use Rattle.meaning.specs.declared.value.Value.{Value}
use Rattle.meaning.specs.OpenCalls.{Open}
use Rattle.machine.specs.declared.code.Code.{Code}
use Rattle.machine.specs.Domain.{Callee, Reaches, Refused}
use Rattle.machine.specs.Frames.{Effect, Ended, Enters, Frame, Goes, Leaves, Nothing, Running, Starting, Stopped, Stops, Thread, ToObject, ToRegister, ToSlot, ToUnit, Waiting, Write, is_live}
use Rattle.machine.specs.Protected.{found_entry, next, protected, protected_callee, start_by, started}
use Rattle.machine.specs.Run.{CutOff, Idle, Setting, State, Step, Turned, Wrote, opening, run, takes_turn}
use Rattle.machine.specs.Threads.{Told, applied, begins, enters, leaves, opened, result_slot, result_write, slot_told, slots_told, unit_told, write_told, written}
use Rattle.machine.specs.Transfers.{AreBracketed, notes_of, opened_first, told_or_cut}
use Rattle.machine.specs.Values.{loaded_entry, told_function}
use Rattle.machine_laws.proofs.Events.{IsNotOf, answer_in, each_behind, opening_each, told_in}
use Rattle.machine_laws.proofs.Frames.{opened_function, written_function}
use Rattle.machine_laws.proofs.Turns.{running}

-- ---- open calls and frames

-- a frame goes on behind the call that opened the one above it
abbrev IsBehind : Open → List (Frame Value) → Type 0
IsBehind call [] = Unit {0}
IsBehind call (caller ∷ below) = caller.place ≡ call.from + 1

abbrev AreOpen : List Open → List (Frame Value) → Type 0
AreOpen [] [] = Unit {0}
AreOpen (call ∷ calls) (f ∷ fs) = (call.function ≡ f.function) × IsBehind call fs × AreOpen calls fs
AreOpen _ _ = ⊥

open_length : (calls : List Open) (frames : List (Frame Value)) → AreOpen calls frames → length calls ≡ length frames
open_length [] [] are = refl
open_length [] (f ∷ fs) are = absurd are
open_length (call ∷ calls) [] are = absurd are
open_length (call ∷ calls) (f ∷ fs) are = ap suc (open_length calls fs are.2)

open_like : (calls : List Open) (f g : Frame Value) (below : List (Frame Value)) → f.function ≡ g.function → AreOpen calls (f ∷ below) → AreOpen calls (g ∷ below)
open_like [] f g below same are = absurd are
open_like (call ∷ calls) f g below same are = (are.0 ∙ same, are.1, are.2)

-- ---- notes that aren't bracketed

slot_passes : (calls : List Open) (depth s : ℕ) (o : Option ℕ) (rest : List Note) → AreBracketed calls rest → AreBracketed calls (slot_told protected depth s o ++ rest)
slot_passes calls depth s None rest are = are
slot_passes calls depth s (Some f) rest are = are

unit_passes : (calls : List Open) (at : ℕ) (o : Option ℕ) (rest : List Note) → AreBracketed calls rest → AreBracketed calls (unit_told protected at o ++ rest)
unit_passes calls at None rest are = are
unit_passes calls at (Some f) rest are = are

write_passes : (calls : List Open) (depth : ℕ) (w : Write Value) (rest : List Note) → AreBracketed calls rest → AreBracketed calls (write_told protected depth w ++ rest)
write_passes calls depth Nothing rest are = are
write_passes calls depth (ToRegister d v) rest are = are
write_passes calls depth (ToSlot s v) rest are = slot_passes calls depth s (told_function v) rest are
write_passes calls depth (ToUnit unit at v) rest are = unit_passes calls at (told_function v) rest are
write_passes calls depth (ToObject id) rest are = are

slots_pass : (calls : List Open) (depth s : ℕ) (vs : List Value) (rest : List Note) → AreBracketed calls rest → AreBracketed calls (slots_told protected depth s vs ++ rest)
slots_pass calls depth s [] rest are = are
slots_pass calls depth s (v ∷ vs) rest are =
    subst (AreBracketed calls) (sym (append_assoc (slot_told protected depth s (told_function v)) (slots_told protected depth (suc s) vs) rest))
    (slot_passes calls depth s (told_function v) (slots_told protected depth (suc s) vs ++ rest) (slots_pass calls depth (suc s) vs rest are))

-- ---- what a thread leaves open

-- behind these calls, and with what is to come, the whole is bracketed
record LeavesOpen (Whole : List Note → Type 0) (Match : List Open → Type 0) : Type 0 where
  pub calls : List Open
  pub match : Match calls
  pub leads : (rest : List Note) → AreBracketed calls rest → Whole rest

-- behind which whole things are bracketed
abbrev LeavesBy : (List Note → Type 0) → Thread Value → Type 0
LeavesBy Whole Waiting = LeavesOpen Whole (λ calls. calls ≡ [])
LeavesBy Whole (Starting f) = LeavesOpen Whole (λ calls. calls ≡ [])
LeavesBy Whole (Running top below) = LeavesOpen Whole (λ calls. AreOpen calls (top ∷ below))
LeavesBy Whole Ended = Whole []
LeavesBy Whole (Stopped why) = Whole []

-- the notes of a turn are bracketed behind these open calls
abbrev GoesOn : List Open → Told Value → Type 0
GoesOn calls told = LeavesBy (λ rest. AreBracketed calls (told.notes ++ rest)) told.thread

module _ (code : Code) (calls : List Open) where
  entered : (top : Frame Value) (below : List (Frame Value)) → AreOpen calls (top ∷ below) → (f : ℕ) (arguments : List Value) (through : Option Place)
      → GoesOn calls (enters protected code top below f arguments through)
  entered top below are f arguments None = record {
    calls = record { function = f; from = top.place } ∷ calls;
    match = (sym (opened_function code f arguments), refl, open_like calls top (record top { place = top.place + 1 }) below refl are);
    leads = λ rest bracketed. (
      sym (open_length calls (top ∷ below) are),
      slots_pass (record { function = f; from = top.place } ∷ calls) (suc (length below)) 0 (opened protected code f arguments).slots rest bracketed,
    );
  }
  entered top below are f arguments (Some place) = record {
    calls = record { function = f; from = top.place } ∷ calls;
    match = (sym (opened_function code f arguments), refl, open_like calls top (record top { place = top.place + 1 }) below refl are);
    leads = λ rest bracketed. (
      sym (open_length calls (top ∷ below) are),
      slots_pass (record { function = f; from = top.place } ∷ calls) (suc (length below)) 0 (opened protected code f arguments).slots rest bracketed,
    );
  }

-- a frame is left
left : (code : Code) (calls : List Open) (top : Frame Value) (below : List (Frame Value)) (v : Value) → AreOpen calls (top ∷ below) → GoesOn calls (leaves protected code below v)
left code calls top [] v are = (open_length calls (top ∷ []) are, refl)
left code [] top (caller ∷ below) v are = absurd are
left code (call ∷ []) top (caller ∷ below) v are = absurd are.2
left code (call ∷ outside ∷ calls) top (caller ∷ below) v are =
    let w = result_write protected (result_slot code caller) v in
    record {
      calls = outside ∷ calls;
      match = open_like (outside ∷ calls) caller (written protected w caller) below (sym (written_function w caller)) are.2;
      leads = λ rest bracketed. (
        (sym (open_length (outside ∷ calls) (caller ∷ below) are.2), sym are.2.0, are.1),
        write_passes (outside ∷ calls) (length below) w rest bracketed,
      );
    }

module _ (code : Code) (calls : List Open) where
  applied_goes_on : (top : Frame Value) (below : List (Frame Value)) → AreOpen calls (top ∷ below) → (e : Effect Value) → GoesOn calls (applied protected code top below e)
  applied_goes_on top below are (Stops why) = refl
  applied_goes_on top below are (Goes to w) = record {
    calls = calls;
    match = open_like calls top (written protected w (record top { place = to })) below (sym (written_function w (record top { place = to }))) are;
    leads = λ rest bracketed. write_passes calls (length below) w rest bracketed;
  }
  applied_goes_on top below are (Enters f arguments through) = entered code calls top below are f arguments through
  applied_goes_on top below are (Leaves v) = left code calls top below v are

  callee_goes_on : calls ≡ [] → (c : Callee) → GoesOn calls (start_by c)
  callee_goes_on none (Reaches f) = record { calls = calls; match = none; leads = λ rest bracketed. bracketed }
  callee_goes_on none (Refused why) = refl

  started_goes_on : calls ≡ [] → (o : Option Entry) → GoesOn calls (started code o)
  started_goes_on none None = record { calls = calls; match = none; leads = λ rest bracketed. bracketed }
  started_goes_on none (Some e) = callee_goes_on none (protected_callee code start_type (loaded_entry (Some e)))

  begun_goes_on : calls ≡ [] → (t f : ℕ) (v : Value) → GoesOn calls (begins protected code t f v)
  begun_goes_on none t f v = record {
    calls = record { function = f; from = 0 } ∷ [];
    match = (sym (opened_function code f (v ∷ [])), tt, tt);
    leads = λ rest bracketed. (none, slots_pass (record { function = f; from = 0 } ∷ []) 0 0 (opened protected code f (v ∷ [])).slots rest bracketed);
  }

running_goes_on : (setting : Setting) (s : State) (t : ℕ) (calls : List Open) (top : Frame Value) (below : List (Frame Value)) → AreOpen calls (top ∷ below)
    → GoesOn calls (told_in setting s t (Running top below))
running_goes_on setting s t calls top below are =
    running setting.code t top below (answer_in setting s) (λ (action : Action) (told : Told Value). GoesOn calls told)
    (λ why. refl)
    (λ none. record { calls = calls; match = are; leads = λ rest bracketed. bracketed })
    (λ i here goes. applied_goes_on setting.code calls top below are _)

-- ---- one behind the other

-- what stands behind a turn's notes stands behind the whole
leaves_more : (Whole Part : List Note → Type 0) → ((rest : List Note) → Part rest → Whole rest) → (thread : Thread Value) → LeavesBy Part thread → LeavesBy Whole thread
leaves_more Whole Part more Waiting l = record { calls = l.calls; match = l.match; leads = λ rest b. more rest (l.leads rest b) }
leaves_more Whole Part more (Starting f) l = record { calls = l.calls; match = l.match; leads = λ rest b. more rest (l.leads rest b) }
leaves_more Whole Part more (Running top below) l = record { calls = l.calls; match = l.match; leads = λ rest b. more rest (l.leads rest b) }
leaves_more Whole Part more Ended l = more [] l
leaves_more Whole Part more (Stopped why) l = more [] l

module _ (code : Code) where
  abbrev ToldSoFar : List Step → ℕ → List Note → Type 0
  ToldSoFar past t rest = AreBracketed (opened_first code t) (notes_of t past ++ rest)

  -- what a thread told, and what it leaves open
  abbrev IsOpen : List Step → ℕ → Option (Thread Value) → Type 0
  IsOpen past t None = AreBracketed (opened_first code t) (notes_of t past)
  IsOpen past t (Some thread) = LeavesBy (ToldSoFar past t) thread

  notes_of-append : (t : ℕ) (xs ys : List Step) → notes_of t (xs ++ ys) ≡ notes_of t xs ++ notes_of t ys
  notes_of-append t [] ys = refl
  notes_of-append t (x ∷ xs) ys =
      ap (λ (l : List Note). told_or_cut t x ++ l) (notes_of-append t xs ys) ∙ sym (append_assoc (told_or_cut t x) (notes_of t xs) (notes_of t ys))

  unless_same : (u t : ℕ) (notes : List Note) → u ≢ t → (if nat_eq u t then notes else []) ≡ []
  unless_same u t notes other = ap (λ (b : Bool). if b then notes else []) (ne_eqb u t other)

  of_same : (t : ℕ) (notes : List Note) → (if nat_eq t t then notes else []) ≡ notes
  of_same t notes = ap (λ (b : Bool). if b then notes else []) (eq-eqb t t refl)

  nothing_told : (t : ℕ) (step : Step) → IsNotOf t step → told_or_cut t step ≡ []
  nothing_told t (Turned u site action answer notes) other = unless_same u t notes other
  nothing_told t (Wrote a w) other = refl
  nothing_told t (CutOff u) other = unless_same u t (note.Stopped Budget ∷ []) other
  nothing_told t Idle other = refl

  -- the notes with those of one step more
  one_more : (past : List Step) (step : Step) (t : ℕ) (notes : List Note) → told_or_cut t step ≡ notes → notes_of t (past ++ step ∷ []) ≡ notes_of t past ++ notes
  one_more past step t notes told =
      notes_of-append t past (step ∷ []) ∙ ap (λ (l : List Note). notes_of t past ++ l) (append-nil (told_or_cut t step) ∙ told)

  same_notes : (past : List Step) (step : Step) (t : ℕ) → IsNotOf t step → notes_of t past ≡ notes_of t (past ++ step ∷ [])
  same_notes past step t other = sym (one_more past step t [] (nothing_told t step other) ∙ append-nil (notes_of t past))

  open_later : (past : List Step) (step : Step) (t : ℕ) (o : Option (Thread Value)) → IsNotOf t step → IsOpen past t o → IsOpen (past ++ step ∷ []) t o
  open_later past step t None other was = subst (AreBracketed (opened_first code t)) (same_notes past step t other) was
  open_later past step t (Some thread) other was =
      leaves_more (ToldSoFar (past ++ step ∷ []) t) (ToldSoFar past t)
      (λ rest b. subst (λ (l : List Note). AreBracketed (opened_first code t) (l ++ rest)) (same_notes past step t other) b)
      thread was

  -- what is told in one turn more
  with_turn : (past : List Step) (step : Step) (t : ℕ) (notes rest : List Note) → told_or_cut t step ≡ notes
      → ToldSoFar past t (notes ++ rest)
      → ToldSoFar (past ++ step ∷ []) t rest
  with_turn past step t notes rest told b =
      subst (AreBracketed (opened_first code t))
      (sym (append_assoc (notes_of t past) notes rest) ∙ ap (λ (l : List Note). l ++ rest) (sym (one_more past step t notes told))) b

  -- a cut behind what was left open
  stop_follows : (calls : List Open) → AreBracketed calls (note.Stopped Budget ∷ [])
  stop_follows calls = refl

  open_cut : (past : List Step) (t : ℕ) (thread : Thread Value) → IsOpen past t (Some thread) → is_live thread ≡ true → IsOpen (past ++ CutOff t ∷ []) t (Some (Stopped Budget))
  open_cut past t Waiting was live = with_turn past (CutOff t) t (note.Stopped Budget ∷ []) [] (of_same t (note.Stopped Budget ∷ [])) (was.leads (note.Stopped Budget ∷ []) (stop_follows was.calls))
  open_cut past t (Starting f) was live = with_turn past (CutOff t) t (note.Stopped Budget ∷ []) [] (of_same t (note.Stopped Budget ∷ [])) (was.leads (note.Stopped Budget ∷ []) (stop_follows was.calls))
  open_cut past t (Running top below) was live = with_turn past (CutOff t) t (note.Stopped Budget ∷ []) [] (of_same t (note.Stopped Budget ∷ [])) (was.leads (note.Stopped Budget ∷ []) (stop_follows was.calls))
  open_cut past t Ended was live = absurd (cc)
  open_cut past t (Stopped why) was live = absurd (cc)

  -- ---- turns

  goes_behind : (past : List Step) (step : Step) (t : ℕ) (calls : List Open) (told : Told Value) → told_or_cut t step ≡ told.notes
      → ((rest : List Note) → AreBracketed calls rest → ToldSoFar past t rest)
      → GoesOn calls told
      → LeavesBy (ToldSoFar (past ++ step ∷ []) t) told.thread
  goes_behind past step t calls told is leads on =
      leaves_more (ToldSoFar (past ++ step ∷ []) t) (λ rest. AreBracketed calls (told.notes ++ rest))
      (λ rest b. with_turn past step t told.notes rest is (leads (told.notes ++ rest) b))
      told.thread on

open_turn : (setting : Setting) (past : List Step) (s : State) (t : ℕ) (thread : Thread Value) → is_live thread ≡ true → IsOpen setting.code past t (Some thread)
    → IsOpen setting.code (past ++ (takes_turn setting s t thread).step ∷ []) t (Some (told_in setting s t thread).thread)
open_turn setting past s t Waiting live was =
    goes_behind setting.code past (takes_turn setting s t Waiting).step t was.calls (told_in setting s t Waiting) (of_same setting.code t (told_in setting s t Waiting).notes) was.leads
    (started_goes_on setting.code was.calls was.match (found_entry (answer_in setting s (next setting.code t Waiting))))
open_turn setting past s t (Starting f) live was =
    goes_behind setting.code past (takes_turn setting s t (Starting f)).step t was.calls (told_in setting s t (Starting f)) (of_same setting.code t (told_in setting s t (Starting f)).notes) was.leads
    (begun_goes_on setting.code was.calls was.match t f (loaded_entry (found_entry (answer_in setting s (next setting.code t (Starting f))))))
open_turn setting past s t (Running top below) live was =
    goes_behind setting.code past (takes_turn setting s t (Running top below)).step t was.calls (told_in setting s t (Running top below))
    (of_same setting.code t (told_in setting s t (Running top below)).notes) was.leads
    (running_goes_on setting s t was.calls top below was.match)
open_turn setting past s t Ended live was = absurd (cc)
open_turn setting past s t (Stopped why) live was = absurd (cc)

bracketed_at : (code : Code) (steps : List Step) (t : ℕ) (o : Option (Thread Value)) → IsOpen code steps t o → AreBracketed (opened_first code t) (notes_of t steps)
bracketed_at code steps t None is = is
bracketed_at code steps t (Some Waiting) is = subst (AreBracketed (opened_first code t)) (append-nil (notes_of t steps)) (is.leads [] tt)
bracketed_at code steps t (Some (Starting f)) is = subst (AreBracketed (opened_first code t)) (append-nil (notes_of t steps)) (is.leads [] tt)
bracketed_at code steps t (Some (Running top below)) is = subst (AreBracketed (opened_first code t)) (append-nil (notes_of t steps)) (is.leads [] tt)
bracketed_at code steps t (Some Ended) is = subst (AreBracketed (opened_first code t)) (append-nil (notes_of t steps)) is
bracketed_at code steps t (Some (Stopped why)) is = subst (AreBracketed (opened_first code t)) (append-nil (notes_of t steps)) is

opened_none : (code : Code) (t : ℕ) → IsOpen code [] t None
opened_none code zero = tt
opened_none code (suc t) = tt

pub run_is_bracketed : (setting : Setting) (threads : ℕ) (events : List Event) (t : ℕ)
    → AreBracketed (opened_first setting.code t) (notes_of t (run setting threads events))
run_is_bracketed setting threads events t =
    bracketed_at setting.code (run setting threads events) t _
    (each_behind setting (IsOpen setting.code) (open_later setting.code) (open_cut setting.code) (open_turn setting)
    [] (opening setting threads) events
    (opening_each setting threads (IsOpen setting.code [])
    (record {
      calls = record { function = setting.code.entry; from = 0 } ∷ [];
      match = (sym (opened_function setting.code setting.code.entry []), tt, tt);
      leads = λ rest bracketed. bracketed;
    })
    (opened_none setting.code)
    (λ u. record { calls = []; match = refl; leads = λ rest bracketed. bracketed }))
    t)

-- What the notes of turns say of transfers: where they stand, where they lead, and which starts they tell.
use Rattle.std.proofs.Common.{◌≡◌, ℕ, zero, suc, ◌+◌, true, List, [], ◌∷◌, length, Contains, Option, Some, None, refl, ap, ◌∙◌, subst, arith}
use Rattle.meaning.specs.declared.action.Action.{Action}
use Rattle.meaning.specs.declared.note.Note.{Note}
use Rattle.meaning.specs.declared.note.Note.TheVariants as note
use Rattle.meaning.specs.declared.note.Place.{Place}
use Rattle.meaning.specs.declared.value.Entry.{Entry}
use Rattle.meaning.specs.declared.value.Stop.{Stop}
use Rattle.meaning.specs.declared.value.Value.{Value}
use Rattle.machine.specs.declared.code.Code.{Code}
use Rattle.machine.specs.Domain.{Callee, Reaches, Refused}
use Rattle.machine.specs.Frames.{Effect, Ended, Enters, Frame, Goes, Leaves, Nothing, Running, Starting, Stopped, Stops, Thread, ToObject, ToRegister, ToSlot, ToUnit, Waiting, Write, is_live}
use Rattle.machine.specs.Protected.{found_entry, next, protected, protected_callee, start_by, started}
use Rattle.machine.specs.Run.{Setting, Site, State, site_of}
use Rattle.machine.specs.Threads.{Told, applied, begins, enters, leaves, opened, result_slot, result_write, slot_told, slots_told, unit_told, write_told, written}
use Rattle.machine.specs.Transfers.{StandsAt, leads_to}
use Rattle.machine.specs.Values.{loaded_entry, told_function}
use Rattle.core_ir.specs.Typed.{start_type}
use Rattle.thread_laws.proofs.FittingValues.{Each, all_append}
use Rattle.machine_laws.proofs.Events.{answer_in, told_in}
use Rattle.machine_laws.proofs.Frames.{opened_function, opened_place, written_function, written_place}
use Rattle.machine_laws.proofs.Turns.{running}

pub contained : (P : Note → Type 0) (notes : List Note) (n : Note) → Each P notes → Contains notes n → P n
contained P [] n each (k, low, is) = absurd (omega (arith, low))
contained P (x ∷ xs) n each (zero, low, is) = subst P is each.0
contained P (x ∷ xs) n each (suc k, low, is) = contained P xs n each.1 (k, omega (arith, low), is)

-- ---- notes that are no transfers

module _ (P : Note → Type 0) (slots : (depth s f : ℕ) → P (note.CodeSlot depth s f)) (owns : (at f : ℕ) → P (note.CodeOwn at f)) where
  slot_quiet : (depth s : ℕ) (o : Option ℕ) → Each P (slot_told protected depth s o)
  slot_quiet depth s None = tt
  slot_quiet depth s (Some f) = (slots depth s f, tt)

  unit_quiet : (at : ℕ) (o : Option ℕ) → Each P (unit_told protected at o)
  unit_quiet at None = tt
  unit_quiet at (Some f) = (owns at f, tt)

  pub write_quiet : (depth : ℕ) (w : Write Value) → Each P (write_told protected depth w)
  write_quiet depth Nothing = tt
  write_quiet depth (ToRegister d v) = tt
  write_quiet depth (ToSlot s v) = slot_quiet depth s (told_function v)
  write_quiet depth (ToUnit unit at v) = unit_quiet at (told_function v)
  write_quiet depth (ToObject id) = tt

  pub slots_quiet : (depth s : ℕ) (vs : List Value) → Each P (slots_told protected depth s vs)
  slots_quiet depth s [] = tt
  slots_quiet depth s (v ∷ vs) =
      all_append P (slot_told protected depth s (told_function v)) (slots_told protected depth (suc s) vs)
      (slot_quiet depth s (told_function v)) (slots_quiet depth (suc s) vs)

-- ---- a transfer stands where it says, and leads to where its thread then stands

abbrev pub site_here : Frame Value → List (Frame Value) → Site
site_here top below = record { depth = length below; function = top.function; place = top.place }

abbrev LeadsThere : Thread Value → Note → Type 0
LeadsThere thread n = (site : Site) → leads_to n ≡ Some site → site_of thread ≡ Some site

-- both
abbrev pub IsTrueOf : Option Site → Told Value → Type 0
IsTrueOf at told = Each (λ (n : Note). StandsAt at n × LeadsThere told.thread n) told.notes

stop_is_true : (at : Option Site) (why : Stop) → StandsAt at (note.Stopped why)
stop_is_true None why = tt
stop_is_true (Some site) why = tt

module _ (at : Option Site) (thread : Thread Value) where
  abbrev Both : Note → Type 0
  Both n = StandsAt at n × LeadsThere thread n

  slot_stands : (o : Option Site) (depth s f : ℕ) → StandsAt o (note.CodeSlot depth s f)
  slot_stands None depth s f = tt
  slot_stands (Some site) depth s f = tt

  own_stands : (o : Option Site) (a f : ℕ) → StandsAt o (note.CodeOwn a f)
  own_stands None a f = tt
  own_stands (Some site) a f = tt

  slot_both : (depth s f : ℕ) → Both (note.CodeSlot depth s f)
  slot_both depth s f = (slot_stands at depth s f, λ site leads. absurd (cc))

  own_both : (a f : ℕ) → Both (note.CodeOwn a f)
  own_both a f = (own_stands at a f, λ site leads. absurd (cc))

  written_both : (depth : ℕ) (w : Write Value) → Each Both (write_told protected depth w)
  written_both depth w = write_quiet Both slot_both own_both depth w

  opened_both : (depth s : ℕ) (vs : List Value) → Each Both (slots_told protected depth s vs)
  opened_both depth s vs = slots_quiet Both slot_both own_both depth s vs

stopped_is_true : (at : Option Site) (why : Stop) → IsTrueOf at (record { thread = Stopped why; notes = note.Stopped why ∷ [] })
stopped_is_true at why = ((stop_is_true at why, λ site leads. absurd (cc)), tt)

-- a site by its parts
abbrev pub place_of : ℕ → ℕ → ℕ → Option Site
place_of depth function place = let site : Site = record { depth = depth; function = function; place = place } in Some site

pub there_by : (depth f place g at : ℕ) → f ≡ g → place ≡ at → place_of depth f place ≡ place_of depth g at
there_by depth f place g at function is =
    ap (λ (n : ℕ). place_of depth n place) function ∙ ap (λ (n : ℕ). place_of depth g n) is

module _ (code : Code) where
  entered_is_true : (top : Frame Value) (below : List (Frame Value)) (f : ℕ) (arguments : List Value) (through : Option Place)
      → IsTrueOf (Some (site_here top below)) (enters protected code top below f arguments through)
  entered_is_true top below f arguments None =
      let new : Frame Value = opened protected code f arguments in
      let caller : Frame Value = record top { place = top.place + 1 } in (
        (
          (refl, refl),
          λ site leads.
              there_by (suc (length below)) new.function new.place f 0 (opened_function code f arguments) (opened_place code f arguments) ∙ leads,
        ),
        opened_both (Some (site_here top below)) (Running new (caller ∷ below)) (suc (length below)) 0 new.slots,
      )
  entered_is_true top below f arguments (Some place) =
      let new : Frame Value = opened protected code f arguments in
      let caller : Frame Value = record top { place = top.place + 1 } in (
        (
          (refl, refl),
          λ site leads.
              there_by (suc (length below)) new.function new.place f 0 (opened_function code f arguments) (opened_place code f arguments) ∙ leads,
        ),
        opened_both (Some (site_here top below)) (Running new (caller ∷ below)) (suc (length below)) 0 new.slots,
      )

  left_is_true : (top : Frame Value) (below : List (Frame Value)) (v : Value) → IsTrueOf (Some (site_here top below)) (leaves protected code below v)
  left_is_true top [] v = ((refl, λ site leads. absurd (cc)), tt)
  left_is_true top (caller ∷ below) v =
      let w = result_write protected (result_slot code caller) v in
      let back : Frame Value = written protected w caller in (
        (
          refl,
          λ site leads.
              there_by (length below) back.function back.place caller.function caller.place (written_function w caller) (written_place w caller) ∙ leads,
        ),
        written_both (Some (site_here top (caller ∷ below))) (Running back below) (length below) w,
      )

  applied_is_true : (top : Frame Value) (below : List (Frame Value)) (e : Effect Value) → IsTrueOf (Some (site_here top below)) (applied protected code top below e)
  applied_is_true top below (Stops why) = stopped_is_true (Some (site_here top below)) why
  applied_is_true top below (Goes to w) =
      written_both (Some (site_here top below)) (Running (written protected w (record top { place = to })) below) (length below) w
  applied_is_true top below (Enters f arguments through) = entered_is_true top below f arguments through
  applied_is_true top below (Leaves v) = left_is_true top below v

  begun_is_true : (t f : ℕ) (v : Value) → IsTrueOf None (begins protected code t f v)
  begun_is_true t f v =
      let new : Frame Value = opened protected code f (v ∷ []) in (
        (tt, λ site leads. there_by 0 new.function new.place f 0 (opened_function code f (v ∷ [])) (opened_place code f (v ∷ [])) ∙ leads),
        opened_both None (Running new []) 0 0 new.slots,
      )

  callee_is_true : (c : Callee) → IsTrueOf None (start_by c)
  callee_is_true (Reaches f) = tt
  callee_is_true (Refused why) = stopped_is_true None why

  started_is_true : (o : Option Entry) → IsTrueOf None (started code o)
  started_is_true None = tt
  started_is_true (Some e) = callee_is_true (protected_callee code start_type (loaded_entry (Some e)))

-- what a turn tells of transfers is true of where its thread stood and where it stands
pub turn_is_true : (setting : Setting) (s : State) (t : ℕ) (thread : Thread Value) → is_live thread ≡ true
    → IsTrueOf (site_of thread) (told_in setting s t thread)
turn_is_true setting s t Waiting live = started_is_true setting.code (found_entry (answer_in setting s (next setting.code t Waiting)))
turn_is_true setting s t (Starting f) live =
    begun_is_true setting.code t f (loaded_entry (found_entry (answer_in setting s (next setting.code t (Starting f)))))
turn_is_true setting s t (Running top below) live =
    running setting.code t top below (answer_in setting s) (λ (action : Action) (told : Told Value). IsTrueOf (Some (site_here top below)) told)
    (λ why. stopped_is_true (Some (site_here top below)) why)
    (λ none. tt)
    (λ i here goes. applied_is_true setting.code top below _)
turn_is_true setting s t Ended live = absurd (cc)
turn_is_true setting s t (Stopped why) live = absurd (cc)

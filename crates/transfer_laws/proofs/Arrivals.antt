-- Transfers stand where they say, and each thread's next turn stands where its last transfer leads.
use Rattle.std.proofs.Common.{◌≡◌, ◌≢◌, ℕ, Bool, true, if◌then◌else◌, nat_eq, List, [], ◌∷◌, ◌++◌, All, Contains, Option, Some, None, refl, sym, ap, ◌∙◌, subst, arith, eq-eqb, ne_eqb}
use Rattle.meaning.specs.declared.action.Action.{Action}
use Rattle.meaning.specs.declared.action.Reply.{Reply}
use Rattle.meaning.specs.declared.event.Event.{Event}
use Rattle.meaning.specs.declared.note.Note.{Note}
use Rattle.meaning.specs.declared.value.Stop.TheVariants.{Budget}
use Rattle.meaning.specs.declared.value.Value.{Value}
use Rattle.machine.specs.Frames.{Stopped, Thread, is_live}
use Rattle.machine.specs.Run.{CutOff, Idle, Setting, Site, State, Step, Turned, Wrote, opening, run, site_of, takes_turn}
use Rattle.machine.specs.Transfers.{IsOthers, StandsAt, leads_to}
use Rattle.thread_laws.proofs.FittingValues.{Each}
use Rattle.machine_laws.proofs.Events.{IsNoTurn, IsNotOf, each_step, opening_each, told_in}
use Rattle.machine_laws.proofs.Splits.{EachBehind, EachBehind-at}
use Rattle.machine_laws.proofs.Values.{each_of}
use Rattle.transfer_laws.proofs.Notes.{contained, turn_is_true}

-- ---- what a thread told last

abbrev with_step : ℕ → List Note → Step → List Note
with_step t told (Turned u site action answer notes) = if nat_eq u t then notes else told
with_step t told _ = told

-- the notes of its last turn, or these where there is none
abbrev last_told : ℕ → List Note → List Step → List Note
last_told t told [] = told
last_told t told (step ∷ steps) = last_told t (with_step t told step) steps

last_told-append : (t : ℕ) (told : List Note) (xs ys : List Step) → last_told t told (xs ++ ys) ≡ last_told t (last_told t told xs) ys
last_told-append t told [] ys = refl
last_told-append t told (x ∷ xs) ys = last_told-append t (with_step t told x) xs ys

unlike : (u t : ℕ) (told notes : List Note) → u ≢ t → (if nat_eq u t then notes else told) ≡ told
unlike u t told notes other = ap (λ (b : Bool). if b then notes else told) (ne_eqb u t other)

alike : (t : ℕ) (told notes : List Note) → (if nat_eq t t then notes else told) ≡ notes
alike t told notes = ap (λ (b : Bool). if b then notes else told) (eq-eqb t t refl)

others_tell : (t : ℕ) (told : List Note) (step : Step) → IsOthers t step → with_step t told step ≡ told
others_tell t told (Turned u site action answer notes) other = unlike u t told notes other
others_tell t told (Wrote a w) other = refl
others_tell t told (CutOff u) other = refl
others_tell t told Idle other = refl

all_others_tell : (t : ℕ) (told : List Note) (steps : List Step) → Each (IsOthers t) steps → last_told t told steps ≡ told
all_others_tell t told [] others = refl
all_others_tell t told (step ∷ steps) others =
    ap (λ (l : List Note). last_told t l steps) (others_tell t told step others.0) ∙ all_others_tell t told steps others.1

-- the notes of a turn behind which others alone took turns
last_turn_told : (t : ℕ) (before between : List Step) (at : Option Site) (action : Action) (answer : Reply) (notes : List Note)
    → All (IsOthers t) between
    → last_told t [] (before ++ Turned t at action answer notes ∷ between) ≡ notes
last_turn_told t before between at action answer notes others =
    last_told-append t [] before (Turned t at action answer notes ∷ between)
    ∙ ap (λ (l : List Note). last_told t l between) (alike t (last_told t [] before) notes)
    ∙ all_others_tell t notes between (each_of (IsOthers t) between others)

-- ---- threads

-- where the thread's last transfer leads, if it is live
abbrev HasArrived : List Step → ℕ → Option (Thread Value) → Type 0
HasArrived past t None = Unit {0}
HasArrived past t (Some thread) =
    is_live thread ≡ true
    → (n : Note) (site : Site)
    → Contains (last_told t [] past) n
    → leads_to n ≡ Some site
    → site_of thread ≡ Some site

others_of : (t : ℕ) (step : Step) → IsNotOf t step → IsOthers t step
others_of t (Turned u site action answer notes) other = other
others_of t (Wrote a w) other = tt
others_of t (CutOff u) other = tt
others_of t Idle other = tt

arrived_later : (past : List Step) (step : Step) (t : ℕ) (o : Option (Thread Value)) → IsNotOf t step → HasArrived past t o → HasArrived (past ++ step ∷ []) t o
arrived_later past step t None other was = tt
arrived_later past step t (Some thread) other was = λ live n site has leads.
    was live n site
    (subst (λ (l : List Note). Contains l n)
    (last_told-append t [] past (step ∷ []) ∙ others_tell t (last_told t [] past) step (others_of t step other)) has)
    leads

arrived_cut : (past : List Step) (t : ℕ) (thread : Thread Value) → HasArrived past t (Some thread) → is_live thread ≡ true → HasArrived (past ++ CutOff t ∷ []) t (Some (Stopped Budget))
arrived_cut past t thread was live = λ still. absurd (cc)

arrived_turn : (setting : Setting) (past : List Step) (s : State) (t : ℕ) (thread : Thread Value) → is_live thread ≡ true → HasArrived past t (Some thread)
    → HasArrived (past ++ (takes_turn setting s t thread).step ∷ []) t (Some (told_in setting s t thread).thread)
arrived_turn setting past s t thread live was = λ still n site has leads.
    let told = told_in setting s t thread in
    let mine : Contains told.notes n =
    subst (λ (l : List Note). Contains l n)
    (last_told-append t [] past ((takes_turn setting s t thread).step ∷ []) ∙ alike t (last_told t [] past) told.notes) has in
    (contained (λ (m : Note). StandsAt (site_of thread) m × ((there : Site) → leads_to m ≡ Some there → site_of told.thread ≡ Some there))
    told.notes n (turn_is_true setting s t thread live) mine).1 site leads

-- a step's transfers stand where they say, and it stands where the last one led
abbrev pub IsInPlace : List Step → Step → Type 0
IsInPlace past (Turned t at action answer notes) =
    ((n : Note) → Contains notes n → StandsAt at n)
    × ((n : Note) (site : Site) → Contains (last_told t [] past) n → leads_to n ≡ Some site → at ≡ Some site)
IsInPlace past _ = Unit {0}

still_in_place : (past : List Step) (step : Step) → IsNoTurn step → IsInPlace past step
still_in_place past (Turned t at action answer notes) none = absurd none
still_in_place past (Wrote a w) none = tt
still_in_place past (CutOff u) none = tt
still_in_place past Idle none = tt

turn_in_place : (setting : Setting) (past : List Step) (s : State) (t : ℕ) (thread : Thread Value) → is_live thread ≡ true → HasArrived past t (Some thread)
    → IsInPlace past (takes_turn setting s t thread).step
turn_in_place setting past s t thread live was =
    let told = told_in setting s t thread in (
      λ n has.
          (contained (λ (m : Note). StandsAt (site_of thread) m × ((there : Site) → leads_to m ≡ Some there → site_of told.thread ≡ Some there))
          told.notes n (turn_is_true setting s t thread live) has).0,
      was live,
    )

contains_none : {A : Type 0} (x : A) → Contains [] x → ⊥
contains_none x (k, low, is) = omega (arith, low)

in_place : (setting : Setting) (threads : ℕ) (events : List Event) → EachBehind IsInPlace [] (run setting threads events)
in_place setting threads events =
    each_step setting HasArrived arrived_later arrived_cut (arrived_turn setting) IsInPlace still_in_place (turn_in_place setting)
    [] (opening setting threads) events
    (opening_each setting threads (HasArrived [])
    (λ live n site has. absurd (contains_none n has))
    (λ t. tt)
    (λ t live n site has. absurd (contains_none n has)))

pub transfers_stand :
    (setting : Setting) (threads : ℕ) (events : List Event) (before after : List Step) (t : ℕ) (at : Option Site) (action : Action) (answer : Reply)
    (notes : List Note) (n : Note)
    → run setting threads events ≡ before ++ Turned t at action answer notes ∷ after
    → Contains notes n
    → StandsAt at n
transfers_stand setting threads events before after t at action answer notes n split has =
    (EachBehind-at IsInPlace [] (run setting threads events) before after (Turned t at action answer notes) (in_place setting threads events) split).0 n has

pub transfers_arrive :
    (setting : Setting) (threads : ℕ) (events : List Event)
    (before between after : List Step) (t : ℕ) (at next : Option Site) (action action_next : Action)
    (answer answer_next : Reply) (notes notes_next : List Note) (n : Note) (site : Site)
    → run setting threads events
    ≡ before ++ Turned t at action answer notes ∷ between
    ++ Turned t next action_next answer_next notes_next ∷ after
    → All (IsOthers t) between
    → Contains notes n
    → leads_to n ≡ Some site
    → next ≡ Some site
transfers_arrive setting threads events before between after t at next action action_next answer answer_next notes notes_next n site split others has leads =
    let first : Step = Turned t at action answer notes in
    let second : Step = Turned t next action_next answer_next notes_next in
    let here = EachBehind-at IsInPlace [] (run setting threads events) (before ++ first ∷ between) after second (in_place setting threads events) split in
    here.1 n site (subst (λ (l : List Note). Contains l n) (sym (last_turn_told t before between at action answer notes others)) has) leads

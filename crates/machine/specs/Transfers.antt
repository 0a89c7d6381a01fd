-- Good transfers: each call through a pointer goes to the function that was last stored where its pointer was
-- read, each
-- start to the one that was found, and each return goes behind its call.
use Rattle.std.specs.Prelude.{◌≡◌, ◌≢◌, ◌⊎◌, ℕ, zero, suc, ◌≤◌, if◌then◌else◌, nat_eq, List, [], ◌∷◌, ◌++◌, length, map, Option, Some, None, Contains, slice_get}
use Rattle.std.specs.List.{All}
use Rattle.core_ir.specs.declared.role.Role.TheVariants as role
use Rattle.core_ir.specs.Flow.{Chain, HasRole}
use Rattle.core_ir.specs.Outline.{Outline}
use Rattle.meaning.specs.declared.action.Action.{Action}
use Rattle.meaning.specs.declared.action.Action.TheVariants as act
use Rattle.meaning.specs.declared.action.Reply.{Reply}
use Rattle.meaning.specs.declared.action.Reply.TheVariants as reply
use Rattle.meaning.specs.declared.note.Note.{Note}
use Rattle.meaning.specs.declared.note.Note.TheVariants as note
use Rattle.meaning.specs.declared.note.Place.{Place}
use Rattle.meaning.specs.declared.note.Place.TheVariants.{At, Slot}
use Rattle.meaning.specs.declared.value.Entry.TheVariants as entry
use Rattle.meaning.specs.declared.value.Stop.TheVariants.{Budget}
use Rattle.machine.specs.Addresses.{start_address}
use Rattle.meaning.specs.OpenCalls.{GoesBehind, Open, outer}
use Rattle.machine.specs.declared.code.Code.{Code}
use Rattle.machine.specs.declared.code.CodePlace.{CodePlace}
use Rattle.machine.specs.declared.code.CodePlace.TheVariants.{Load, GetLocal}
use Rattle.machine.specs.Outlines.{outline_of_code}
use Rattle.machine.specs.Run.{CutOff, Site, Step, Turned}
use Rattle.machine.specs.Threads.{body_in, place_at}

-- ---- activations: one frame, from its opening to its closing

-- thread t's frame at depth d stays open
abbrev pub IsInside : ℕ → ℕ → Step → Type 0
IsInside t d (Turned u (Some site) action answer notes) = (u ≢ t) ⊎ (d ≤ site.depth)
IsInside t d (Turned u None action answer notes) = u ≢ t
IsInside t d (CutOff u) = u ≢ t
IsInside t d _ = Unit {0}

-- a turn of thread t at place q of its frame at depth d
abbrev pub IsAt : ℕ → ℕ → ℕ → Step → Type 0
IsAt t d q (Turned u (Some site) action answer notes) = (u ≡ t) × (site.depth ≡ d) × (site.place ≡ q)
IsAt t d q _ = ⊥

-- inside, and not at that place
abbrev pub PassesBy : ℕ → ℕ → ℕ → Step → Type 0
PassesBy t d q step = IsInside t d step × (IsAt t d q step → ⊥)

-- the last step at place q in the activation that is open at depth d
pub record IsLast (before : List Step) (t d q : ℕ) (step : Step) (earlier : List Step) : Type 0 where
  pub later : List Step
  pub is : before ≡ earlier ++ step ∷ later
  pub at : IsAt t d q step
  pub only : All (PassesBy t d q) later

-- ---- what is told of safe places

-- what a step told of thread t
abbrev pub told_by : ℕ → Step → List Note
told_by t (Turned u site action answer notes) = if nat_eq u t then notes else []
told_by t _ = []

abbrev pub or_later : Option ℕ → Option ℕ → Option ℕ
or_later (Some f) later = Some f
or_later None later = later

abbrev pub slot_note : ℕ → ℕ → Note → Option ℕ
slot_note d s (note.CodeSlot e r f) = if nat_eq e d then if nat_eq r s then Some f else None else None
slot_note d s _ = None

-- the function that the last of these notes tells of slot s at depth d
abbrev pub last_slot : ℕ → ℕ → List Note → Option ℕ
last_slot d s [] = None
last_slot d s (n ∷ ns) = or_later (last_slot d s ns) (slot_note d s n)

abbrev pub own_note : ℕ → Note → Option ℕ
own_note a (note.CodeOwn b f) = if nat_eq b a then Some f else None
own_note a _ = None

-- and of a safe local's unit at address a
abbrev pub last_own : ℕ → List Note → Option ℕ
last_own a [] = None
last_own a (n ∷ ns) = or_later (last_own a ns) (own_note a n)

-- a step that tells nothing of the slot, and leaves the frame open
abbrev pub TellsNoSlot : ℕ → ℕ → ℕ → Step → Type 0
TellsNoSlot t d s step = IsInside t d step × (last_slot d s (told_by t step) ≡ None)

-- The last that was told of slot s of thread t's frame at depth d is function f, behind the opening of that
-- frame; the call
-- that opens it tells its arguments itself.
pub record IsSlotTold (before : List Step) (t d s f : ℕ) : Type 0 where
  pub earlier : List Step
  pub step : Step
  pub later : List Step
  pub is : before ≡ earlier ++ step ∷ later
  pub told : last_slot d s (told_by t step) ≡ Some f
  pub only : All (TellsNoSlot t d s) later

-- what any step told of safe locals
abbrev pub all_told : Step → List Note
all_told (Turned u site action answer notes) = notes
all_told _ = []

-- a turn of thread t in its frame at depth d
abbrev pub IsAtDepth : ℕ → ℕ → Step → Type 0
IsAtDepth t d (Turned u (Some site) action answer notes) = (u ≡ t) × (site.depth ≡ d)
IsAtDepth t d _ = ⊥

-- a step of any thread that tells nothing of the unit at address a, and leaves the frame open
abbrev pub TellsNoOwn : ℕ → ℕ → ℕ → Step → Type 0
TellsNoOwn t d a step = IsInside t d step × (last_own a (all_told step) ≡ None)

-- The last that was told of the unit at address a, by any thread, is function f, in the activation of thread t
-- at depth d.
pub record IsOwnTold (before : List Step) (t d a f : ℕ) : Type 0 where
  pub earlier : List Step
  pub step : Step
  pub later : List Step
  pub is : before ≡ earlier ++ step ∷ later
  pub by : IsAtDepth t d step
  pub told : last_own a (all_told step) ≡ Some f
  pub only : All (TellsNoOwn t d a) later

-- ---- reads

-- the last step at the first instruction of a call's chain, in the activation of the call, got function f from
-- address a
pub record IsGot (before : List Step) (t : ℕ) (site : Site) (q f a : ℕ) : Type 0 where
  pub earlier : List Step
  pub at : Option Site
  pub notes : List Note
  pub last : IsLast before t site.depth q (Turned t at (act.Get a) (reply.Found (Some (entry.Code f))) notes) earlier

-- the same of a safe local's unit, which was told to have function f
pub record IsOwn (before : List Step) (t : ℕ) (site : Site) (q f a : ℕ) : Type 0 where
  pub earlier : List Step
  pub step : Step
  pub last : IsLast before t site.depth q step earlier
  pub told : IsOwnTold earlier t site.depth a f

-- the same of a slot
pub record IsKeptInSlot (before : List Step) (t : ℕ) (site : Site) (q f s : ℕ) : Type 0 where
  pub earlier : List Step
  pub step : Step
  pub last : IsLast before t site.depth q step earlier
  pub told : IsSlotTold earlier t site.depth s f

-- what the first instruction of the chain says of the place that the record names
abbrev pub IsReadBy : Option CodePlace → List Step → ℕ → Site → ℕ → ℕ → Place → Type 0
IsReadBy (Some (Load d p kind None)) before t site q f (At a) = IsGot before t site q f a
IsReadBy (Some (Load d p kind (Some unit))) before t site q f (At a) = IsOwn before t site q f a
IsReadBy (Some (GetLocal d r)) before t site q f (Slot depth s) =
    (depth ≡ site.depth) × (r ≡ s) × IsKeptInSlot before t site q f s
IsReadBy _ before t site q f place = ⊥

-- what control flow sees of function f
abbrev pub outlines_at : Code → ℕ → List Outline
outlines_at code f = map outline_of_code (body_in (slice_get code.functions f))

-- a call through a pointer, at a site, goes to the function that was read
pub record IsRead (code : Code) (before : List Step) (t : ℕ) (site : Site) (f : ℕ) (place : Place) : Type 0 where
  pub register : ℕ
  pub first : ℕ
  pub called : HasRole (outlines_at code site.function) 0 site.place (role.Indirect register)
  pub chain : Chain (outlines_at code site.function) 0 site.place register first
  pub read : IsReadBy (place_at code site.function first) before t site first f place

abbrev pub IsReadBefore : Code → List Step → ℕ → Option Site → ℕ → ℕ → Place → Type 0
IsReadBefore code before t None f from place = ⊥
IsReadBefore code before t (Some site) f from place = IsRead code before t site f place × (from ≡ site.place)

-- ---- starts

-- a turn of thread t that gets from address a
abbrev pub Gets : ℕ → ℕ → Step → Type 0
Gets t a (Turned u site (act.Get b) answer notes) = (u ≡ t) × (b ≡ a)
Gets t a _ = ⊥

-- the last that thread t got from address a is function f
pub record IsFound (before : List Step) (t a f : ℕ) : Type 0 where
  pub earlier : List Step
  pub at : Option Site
  pub notes : List Note
  pub later : List Step
  pub is : before ≡ earlier ++ Turned t at (act.Get a) (reply.Found (Some (entry.Code f))) notes ∷ later
  pub only : All (λ step. Gets t a step → ⊥) later

-- ---- brackets

-- calls, starts and returns are bracketed by depth, within these open calls, the innermost first
abbrev pub AreBracketed : List Open → List Note → Type 0
AreBracketed open_calls [] = Unit {0}
AreBracketed open_calls (note.Call depth f from ∷ notes) =
    (depth ≡ length open_calls) × AreBracketed (record { function = f; from = from } ∷ open_calls) notes
AreBracketed open_calls (note.Indirect depth f from place ∷ notes) =
    (depth ≡ length open_calls) × AreBracketed (record { function = f; from = from } ∷ open_calls) notes
AreBracketed open_calls (note.Return depth f to ∷ notes) =
    GoesBehind open_calls depth f to × AreBracketed (outer open_calls) notes
-- the bottom frame ends the thread, and nothing follows
AreBracketed open_calls (note.End ∷ notes) = (length open_calls ≡ 1) × (notes ≡ [])
-- a thread that has no frame begins
AreBracketed open_calls (note.Start f at ∷ notes) =
    (open_calls ≡ []) × AreBracketed (record { function = f; from = 0 } ∷ []) notes
-- nothing follows a stop
AreBracketed open_calls (note.Stopped why ∷ notes) = notes ≡ []
AreBracketed open_calls (_ ∷ notes) = AreBracketed open_calls notes

-- a cut is a stop
abbrev pub told_or_cut : ℕ → Step → List Note
told_or_cut t (CutOff u) = if nat_eq u t then note.Stopped Budget ∷ [] else []
told_or_cut t step = told_by t step

-- what the steps tell of thread t, in order
abbrev pub notes_of : ℕ → List Step → List Note
notes_of t [] = []
notes_of t (step ∷ steps) = told_or_cut t step ++ notes_of t steps

-- thread 0 has the entry function at depth 0, and no other has a frame
abbrev pub opened_first : Code → ℕ → List Open
opened_first code zero = record { function = code.entry; from = 0 } ∷ []
opened_first code (suc t) = []

-- ---- places

-- Each transfer stands at the place that it says: a call at the step's own place, one deeper, and the thread's
-- next step in
-- the new frame at its first place; a return at the place that it goes to.
abbrev pub StandsAt : Option Site → Note → Type 0
StandsAt (Some site) (note.Call depth f from) = (from ≡ site.place) × (depth ≡ suc site.depth)
StandsAt (Some site) (note.Indirect depth f from place) = (from ≡ site.place) × (depth ≡ suc site.depth)
StandsAt (Some site) (note.Return depth f to) = depth ≡ site.depth
StandsAt (Some site) note.End = site.depth ≡ 0
StandsAt (Some site) (note.Start f at) = ⊥
StandsAt None (note.Start f at) = Unit {0}
StandsAt None (note.Call depth f from) = ⊥
StandsAt None (note.Indirect depth f from place) = ⊥
StandsAt None (note.Return depth f to) = ⊥
StandsAt None note.End = ⊥
StandsAt _ _ = Unit {0}

-- where a transfer leads: the depth, the function and the place
abbrev pub leads_to : Note → Option Site
leads_to (note.Call depth f from) = Some (record { depth = depth; function = f; place = 0 })
leads_to (note.Indirect depth f from place) = Some (record { depth = depth; function = f; place = 0 })
leads_to (note.Start f at) = Some (record { depth = 0; function = f; place = 0 })
leads_to (note.Return (suc depth) f to) = Some (record { depth = depth; function = f; place = to })
leads_to _ = None

-- a step that is no turn of thread t
abbrev pub IsOthers : ℕ → Step → Type 0
IsOthers t (Turned u site action answer notes) = u ≢ t
IsOthers t _ = Unit {0}

-- every call through a pointer, every start and every return of these steps goes where it should
pub record GoodTransfers (code : Code) (steps : List Step) : Type 0 where
  pub reads :
      (before after : List Step) (t : ℕ) (at : Option Site) (action : Action) (answer : Reply) (notes : List Note)
      (depth f from : ℕ) (place : Place)
      → steps ≡ before ++ Turned t at action answer notes ∷ after
      → Contains notes (note.Indirect depth f from place)
      → IsReadBefore code before t at f from place
  pub starts :
      (before after : List Step) (t : ℕ) (at : Option Site) (action : Action) (answer : Reply) (notes : List Note)
      (f a : ℕ)
      → steps ≡ before ++ Turned t at action answer notes ∷ after
      → Contains notes (note.Start f a)
      → (a ≡ start_address t) × IsFound before t a f
  pub bracketed : (t : ℕ) → AreBracketed (opened_first code t) (notes_of t steps)
  -- what a step tells of transfers is true of where it stands
  pub places :
      (before after : List Step) (t : ℕ) (at : Option Site) (action : Action) (answer : Reply) (notes : List Note)
      (n : Note)
      → steps ≡ before ++ Turned t at action answer notes ∷ after
      → Contains notes n
      → StandsAt at n
  -- and the thread's next step stands where the transfer leads
  pub arrivals :
      (before between after : List Step) (t : ℕ) (at next : Option Site) (action action_next : Action)
      (answer answer_next : Reply) (notes notes_next : List Note) (n : Note) (site : Site)
      → steps
      ≡ before ++ Turned t at action answer notes ∷ between
      ++ Turned t next action_next answer_next notes_next ∷ after
      → All (IsOthers t) between
      → Contains notes n
      → leads_to n ≡ Some site
      → next ≡ Some site

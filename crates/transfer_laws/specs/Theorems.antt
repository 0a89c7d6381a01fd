-- The laws of transfers that hold of any code, whatever the inputs, the turns, the corruptions and the cuts.
use Rattle.std.specs.Prelude.{◌≡◌, ℕ, List, ◌∷◌, ◌++◌, Option, Some, Contains}
use Rattle.std.specs.List.{All}
use Rattle.meaning.specs.declared.action.Action.{Action}
use Rattle.meaning.specs.declared.action.Reply.{Reply}
use Rattle.meaning.specs.declared.event.Event.{Event}
use Rattle.meaning.specs.declared.note.Note.{Note}
use Rattle.meaning.specs.declared.note.Note.TheVariants as note
use Rattle.machine.specs.Addresses.{start_address}
use Rattle.machine.specs.Run.{Setting, Site, Step, Turned, run}
use Rattle.machine.specs.Transfers.{AreBracketed, IsFound, IsOthers, StandsAt, leads_to, notes_of, opened_first}

-- what a run tells of each thread is bracketed by depth
abbrev pub ThreadsAreBracketed : Type 0
ThreadsAreBracketed =
    (setting : Setting) (threads : ℕ) (events : List Event) (t : ℕ)
    → AreBracketed (opened_first setting.code t) (notes_of t (run setting threads events))

-- each start goes to the function that its thread found at its start word
abbrev pub StartsAreFound : Type 0
StartsAreFound =
    (setting : Setting) (threads : ℕ) (events : List Event) (before after : List Step) (t : ℕ) (at : Option Site)
    (action : Action) (answer : Reply) (notes : List Note) (f a : ℕ)
    → run setting threads events ≡ before ++ Turned t at action answer notes ∷ after
    → Contains notes (note.Start f a)
    → (a ≡ start_address t) × IsFound before t a f

-- each transfer stands where it says
abbrev pub TransfersStand : Type 0
TransfersStand =
    (setting : Setting) (threads : ℕ) (events : List Event) (before after : List Step) (t : ℕ) (at : Option Site)
    (action : Action) (answer : Reply) (notes : List Note) (n : Note)
    → run setting threads events ≡ before ++ Turned t at action answer notes ∷ after
    → Contains notes n
    → StandsAt at n

-- and its thread's next turn stands where it leads
abbrev pub TransfersArrive : Type 0
TransfersArrive =
    (setting : Setting) (threads : ℕ) (events : List Event)
    (before between after : List Step) (t : ℕ) (at next : Option Site) (action action_next : Action)
    (answer answer_next : Reply) (notes notes_next : List Note) (n : Note) (site : Site)
    → run setting threads events
    ≡ before ++ Turned t at action answer notes ∷ between
    ++ Turned t next action_next answer_next notes_next ∷ after
    → All (IsOthers t) between
    → Contains notes n
    → leads_to n ≡ Some site
    → next ≡ Some site

-- The records of a run.
use Rattle.std.specs.Prelude.{ℕ, List, [], ◌∷◌, ◌++◌, map}
use Rattle.std.specs.List.{flat_map}
use Rattle.meaning.specs.declared.action.Action.{Action}
use Rattle.meaning.specs.declared.action.Reply.{Reply}
use Rattle.meaning.specs.declared.note.Note.{Note}
use Rattle.meaning.specs.declared.note.Note.TheVariants as note
use Rattle.meaning.specs.declared.record.Record.{Record}
use Rattle.meaning.specs.declared.record.Record.TheVariants.{Noted, Wrote}
use Rattle.meaning.specs.declared.value.Stop.TheVariants.{Budget}
use Rattle.meaning.specs.Records.{added_all, did, or_one_step}
use Rattle.machine.specs.Run.{CutOff, Idle, Step, Turned, Wrote as WroteStep}

-- the records of a turn
abbrev pub turn_records : ℕ → Action → Reply → List Note → List Record
turn_records t action answer notes = or_one_step t (did t action answer ++ map (Noted t) notes)

-- the records of one step
abbrev pub records_of : Step → List Record
records_of (Turned t site action answer notes) = turn_records t action answer notes
records_of (WroteStep a w) = Wrote a w ∷ []
records_of (CutOff t) = Noted t (note.Stopped Budget) ∷ []
records_of Idle = []

-- the records of steps behind those of a trace
abbrev pub traced : List Record → List Step → List Record
traced trace steps = added_all trace (flat_map records_of steps)

-- the records of steps
abbrev pub trace_of : List Step → List Record
trace_of steps = traced [] steps

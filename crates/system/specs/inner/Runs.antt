-- What events make of a system and of a trace.
use Rattle.std.specs.Prelude.{◌≡◌, List, ◌++◌}
use Rattle.meaning.specs.declared.event.Event.{Event}
use Rattle.meaning.specs.declared.record.Record.{Record}
use Rattle.machine.specs.declared.code.Code.{Code}
use Rattle.machine.specs.Run.{steps_from, state_after}
use Rattle.machine.specs.Trace.{traced}
use Rattle.system.specs.declared.run.System.{System}
use Rattle.system.specs.State.{IsSystemOf, setting_of, state_of, threads_of}

-- the second system and records are the first ones behind these events
pub record IsBehind (code : Code) (events : List Event) (s s' : System) (records records' : List Record) : Type 0 where
  pub state : state_of s' ≡ state_after (setting_of code s) (state_of s) events
  pub recorded : records' ≡ traced records (steps_from (setting_of code s) (state_of s) events)

-- the second records are the first ones behind the first of these events
pub record IsWithin (code : Code) (events : List Event) (s : System) (records records' : List Record) : Type 0 where
  pub done : List Event
  pub rest : List Event
  pub split : events ≡ done ++ rest
  pub recorded : records' ≡ traced records (steps_from (setting_of code s) (state_of s) done)

-- the second system is one of this code, with what the first one was opened with
pub record IsKept (code : Code) (s s' : System) : Type 0 where
  pub same : IsSystemOf code s'
  pub setting : setting_of code s' ≡ setting_of code s
  pub threads : threads_of s' ≡ threads_of s

-- The laws of runs: of any code, whatever the inputs, the turns, the corruptions and the cuts.
use Rattle.std.specs.Prelude.{ℕ, ◌≤◌, List}
use Rattle.meaning.specs.declared.event.Event.{Event}
use Rattle.meaning.specs.Legal.{LegalHistory}
use Rattle.meaning.specs.Records.{calls_of}
use Rattle.machine.specs.Run.{Setting, run}
use Rattle.machine.specs.Trace.{trace_of}

-- With at most so many slots, what the records of a run show of the safe store is one legal history.
abbrev pub RunsAreLegal : Type 0
RunsAreLegal =
    (setting : Setting) (threads : ℕ) (events : List Event)
    → setting.slots ≤ 1048576
    → 1 ≤ threads
    → LegalHistory setting.slots threads (calls_of (trace_of (run setting threads events)))

-- The law of runs.
use Rattle.std.specs.Prelude.{ℕ, ◌≤◌, List}
use Rattle.core_ir.specs.declared.program.Program.{Program}
use Rattle.core_ir.specs.Valid.{IsValid}
use Rattle.meaning.specs.declared.event.Event.{Event}
use Rattle.meaning.specs.Legal.{LegalHistory}
use Rattle.meaning.specs.Records.{calls_of}
use Rattle.machine.specs.Based.{BasedOn}
use Rattle.machine.specs.Run.{Setting, run}
use Rattle.machine.specs.Stands.{Stands}
use Rattle.machine.specs.Trace.{trace_of}
use Rattle.machine.specs.Transfers.{GoodTransfers}

-- What the records of a run show of the safe store is one legal history; its calls, starts and returns go
-- where they should; its values and its accesses of the safe store are based on objects made before.
pub record IsGoodRun (program : Program) (setting : Setting) (threads : ℕ) (events : List Event) : Type 0 where
  pub history : LegalHistory setting.slots threads (calls_of (trace_of (run setting threads events)))
  pub transfers : GoodTransfers setting.code (run setting threads events)
  pub based : BasedOn program setting threads events

-- So is every run of code that stands for a valid program, with at most so many slots and threads, whatever
-- the inputs, the turns, the corruptions and the cuts.
abbrev pub RunsAreGood : Type 0
RunsAreGood =
    (program : Program) (setting : Setting) (threads : ℕ) (events : List Event)
    → IsValid program
    → Stands setting.code program
    → setting.slots ≤ 1048576
    → 1 ≤ threads
    → threads ≤ 16
    → IsGoodRun program setting threads events

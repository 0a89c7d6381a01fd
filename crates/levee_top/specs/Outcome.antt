-- What the words and an input give: a status and a text, by cases in the order of refusals.
use Rattle.std.specs.Prelude.{◌≡◌, ℕ, ℤ, ◌<◌, ◌≤◌, ◌⊎◌, Bool, cond, List, length}
use Rattle.core_ir.specs.declared.program.Program.{Program}
use Rattle.meaning.specs.declared.event.Event.{Event}
use Rattle.meaning.specs.Records.{is_violated}
use Rattle.machine.specs.declared.code.Code.{Code}
use Rattle.machine.specs.Run.{Setting, Step, run}
use Rattle.machine.specs.Stands.{Stands}
use Rattle.machine.specs.Trace.{trace_of}
use Rattle.job.specs.Lines.{IsCut, HasNoMark}
use Rattle.script.specs.Script.{IsLine, IsScript, IsFirstBad, IsTooLong}
use Rattle.trace.specs.Text.{run_text}
use Rattle.levee_top.specs.declared.command.Command.{Command}
use Rattle.levee_top.specs.declared.command.Command.TheVariants.{Run}
use Rattle.levee_top.specs.declared.refusal.Refusal.{Refusal}
use Rattle.levee_top.specs.declared.refusal.Refusal.TheVariants as refusal
use Rattle.levee_top.specs.declared.status.Status.{Status}
use Rattle.levee_top.specs.declared.status.Status.TheVariants.{Done, Violation}
use Rattle.levee_top.specs.Command.{IsCommand, IsNoCommand}
use Rattle.levee_top.specs.Refusal.{IsRefused}
use Rattle.levee_top.specs.Source.{IsProgramOf, SourceRefuses}

-- ---- runs

-- a run has this many threads
abbrev pub run_threads : ℕ
run_threads = 16

-- a run has this many slots
abbrev pub run_slots : ℕ
run_slots = 1048576

-- a run of this code with these inputs
abbrev pub setting_of : Code → List ℤ → Setting
setting_of code inputs = record { code = code; inputs = inputs; slots = run_slots }

-- its steps over events
abbrev pub steps_of : Code → List ℤ → List Event → List Step
steps_of code inputs events = run (setting_of code inputs) run_threads events

abbrev pub status_of : Bool → Status
status_of violated = cond violated Violation Done

-- what is answered and written for the run of a program over inputs and events: that of the code which stands for it
pub record IsRun
    (full : Bool) (program : Program) (inputs : List ℤ) (events : List Event)
    (status : Status) (text : List ℕ) : Type 0 where
  pub code : Code
  pub stands : Stands code program
  pub status_is : status ≡ status_of (is_violated (trace_of (steps_of code inputs events)))
  pub text_is : text ≡ run_text full inputs (trace_of (steps_of code inputs events))

-- ---- jobs

-- a job has at most this many bytes
abbrev pub greatest_job : ℕ
greatest_job = 1048576

-- too many bytes, or no line that ends the source
abbrev pub IsNoJob : List ℕ → Type 0
IsNoJob input = (greatest_job < length input) ⊎ HasNoMark input

-- the input is a job with this source and this script
pub record IsJob (input source script : List ℕ) : Type 0 where
  pub small : length input ≤ greatest_job
  pub cut : IsCut input source script

-- the input is a job whose source has this program
pub record HasProgram (input : List ℕ) (program : Program) (script : List ℕ) : Type 0 where
  pub source : List ℕ
  pub job : IsJob input source script
  pub program_is : IsProgramOf source program

-- the input is accepted: a job whose source has this program and whose script has these inputs and events
pub record IsAccepted (input : List ℕ) (program : Program) (inputs : List ℤ) (events : List Event) : Type 0 where
  pub script : List ℕ
  pub source_has : HasProgram input program script
  pub script_has : IsScript script inputs events

-- why an input is refused, in the order in which it is looked at
pub data Refuses (input : List ℕ) (why : Refusal) : Type 0 where
  -- it is no job
  no_job :
      why ≡ refusal.Job
      → IsNoJob input
      → Refuses input why
  -- it is a job whose source has no program
  no_program :
      (source script : List ℕ)
      → IsJob input source script
      → SourceRefuses source why
      → Refuses input why
  -- its source has a program, and line n of its script is the first that is none
  bad_line :
      (program : Program) (script : List ℕ) (n : ℕ)
      → why ≡ refusal.ScriptLine n
      → HasProgram input program script
      → IsFirstBad IsLine script n
      → Refuses input why
  -- its source has a program, and each line of its script is one, with too many turns
  too_long :
      (program : Program) (script : List ℕ)
      → why ≡ refusal.ScriptLong
      → HasProgram input program script
      → IsTooLong script
      → Refuses input why

-- ---- words and an input

-- the status and the text that the words and the input give
pub data Outcome (words : List (List ℕ)) (input : List ℕ) (status : Status) (text : List ℕ) : Type 0 where
  -- the words are no command
  usage :
      IsNoCommand words
      → IsRefused refusal.Usage status text
      → Outcome words input status text
  -- they are, and the input is refused
  refused :
      (command : Command) (why : Refusal)
      → IsCommand words command
      → Refuses input why
      → IsRefused why status text
      → Outcome words input status text
  -- they are a run, in brief or in full, and the input is accepted
  ran :
      (full : Bool) (program : Program) (inputs : List ℤ) (events : List Event)
      → IsCommand words (Run full)
      → IsAccepted input program inputs events
      → IsRun full program inputs events status text
      → Outcome words input status text

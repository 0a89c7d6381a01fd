-- What ends the way of a job before its run.
use Rattle.std.specs.Prelude.{ℕ, ℤ, Bool, List, Option}
use Rattle.c_parser.specs.declared.error.ParseRefusal.{ParseRefusal}
use Rattle.c_parser.specs.declared.error.ParseRefusal.TheVariants as parse
use Rattle.c_tokens.specs.declared.token.LexRefusal.{LexRefusal}
use Rattle.c_tokens.specs.declared.token.LexRefusal.TheVariants as lex
use Rattle.c_typing.specs.declared.error.CheckRefusal.{CheckRefusal}
use Rattle.c_typing.specs.declared.error.CheckRefusal.TheVariants as check
use Rattle.core_ir.specs.declared.program.Program.{Program}
use Rattle.elab.specs.declared.error.ElabRefusal.{ElabRefusal}
use Rattle.elab.specs.declared.error.ElabRefusal.TheVariants as elab
use Rattle.lv_base.specs.declared.source.ReadEnd.{ReadEnd}
use Rattle.lv_base.specs.declared.source.ReadEnd.TheVariants as read
use Rattle.meaning.specs.declared.event.Event.{Event}
use Rattle.run_laws.specs.Theorems.{IsGoodRun}
use Rattle.script.specs.declared.error.ScriptRefusal.{ScriptRefusal}
use Rattle.script.specs.declared.error.ScriptRefusal.TheVariants as script
use Rattle.levee_top.specs.declared.failure.Failure.{Failure}
use Rattle.levee_top.specs.declared.failure.Failure.TheVariants.{Refused, Fault, Memory}
use Rattle.levee_top.specs.declared.refusal.Refusal.TheVariants as refusal
use Rattle.levee_top.specs.declared.status.Status.{Status}
use Rattle.levee_top.specs.Levee.{Gives}
use Rattle.levee_top.specs.Outcome.{IsAccepted, IsRun, Refuses, run_threads, setting_of}
use Rattle.levee_top.specs.Refusal.{IsRefused}
use Rattle.levee_top.specs.Source.{SourceRefuses}

abbrev pub read_failure : ReadEnd → Failure
read_failure read.Fault = Fault
read_failure read.Long = Refused refusal.Job
read_failure read.Memory = Memory

abbrev pub lex_failure : LexRefusal → Failure
lex_failure (lex.Byte line) = Refused (refusal.Byte line)
lex_failure (lex.Number line) = Refused (refusal.Number line)
lex_failure (lex.Text line) = Refused (refusal.Text line)
lex_failure (lex.Comment line) = Refused (refusal.Comment line)
lex_failure lex.Memory = Memory

abbrev pub parse_failure : ParseRefusal → Failure
parse_failure (parse.Syntax item) = Refused (refusal.Syntax item)
parse_failure parse.Memory = Memory

abbrev pub check_failure : CheckRefusal → Failure
check_failure (check.Rule item rule) = Refused (refusal.Type item rule)
check_failure check.Memory = Memory

abbrev pub elab_failure : ElabRefusal → Failure
elab_failure (elab.Limit which) = Refused (refusal.Limit which)
elab_failure elab.Memory = Memory

abbrev pub script_failure : ScriptRefusal → Failure
script_failure (script.Line n) = Refused (refusal.ScriptLine n)
script_failure script.TooLong = Refused refusal.ScriptLong
script_failure script.Memory = Memory

-- the status and the text are those of a program's run, which is legal
pub record RunsLegally
    (full : Bool) (program : Program) (inputs : List ℤ) (events : List Event)
    (status : Status) (text : List ℕ) : Type 0 where
  pub run : IsRun full program inputs events status text
  pub legal : IsGoodRun program (setting_of run.code inputs) run_threads events

-- the status and the text are those of the run of an accepted input
pub record Runs (full : Bool) (input : List ℕ) (status : Status) (text : List ℕ) : Type 0 where
  pub program : Program
  pub inputs : List ℤ
  pub events : List Event
  pub accepted : IsAccepted input program inputs events
  pub run : RunsLegally full program inputs events status text

-- the source is refused so, unless memory ran out
abbrev pub SourceFails : List ℕ → Failure → Type 0
SourceFails source (Refused why) = SourceRefuses source why
SourceFails source Fault = ⊥
SourceFails source Memory = Unit {0}

-- the input is refused so, unless memory ran out
abbrev pub FailsAt : List ℕ → Failure → Type 0
FailsAt input (Refused why) = Refuses input why
FailsAt input Fault = ⊥
FailsAt input Memory = Unit {0}

-- the status and the text of a refusal are the outcome of the words and the input that was read
abbrev pub Ends : List (List ℕ) → Option (List ℕ) → ℕ → ℕ → Failure → Type 0
Ends words told before after (Refused why) =
    (status : Status) (text : List ℕ) → IsRefused why status text → Gives words told before after status text
Ends words told before after _ = Unit {0}

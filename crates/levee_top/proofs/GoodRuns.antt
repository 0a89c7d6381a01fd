-- A run of code that stands for a valid program is legal, and what is answered of its trace is what it gives.
use Rattle.std.proofs.Common.{◌≡◌, ◌∙◌, ℕ, ℤ, Bool, List, ap, arith}
use Rattle.core_ir.specs.declared.program.Program.{Program}
use Rattle.core_ir.specs.Valid.{IsValid}
use Rattle.machine.specs.declared.code.Code.{Code}
use Rattle.machine.specs.Stands.{Stands}
use Rattle.machine.specs.Trace.{trace_of}
use Rattle.meaning.specs.declared.event.Event.{Event}
use Rattle.meaning.specs.declared.record.Record.{Record}
use Rattle.meaning.specs.Records.{is_violated}
use Rattle.run_laws.specs.Theorems.{IsGoodRun, RunsAreGood}
use Rattle.trace.specs.Text.{run_text}
use Rattle.levee_top.specs.declared.status.Status.{Status}
use Rattle.levee_top.specs.Outcome.{run_threads, setting_of, status_of, steps_of}
use Rattle.levee_top.specs.inner.Failure.{RunsLegally}

pub good_run : RunsAreGood → (program : Program) (code : Code) (inputs : List ℤ) (events : List Event)
    → IsValid program → Stands code program → IsGoodRun program (setting_of code inputs) run_threads events
good_run good program code inputs events valid stands =
    good program (setting_of code inputs) run_threads events valid stands (omega arith) (omega arith) (omega arith)

-- a trace of the run has its status and its text
pub runs_legally : (full : Bool) (program : Program) (inputs : List ℤ) (events : List Event) (code : Code) (had : List ℤ) (records : List Record) (status : Status) (text : List ℕ)
    → Stands code program
    → had ≡ inputs
    → records ≡ trace_of (steps_of code inputs events)
    → IsGoodRun program (setting_of code inputs) run_threads events
    → status ≡ status_of (is_violated records)
    → text ≡ run_text full had records
    → RunsLegally full program inputs events status text
runs_legally full program inputs events code had records status text stands same_inputs same_records good s t =
    record {
      run = record {
        code = code;
        stands = stands;
        status_is = s ∙ ap (λ (rs : List Record). status_of (is_violated rs)) same_records;
        text_is = t ∙ (ap (λ (is : List ℤ). run_text full is records) same_inputs ∙ ap (λ (rs : List Record). run_text full inputs rs) same_records);
      };
      legal = good;
    }

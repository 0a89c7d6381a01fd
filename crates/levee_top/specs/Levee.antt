-- What the top call promises of its words, its source and its sink.
use Rattle.std.specs.Prelude.{◌≡◌, ℕ, List, length, Option, Some, None}
use Rattle.std.specs.Io.KnownBytes.{Appends}
use Rattle.lv_base.specs.Counts.{raised_by}
use Rattle.lv_base.specs.Whole.{AppendsPrefix}
use Rattle.run_laws.specs.Theorems.{IsGoodRun}
use Rattle.levee_top.specs.declared.status.Status.{Status}
use Rattle.levee_top.specs.declared.status.Status.TheVariants.{Done, Violation, ReadFault, WriteFault, Memory}
use Rattle.levee_top.specs.Outcome.{Outcome, usage, refused, ran, run_threads, setting_of}

-- no fault and no want of memory was answered
abbrev pub IsWhole : Status → Type 0
IsWhole ReadFault = ⊥
IsWhole WriteFault = ⊥
IsWhole Memory = ⊥
IsWhole _ = Unit {0}

-- the input was accepted
abbrev pub IsAcceptance : Status → Type 0
IsAcceptance Done = Unit {0}
IsAcceptance Violation = Unit {0}
IsAcceptance _ = ⊥

-- if the outcome is a run, that is one legal history, its transfers are good, and its pointers are based on what the program
-- made
abbrev pub IsLegal :
    {words : List (List ℕ)} {input : List ℕ} {status : Status} {text : List ℕ}
    → Outcome words input status text
    → Type 0
IsLegal (usage none line) = Unit {0}
IsLegal (refused command why words input line) = Unit {0}
IsLegal (ran full program inputs events words input run) =
    IsGoodRun program (setting_of run.code inputs) run_threads events

-- the bytes are those that the source tells, where it tells them
abbrev pub IsTold : Option (List ℕ) → List ℕ → Type 0
IsTold None input = Unit {0}
IsTold (Some told) input = told ≡ input

-- The input of a call that answered a status: what the source tells, and where it was accepted as many bytes as were
-- read.
pub record IsInput (told : Option (List ℕ)) (before after : ℕ) (status : Status) (input : List ℕ) : Type 0 where
  pub told_is : IsTold told input
  pub counted : IsAcceptance status → after ≡ raised_by (length input) before

-- the status and the text are those of the outcome of the words and the input that was read, and a run is legal
pub record Gives
    (words : List (List ℕ)) (told : Option (List ℕ)) (before after : ℕ)
    (status : Status) (text : List ℕ) : Type 0 where
  pub input : List ℕ
  pub input_is : IsInput told before after status input
  pub outcome : Outcome words input status text
  pub legal : IsLegal outcome

-- such a text was appended
pub record Writes
    (words : List (List ℕ)) (told : Option (List ℕ)) (before after : ℕ)
    (held new : Option (List ℕ)) (status : Status) : Type 0 where
  pub text : List ℕ
  pub gives : Gives words told before after status text
  pub appended : Appends held new text

-- a prefix of such a text was appended
pub record WritesPrefix
    (words : List (List ℕ)) (told : Option (List ℕ)) (before after : ℕ)
    (held new : Option (List ℕ)) : Type 0 where
  pub status : Status
  pub text : List ℕ
  pub gives : Gives words told before after status text
  pub appended : AppendsPrefix held new text

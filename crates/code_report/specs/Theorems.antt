-- What holds of every report.
use Rattle.std.specs.Prelude.{◌≡◌, ℕ, List}
use Rattle.c_typed.specs.declared.unit.Typed.{Typed}
use Rattle.core_ir.specs.declared.program.Program.{Program}
use Rattle.code_report.specs.Report.{IsReport}

-- a source with its program has one report at most
abbrev pub ReportsAreUnique : Type 0
ReportsAreUnique =
    (typed : Typed) (p : Program) (a b : List ℕ)
    → IsReport typed p a
    → IsReport typed p b
    → a ≡ b

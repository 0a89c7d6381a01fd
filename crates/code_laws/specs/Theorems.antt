-- What holds of the code that stands for a program.
use Rattle.std.specs.Prelude.{◌≡◌}
use Rattle.core_ir.specs.declared.program.Program.{Program}
use Rattle.machine.specs.declared.code.Code.{Code}
use Rattle.machine.specs.Stands.{Stands}

-- no program has two codes, whether it is valid or not
abbrev pub ProgramsHaveOneCode : Type 0
ProgramsHaveOneCode = (program : Program) (c d : Code) → Stands c program → Stands d program → c ≡ d

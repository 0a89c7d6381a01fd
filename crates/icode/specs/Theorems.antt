-- What holds of code, in the language's own words.
use Rattle.std.specs.Prelude.{List, map}
use Rattle.core_ir.specs.declared.program.Function.{Function}
use Rattle.core_ir.specs.declared.program.Program.{Program}
use Rattle.core_ir.specs.Instructions.{outline_of}
use Rattle.core_ir.specs.Valid.{IsValid, IsValidFunction}
use Rattle.machine.specs.declared.code.CodeLocal.{CodeLocal}
use Rattle.machine.specs.declared.code.Code.{Code}
use Rattle.machine.specs.Stands.{Stands}
use Rattle.machine.specs.ValidCode.{ValidCode}
use Rattle.icode.specs.Sites.{AreLocals, LocalsStand}

-- code that stands for a valid program is valid
abbrev pub StandingCodeIsValid : Type 0
StandingCodeIsValid = (program : Program) (code : Code) → IsValid program → Stands code program → ValidCode code

-- what stands for the locals of a valid function lies in its frame, with the safe ones marked
abbrev pub StandingLocalsAreLocals : Type 0
StandingLocalsAreLocals =
    (program : Program) (f : Function) (locals : List CodeLocal)
    → IsValidFunction program f
    → LocalsStand f locals
    → AreLocals (map outline_of f.body) locals

-- The programs of typed sources are valid, and their code is typed.
use Rattle.std.specs.Prelude.{◌≡◌, Bool, None}
use Rattle.c_types.specs.declared.ty.Ty.{Ty}
use Rattle.c_typed.specs.declared.unit.Typed.{Typed}
use Rattle.c_typed_rows.specs.Sources.{IsTyped}
use Rattle.core_ir.specs.Typed.{IsTypedCode}
use Rattle.core_ir.specs.Valid.{IsValid}
use Rattle.elab_pieces.specs.Limits.{first_limit}
use Rattle.elab_pieces.specs.Program.{program_of}
use Rattle.elab_valid.specs.Sources.{TypesFit}

-- where each level meets its row, each type passes a test that tells what is asked, and the program passes no limit
abbrev pub ProgramsAreValid : Type 0
ProgramsAreValid =
    (t : Typed) (fits : Ty → Bool)
    → IsTyped t
    → TypesFit t fits
    → first_limit (program_of t) ≡ None
    → IsValid (program_of t)

-- where each level meets its row, and each type passes such a test, registers and slots have types in the program
abbrev pub ProgramsAreTyped : Type 0
ProgramsAreTyped = (t : Typed) (fits : Ty → Bool) → IsTyped t → TypesFit t fits → IsTypedCode (program_of t)

-- The programs of sources that break no rule are valid, and their code is typed.
use Rattle.std.specs.Prelude.{◌≡◌, IsTrue, None}
use Rattle.c_tree.specs.declared.statement.Unit.{Unit as Source}
use Rattle.c_tree.specs.Marks.{Kinds}
use Rattle.c_tree.specs.Statements.{SourceReads}
use Rattle.c_typed.specs.declared.unit.Typed.{Typed}
use Rattle.c_typing.specs.Theorems.{HasForm}
use Rattle.c_typing_types.specs.Filled.{is_filled}
use Rattle.core_ir.specs.Typed.{IsTypedCode}
use Rattle.core_ir.specs.Valid.{IsValid}
use Rattle.elab_pieces.specs.Limits.{first_limit}
use Rattle.elab_pieces.specs.Program.{program_of}

-- the typed form of a source, where no limit is passed, has a valid program
pub record ProgramIsValid (t : Typed) : Type 0 where
  -- if no braces of the source are empty
  pub filled : (s : Source) → HasForm s t → IsTrue (is_filled s) → first_limit (program_of t) ≡ None → IsValid (program_of t)
  -- so if the grammar derives it
  pub derived :
      (ts : Kinds) (s : Source)
      → SourceReads ts s
      → HasForm s t
      → first_limit (program_of t) ≡ None
      → IsValid (program_of t)

-- the typed form of a source has a program whose registers and slots have types
pub record ProgramIsTyped (t : Typed) : Type 0 where
  pub filled : (s : Source) → HasForm s t → IsTrue (is_filled s) → IsTypedCode (program_of t)
  pub derived : (ts : Kinds) (s : Source) → SourceReads ts s → HasForm s t → IsTypedCode (program_of t)

-- Numbers, slots and types are in range in a statement's lines, and its accesses fit their touches, where it is so in its
-- expressions' code.
use Rattle.std.specs.Prelude.{ℕ, Bool, Option, List}
use Rattle.c_types.specs.declared.structs.StructDef.{StructDef}
use Rattle.core_ir.specs.declared.instr.Instr.{Instr}
use Rattle.core_ir.specs.declared.program.Function.{Function}
use Rattle.core_ir.specs.declared.program.Program.{Program}
use Rattle.core_ir.specs.Valid.{IsInRange}
use Rattle.elab_rows.specs.Made.{Code}
use Rattle.elab_pieces.specs.Lines.{Breaks, Continues, PieceCode, all_joined, full, joined, no_lines, one_line, plain_lines}
use Rattle.elab_pieces.specs.Functions.{entering}
use Rattle.elab_pieces.specs.Statements.{do_code, if_by, loop_code, returned, returned_nothing, while_code}
use Rattle.elab_laws.specs.Fitting.{EachIs, IsFit}
use Rattle.elab_laws.specs.Touching.{IsTouched}
use Rattle.elab_piece_laws.specs.Fitting.{AreListedPieces, IfListedCode, IfListedPiece, IsListedCode, IsListedPiece}

pub record ListingRows (L : List Instr → Type 0) (slots registers : ℕ) : Type 0 where
  pub nothing : IsListedPiece L slots registers no_lines
  pub expression : (a : Code) → IsListedCode L slots registers a → IsListedPiece L slots registers (full a)
  pub join :
      (a b : PieceCode)
      → IsListedPiece L slots registers a
      → IsListedPiece L slots registers b
      → IsListedPiece L slots registers (joined a b)
  pub joins :
      (cs : List PieceCode)
      → AreListedPieces L slots registers cs
      → IsListedPiece L slots registers (all_joined cs)
  pub breaks : IsListedPiece L slots registers (one_line Breaks)
  pub continues : IsListedPiece L slots registers (one_line Continues)
  pub choice :
      (c : Code) (a : PieceCode) (b : Option PieceCode)
      → IsListedCode L slots registers c
      → IsListedPiece L slots registers a
      → IfListedPiece L slots registers b
      → IsListedPiece L slots registers (if_by c a b)
  pub while_loop :
      (c : Code) (a : PieceCode)
      → IsListedCode L slots registers c
      → IsListedPiece L slots registers a
      → IsListedPiece L slots registers (while_code c a)
  pub do_loop :
      (a : PieceCode) (c : Code)
      → IsListedPiece L slots registers a
      → IsListedCode L slots registers c
      → IsListedPiece L slots registers (do_code a c)
  pub for_loop :
      (c : Option Code) (a : PieceCode) (s : Code)
      → IfListedCode L slots registers c
      → IsListedPiece L slots registers a
      → IsListedCode L slots registers s
      → IsListedPiece L slots registers (loop_code c a s)
  pub return_value :
      (frame : Bool) (a : Code)
      → IsListedCode L slots registers a
      → IsListedPiece L slots registers (returned frame a)
  pub return_nothing : (frame : Bool) → IsListedPiece L slots registers (returned_nothing frame)
  pub enters : (frame : Bool) → IsListedPiece L slots registers (plain_lines (entering frame))

pub record StatementsFit : Type 0 where
  pub in_range :
      (p : Program) (f : Function)
      → ListingRows (EachIs (IsFit (IsInRange p f) f.slots)) f.slots f.registers
  pub touched : (defs : List StructDef) (slots registers : ℕ) → ListingRows (IsTouched defs) slots registers

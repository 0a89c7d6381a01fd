-- Each row of statements gives a piece where its parts do, and a function's body is well formed.
use Rattle.std.specs.Prelude.{ℕ, Bool, true, false, Option, Some, None, List}
use Rattle.core_ir.specs.Order.{IsWellFormed}
use Rattle.core_parts.specs.Theorems.{AreNumbered}
use Rattle.elab_rows.specs.Made.{Code}
use Rattle.elab_pieces.specs.Lines.{Breaks, Continues, PieceCode, all_full, all_joined, full, joined, led, no_lines, one_line}
use Rattle.elab_pieces.specs.Statements.{do_code, if_by, loop_code, returned, returned_nothing, while_code}
use Rattle.elab_pieces.specs.Functions.{body_code, body_of}
use Rattle.elab_piece_laws.specs.Lines.{AreFull, AreGoodPieces, IfFull, IsClosed, IsFull, IsGoodPiece, IsTest, outlines}

abbrev pub IfGoodPiece : Bool → Option PieceCode → Type 0
IfGoodPiece frame None = Unit {0}
IfGoodPiece frame (Some c) = IsGoodPiece frame c

-- in a function that has a frame or hasn't
pub record StatementRows (frame : Bool) : Type 0 where
  pub nothing : IsGoodPiece frame no_lines
  pub expression : (a : Code) → IsFull a → IsGoodPiece frame (full a)
  pub join : (a b : PieceCode) → IsGoodPiece frame a → IsGoodPiece frame b → IsGoodPiece frame (joined a b)
  pub joins : (cs : List PieceCode) → AreGoodPieces frame cs → IsGoodPiece frame (all_joined cs)
  pub expressions : (cs : List Code) → AreFull cs → IsGoodPiece frame (all_full cs)
  pub breaks : IsGoodPiece frame (one_line Breaks)
  pub continues : IsGoodPiece frame (one_line Continues)
  pub choice :
      (c : Code) (a : PieceCode) (b : Option PieceCode)
      → IsTest c
      → IsGoodPiece frame a
      → IfGoodPiece frame b
      → IsGoodPiece frame (if_by c a b)
  pub while_loop : (c : Code) (a : PieceCode) → IsTest c → IsGoodPiece frame a → IsGoodPiece frame (while_code c a)
  pub do_loop : (a : PieceCode) (c : Code) → IsGoodPiece frame a → IsTest c → IsGoodPiece frame (do_code a c)
  pub for_loop :
      (c : Option Code) (a : PieceCode) (s : Code)
      → IfFull c
      → IsGoodPiece frame a
      → IsFull s
      → IsGoodPiece frame (loop_code c a s)
  pub return_value : (a : Code) → IsTest a → IsGoodPiece frame (returned frame a)
  pub return_nothing : IsGoodPiece frame (returned_nothing frame)

-- the place behind where a frame is entered
abbrev pub body_start : Bool → ℕ
body_start true = 1
body_start false = 0

-- the body of a function: copies of parameters and a block, in which nothing is open
abbrev pub BodyRow : Bool → Type 0
BodyRow frame =
    (copies statements : PieceCode) (slot registers slots : ℕ)
    → IsGoodPiece frame copies
    → IsGoodPiece frame statements
    → IsClosed (joined copies statements (body_start frame) slot).lines
    → AreNumbered registers slots (outlines (led 0 0 (joined copies statements (body_start frame) slot).lines)) (body_start frame)
    → IsWellFormed registers slots frame (outlines (body_of (body_code frame copies statements 0 slot)))

pub record StatementsAreGood : Type 0 where
  pub statements : (frame : Bool) → StatementRows frame
  pub bodies : (frame : Bool) → BodyRow frame

-- What is said of the lines of a statement: wherever `break` and `continue` lead outside of them, they are a piece.
use Rattle.std.specs.Prelude.{ℕ, ◌+◌, Bool, Option, Some, None, List, [], ◌∷◌, length, map}
use Rattle.core_ir.specs.declared.instr.Instr.{Instr}
use Rattle.core_ir.specs.Instructions.{outline_of}
use Rattle.core_ir.specs.Outline.{Outline}
use Rattle.core_parts.specs.Pieces.{IsOutside, IsPart, IsPiece}
use Rattle.elab_rows.specs.Made.{Code}
use Rattle.elab_pieces.specs.Lines.{Breaks, Continues, Does, Line, PieceCode, led}

abbrev pub outlines : List Instr → List Outline
outlines code = map outline_of code

-- ---- full expressions

-- code that is a part of a full expression from every place, with registers from 0 on
abbrev pub IsFull : Code → Type 0
IsFull a = (place slot : ℕ) → IsPart (outlines (a place 0 slot).code) place 0 (a place 0 slot).register []

-- the same, and its value may be used behind it
abbrev pub IsTest : Code → Type 0
IsTest a =
    (place slot : ℕ)
    → IsPart (outlines (a place 0 slot).code) place 0 (a place 0 slot).register ((a place 0 slot).result ∷ [])

-- ---- lines

abbrev pub AreGoodLines : Bool → List Line → ℕ → Type 0
AreGoodLines frame lines place =
    (b k : ℕ)
    → IsOutside place (place + length lines) b
    → IsOutside place (place + length lines) k
    → IsPiece frame (outlines (led b k lines)) place (b ∷ k ∷ [])

-- in a function that has a frame or hasn't
abbrev pub IsGoodPiece : Bool → PieceCode → Type 0
IsGoodPiece frame c = (place slot : ℕ) → AreGoodLines frame (c place slot).lines place

abbrev pub IfFull : Option Code → Type 0
IfFull None = Unit {0}
IfFull (Some a) = IsTest a

abbrev pub AreGoodPieces : Bool → List PieceCode → Type 0
AreGoodPieces frame [] = Unit {0}
AreGoodPieces frame (c ∷ cs) = IsGoodPiece frame c × AreGoodPieces frame cs

abbrev pub AreFull : List Code → Type 0
AreFull [] = Unit {0}
AreFull (a ∷ others) = IsFull a × AreFull others

-- nothing is open: no `break` or `continue` leads out
abbrev pub IsClosed : List Line → Type 0
IsClosed [] = Unit {0}
IsClosed (Does i ∷ ls) = IsClosed ls
IsClosed (Breaks ∷ ls) = ⊥
IsClosed (Continues ∷ ls) = ⊥

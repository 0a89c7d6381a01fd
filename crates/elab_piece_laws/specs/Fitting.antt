-- What is asked of each line's instruction alone, or of a touch and its access, holds of a statement's lines where it holds
-- of its expressions' code. L says it of lists of instructions.
use Rattle.std.specs.Prelude.{ℕ, ◌≤◌, Option, Some, None, List, [], ◌∷◌, ◌++◌}
use Rattle.core_ir.specs.declared.instr.Instr.{Instr}
use Rattle.core_ir.specs.declared.instr.Instr.TheVariants.{Branch, Enter, Jump, Leave, Return}
use Rattle.elab_rows.specs.Made.{Code}
use Rattle.elab_pieces.specs.Lines.{PieceCode, led}

-- one list behind another, and the instructions that statements add
pub record AreListed (L : List Instr → Type 0) : Type 0 where
  pub empty : L []
  pub append : (c d : List Instr) → L c → L d → L (c ++ d)
  pub branch : (x l : ℕ) → L (Branch x l ∷ [])
  pub jump : (l : ℕ) → L (Jump l ∷ [])
  pub enter : L (Enter ∷ [])
  pub leave : L (Leave ∷ [])
  pub return : (a : Option ℕ) → L (Return a ∷ [])

-- the code of a full expression, in a function that has so many slots and registers
pub record IsListedCode (L : List Instr → Type 0) (slots registers : ℕ) (a : Code) : Type 0 where
  pub grows : (place first : ℕ) → first ≤ (a place 0 first).slot
  pub code :
      (place first : ℕ)
      → (a place 0 first).slot ≤ slots
      → (a place 0 first).register ≤ registers
      → L (a place 0 first).code

-- the lines of a statement
pub record IsListedPiece (L : List Instr → Type 0) (slots registers : ℕ) (c : PieceCode) : Type 0 where
  pub grows : (place first : ℕ) → first ≤ (c place first).slot
  pub lines :
      (place first b k : ℕ)
      → (c place first).slot ≤ slots
      → (c place first).registers ≤ registers
      → L (led b k (c place first).lines)

abbrev pub IfListedCode : (List Instr → Type 0) → ℕ → ℕ → Option Code → Type 0
IfListedCode L slots registers None = Unit {0}
IfListedCode L slots registers (Some a) = IsListedCode L slots registers a

abbrev pub IfListedPiece : (List Instr → Type 0) → ℕ → ℕ → Option PieceCode → Type 0
IfListedPiece L slots registers None = Unit {0}
IfListedPiece L slots registers (Some a) = IsListedPiece L slots registers a

abbrev pub AreListedPieces : (List Instr → Type 0) → ℕ → ℕ → List PieceCode → Type 0
AreListedPieces L slots registers [] = Unit {0}
AreListedPieces L slots registers (c ∷ cs) = IsListedPiece L slots registers c × AreListedPieces L slots registers cs

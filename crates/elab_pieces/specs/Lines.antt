-- Code of statements: lines, of which those of `break` and `continue` are open until the loop around them closes them.
use Rattle.std.specs.Prelude.{ℕ, ◌+◌, max, List, [], ◌∷◌, ◌++◌, length, map}
use Rattle.core_ir.specs.declared.instr.Instr.{Instr}
use Rattle.core_ir.specs.declared.instr.Instr.TheVariants.{Jump}
use Rattle.elab_rows.specs.Made.{Code, Made}

pub data Line : Type 0 where
  Does : (i : Instr) → Line
  Breaks : Line
  Continues : Line

abbrev pub led_line : ℕ → ℕ → Line → Instr
led_line b k (Does i) = i
led_line b k Breaks = Jump b
led_line b k Continues = Jump k

-- the code where `break` leads to b and `continue` to k
abbrev pub led : ℕ → ℕ → List Line → List Instr
led b k lines = map (led_line b k) lines

-- lines of a statement
pub record Piece : Type 0 where
  pub lines : List Line
  -- the most registers of its full expressions
  pub registers : ℕ
  -- the next slot behind it
  pub slot : ℕ

-- what is made from a place and a slot on
abbrev pub PieceCode : Type 0
PieceCode = ℕ → ℕ → Piece

-- no line
abbrev pub no_lines : PieceCode
no_lines place slot = record { lines = []; registers = 0; slot = slot }

abbrev pub one_line : Line → PieceCode
one_line l place slot = record { lines = l ∷ []; registers = 0; slot = slot }

-- instructions that define no register and name no slot
abbrev pub plain_lines : List Instr → PieceCode
plain_lines code place slot = record { lines = map Does code; registers = 0; slot = slot }

abbrev pub piece_of : Made → Piece
piece_of x = record { lines = map Does x.code; registers = x.register; slot = x.slot }

-- a full expression numbers its registers from 0
abbrev pub full : Code → PieceCode
full a place slot = piece_of (a place 0 slot)

abbrev pub joined_made : Piece → Piece → Piece
joined_made x y = record { lines = x.lines ++ y.lines; registers = max x.registers y.registers; slot = y.slot }

-- two one behind the other
abbrev pub joined : PieceCode → PieceCode → PieceCode
joined a b place slot = let x = a place slot in joined_made x (b (place + length x.lines) x.slot)

abbrev pub all_joined : List PieceCode → PieceCode
all_joined [] = no_lines
all_joined (a ∷ others) = joined a (all_joined others)

-- full expressions one behind the other
abbrev pub all_full : List Code → PieceCode
all_full [] = no_lines
all_full (a ∷ others) = joined (full a) (all_full others)

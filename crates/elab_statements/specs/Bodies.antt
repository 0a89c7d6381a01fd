-- What is added to the code of a function.
use Rattle.std.specs.Prelude.{◌≡◌, ℕ, max, List, ◌++◌, length, Result, Ok, Err}
use Rattle.core_ir.specs.declared.instr.Instr.{Instr}
use Rattle.elab_emit.specs.Emits.{Stops}
use Rattle.elab_emit.specs.declared.emitter.Trouble.{Trouble}
use Rattle.elab_pieces.specs.Lines.{Piece, PieceCode, led}
use Rattle.elab_statements.specs.declared.body.Body.{Body}

-- what the lines of a statement are here
abbrev pub piece_at : Body → PieceCode → Piece
piece_at b c = c (length b.out.code) b.out.slot

-- this stands behind what was there; so many registers and slots there are
pub record Grows (old : Body) (code : List Instr) (registers slot : ℕ) (new : Body) : Type 0 where
  pub added : new.out.code ≡ old.out.code ++ code
  pub most : new.registers ≡ max old.registers registers
  pub next_slot : new.out.slot ≡ slot

-- instructions that define no register
abbrev pub PutAll : Body → List Instr → Result (Unit {0}) Trouble → Body → Type 0
PutAll old code (Ok u) new = Grows old code 0 old.out.slot new
PutAll old code (Err e) new = Stops old.out code e

-- the lines of a statement are there, of which none is open
abbrev pub PieceOutcome : Body → Piece → Result (Unit {0}) Trouble → Body → Type 0
PieceOutcome old x (Ok u) new = Grows old (led 0 0 x.lines) x.registers x.slot new
PieceOutcome old x (Err e) new = Stops old.out (led 0 0 x.lines) e

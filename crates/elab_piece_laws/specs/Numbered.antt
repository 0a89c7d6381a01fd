-- Registers and slots of a statement's lines are of the function's, where its full expressions number theirs from 0 and its
-- slots go on from those before.
use Rattle.std.specs.Prelude.{ℕ, ◌<◌, List, IfSome}
use Rattle.core_ir.specs.declared.instr.Instr.{Instr}
use Rattle.core_ir.specs.declared.program.Function.{Function}
use Rattle.core_ir.specs.declared.program.Program.{Program}
use Rattle.core_ir.specs.Instructions.{defined}
use Rattle.core_ir.specs.Valid.{IsInRange}
use Rattle.core_parts.specs.Theorems.{AreNumbered}
use Rattle.elab_rows.specs.Made.{Code}
use Rattle.elab_laws.specs.Fitting.{EachIs, IsFitting, SlotFits}
use Rattle.elab_piece_laws.specs.Fitting.{IsListedCode}
use Rattle.elab_piece_laws.specs.FittingLaws.{ListingRows}
use Rattle.elab_piece_laws.specs.Lines.{IsFull, outlines}

-- the register that it defines and the slot that it names are of the first so many
abbrev pub NumberFits : ℕ → ℕ → Instr → Type 0
NumberFits registers slots i = IfSome (defined i) (λ d. d < registers) × SlotFits slots i

abbrev pub Numbers : ℕ → ℕ → List Instr → Type 0
Numbers registers slots code = EachIs (NumberFits registers slots) code

pub record NumbersOfLines : Type 0 where
  -- it is what bodies ask
  pub means :
      (registers slots start : ℕ) (code : List Instr)
      → Numbers registers slots code
      → AreNumbered registers slots (outlines code) start
  pub expression :
      (p : Program) (f : Function) (a : Code)
      → IsFull a
      → IsFitting (IsInRange p f) f.slots a
      → IsListedCode (Numbers f.registers f.slots) f.slots f.registers a
  pub rows : (registers slots : ℕ) → ListingRows (Numbers registers slots) slots registers

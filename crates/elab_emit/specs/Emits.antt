-- What a function that emits does: the code of its row stands behind what was there.
use Rattle.std.specs.Prelude.{◌≡◌, ℕ, ◌+◌, ◌<◌, ◌≤◌, List, [], ◌∷◌, ◌++◌, length, Result, Ok, Err}
use Rattle.core_ir.specs.declared.instr.Instr.{Instr}
use Rattle.elab_emit.specs.declared.emitter.Emitter.{Emitter}
use Rattle.elab_emit.specs.declared.emitter.Trouble.{Trouble}
use Rattle.elab_emit.specs.declared.emitter.Trouble.TheVariants.{TooLong, Memory}
use Rattle.elab_rows.specs.Made.{Made, Code}

-- what the code is here
abbrev pub code_of : Emitter → Code → Made
code_of e c = c (length e.code) e.register e.slot

-- An instruction defines at most one register, and made slots have instructions too: so no counter passes 32 bits.
pub record IsSound (e : Emitter) : Type 0 where
  pub code : length e.code ≤ 65536
  pub register : e.register ≤ length e.code
  pub slot : e.slot ≤ length e.code + 2147483648

-- this stands behind what was there, and these are the next register and slot
pub record Adds (old : Emitter) (code : List Instr) (register slot : ℕ) (new : Emitter) : Type 0 where
  pub added : new.code ≡ old.code ++ code
  pub next_register : new.register ≡ register
  pub next_slot : new.slot ≡ slot

-- with this the code is too long; of memory nothing is said
abbrev pub Stops : Emitter → List Instr → Trouble → Type 0
Stops old code TooLong = 65536 < length old.code + length code
Stops old code Memory = Unit {0}

-- the code is there, and this is the register of its value; or why it isn't
abbrev pub Outcome : Emitter → Made → Result ℕ Trouble → Emitter → Type 0
Outcome old m (Ok r) new = Adds old m.code m.register m.slot new × (r ≡ m.result)
Outcome old m (Err e) new = Stops old m.code e

-- one instruction
abbrev pub PutOutcome : Emitter → Instr → Result (Unit {0}) Trouble → Emitter → Type 0
PutOutcome old i (Ok u) new = Adds old (i ∷ []) old.register old.slot new
PutOutcome old i (Err e) new = Stops old (i ∷ []) e

-- one that defines the next register
abbrev pub GiveOutcome : Emitter → Instr → Result ℕ Trouble → Emitter → Type 0
GiveOutcome old i (Ok r) new = Adds old (i ∷ []) (old.register + 1) old.slot new × (r ≡ old.register)
GiveOutcome old i (Err e) new = Stops old (i ∷ []) e

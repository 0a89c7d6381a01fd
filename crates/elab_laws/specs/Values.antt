-- What is said of code that is made from a place and a register: it is a part of a full expression.
use Rattle.std.specs.Prelude.{ℕ, ◌+◌, List, [], ◌∷◌, length, map}
use Rattle.core_ir.specs.declared.instr.Instr.{Instr}
use Rattle.core_ir.specs.Flow.{Chain}
use Rattle.core_ir.specs.Instructions.{outline_of}
use Rattle.core_ir.specs.Outline.{Outline}
use Rattle.core_parts.specs.Pieces.{IsPart, end_of}
use Rattle.core_parts.specs.Places.{Forks}
use Rattle.elab_rows.specs.Calls.{Listed}
use Rattle.elab_rows.specs.Made.{Code, Made}

abbrev pub outlines : List Instr → List Outline
outlines code = map outline_of code

-- the place behind what was made from a place
abbrev pub behind_made : ℕ → Made → ℕ
behind_made place x = place + length x.code

-- its registers are those from the given one on, and these are live
abbrev pub IsMade : Made → ℕ → ℕ → List ℕ → Type 0
IsMade x place register live = IsPart (outlines x.code) place register x.register live

-- code of a value; behind it these registers are live too
abbrev pub IsValue : Made → ℕ → ℕ → List ℕ → Type 0
IsValue x place register more = IsMade x place register (x.result ∷ more)

-- code of several values
abbrev pub AreValues : Listed → ℕ → ℕ → Type 0
AreValues l place register = IsPart (outlines l.code) place register l.register l.results

-- no thread's number is in the register, as far as the code defines it
abbrev pub IsNoNumber : List Instr → ℕ → ℕ → Type 0
IsNoNumber code place r = (k : ℕ) → Forks (outlines code) place k r → ⊥

-- code of a value, from every place, register and slot
abbrev pub IsGood : Code → Type 0
IsGood c = (place register slot : ℕ) → IsValue (c place register slot) place register []

abbrev pub AreGood : List Code → Type 0
AreGood [] = Unit {0}
AreGood (c ∷ cs) = IsGood c × AreGood cs

-- the register, behind the code, is made by conversions alone from what place k gives
abbrev pub EndsChain : List Instr → ℕ → ℕ → ℕ → Type 0
EndsChain code place r k = Chain (outlines code) place (end_of (outlines code) place) r k

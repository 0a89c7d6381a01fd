-- Code of a part of a function: whole lists of instructions, and how they stand one behind the other.
use Rattle.std.specs.Prelude.{ℕ, ◌+◌, if◌then◌else◌, List, [], ◌∷◌, ◌++◌, length}
use Rattle.c_types.specs.declared.ty.Ty.{Ty}
use Rattle.c_types.specs.Same.{same}
use Rattle.core_ir.specs.declared.instr.Instr.{Instr}
use Rattle.core_ir.specs.declared.instr.Instr.TheVariants.{Cast}

pub record Made : Type 0 where
  pub code : List Instr
  -- the register of its value; any where it has none
  pub result : ℕ
  -- the next register and the next slot behind it
  pub register : ℕ
  pub slot : ℕ

-- what is made from a place, a register and a slot on
abbrev pub Code : Type 0
Code = ℕ → ℕ → ℕ → Made

-- no instruction, and no value
abbrev pub nothing : Code
nothing place register slot = record { code = []; result = 0; register = register; slot = slot }

-- a value that a register has already
abbrev pub held : ℕ → Code
held r place register slot = record { code = []; result = r; register = register; slot = slot }

-- one instruction of the next register, which it defines
abbrev pub single : (ℕ → Instr) → Code
single i place register slot =
    record { code = i register ∷ []; result = register; register = register + 1; slot = slot }

-- code behind what was made from this place
abbrev pub behind : ℕ → Made → Code → Made
behind place x c = c (place + length x.code) x.register x.slot

-- the same, so many instructions further
abbrev pub beyond : ℕ → ℕ → Made → Code → Made
beyond n place x c = c (place + length x.code + n) x.register x.slot

-- ---- one instruction more

abbrev pub extended_made : (ℕ → ℕ → Instr) → Made → Made
extended_made i x = record {
  code = x.code ++ i x.register x.result ∷ [];
  result = x.register;
  register = x.register + 1;
  slot = x.slot;
}

-- code, and an instruction of the next register, which it defines, and of the value's; it gives the value
abbrev pub extended : (ℕ → ℕ → Instr) → Code → Code
extended i a place register slot = extended_made i (a place register slot)

abbrev pub followed_made : (ℕ → Instr) → Made → Made
followed_made i x =
    record { code = x.code ++ i x.result ∷ []; result = x.result; register = x.register; slot = x.slot }

-- code, and an instruction of the value's register that defines none; the value stays
abbrev pub followed : (ℕ → Instr) → Code → Code
followed i a place register slot = followed_made i (a place register slot)

abbrev pub combined_made : (ℕ → ℕ → ℕ → Instr) → Made → Made → Made
combined_made i x y = record {
  code = x.code ++ y.code ++ i y.register x.result y.result ∷ [];
  result = y.register;
  register = y.register + 1;
  slot = y.slot;
}

-- two codes in order, and an instruction of the next register, which it defines, and of both values
abbrev pub combined : (ℕ → ℕ → ℕ → Instr) → Code → Code → Code
combined i a b place register slot = let x = a place register slot in combined_made i x (behind place x b)

-- ---- conversions

-- `Cast` where the types aren't the same
abbrev pub converted : Ty → Ty → Code → Code
converted from to a = if same from to then a else extended (λ d x. Cast d x from to) a

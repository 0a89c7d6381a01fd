-- Code that stands behind the code of a value, which a register then has.
use Rattle.std.specs.Prelude.{◌≡◌, ℕ, ◌++◌}
use Rattle.elab_rows.specs.Made.{Made, Code, behind, held}

abbrev pub prefixed : Made → Made → Made
prefixed x y = record y { code = x.code ++ y.code }

-- the code of a value, and behind it what is made of the register that has it
abbrev pub over : Code → (Code → Code) → Code
over a f place register slot =
    let x = a place register slot in prefixed x (behind place x (f (held x.result)))

-- a row that begins with the code of its operand
abbrev pub BeginsWith : (Code → Code) → Type 0
BeginsWith f = (a : Code) (place register slot : ℕ) → f a place register slot ≡ over a f place register slot

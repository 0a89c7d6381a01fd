-- Values: numbers, pointers with the bounds and the id of their object, and functions.
use Rattle.std.specs.Prelude.{ℕ, ℤ, pos, ◌+◌, ◌%◌, ◌^◌, Bool, true, false, ◌&&◌, if◌then◌else◌, nat_eq, Option, Some, None}
use Rattle.meaning.specs.declared.value.Entry.{Entry}
use Rattle.meaning.specs.declared.value.Entry.TheVariants as entry
use Rattle.meaning.specs.declared.value.Value.{Value}
use Rattle.meaning.specs.declared.value.Value.TheVariants.{Bare, Based, Code}
use Rattle.machine.specs.declared.code.ScalarKind.{ScalarKind}
use Rattle.machine.specs.Numbers.{is_kept, low_word, truncated}

-- the number of function f as a word
abbrev pub code_number : ℕ → ℕ
code_number f = 67108864 + f

-- a value's number
abbrev pub number_of : Value → ℤ
number_of (Bare n) = n
number_of (Based value lower upper id) = pos value
number_of (Code f) = pos (code_number f)

-- the address that a value stands for
abbrev pub address_of : Value → ℕ
address_of v = low_word (number_of v)

-- what a value is in the safe store
abbrev pub entry_of : Value → Entry
entry_of (Bare n) = entry.Bare (low_word n)
entry_of (Based value lower upper id) = entry.Based value lower upper id
entry_of (Code f) = entry.Code f

abbrev pub value_of : Entry → Value
value_of (entry.Bare n) = Bare (pos n)
value_of (entry.Based value lower upper id) = Based value lower upper id
value_of (entry.Code f) = Code f

-- what a load gives: the null pointer where nothing was put
abbrev pub loaded_entry : Option Entry → Value
loaded_entry None = Bare (pos 0)
loaded_entry (Some e) = value_of e

-- ---- the five rules of values

-- the address of so many units, with their bounds where pointers to them keep these
abbrev pub object_address : ℕ → ℕ → ℕ → Bool → Value
object_address first units id true = Based first first (first + units) id
object_address first units id false = Bare (pos first)

-- a number so many units further, modulo 2^32
abbrev pub moved_number : ℤ → ℕ → ℕ
moved_number n k = (low_word n + k) % 2 ^ 32

-- a pointer so many units further: one with bounds keeps them, and a function is one only where it stays
abbrev pub moved_value : Value → ℕ → Value
moved_value (Bare n) k = Bare (pos (moved_number n k))
moved_value (Based value lower upper id) k = Based (moved_number (pos value) k) lower upper id
moved_value (Code f) k =
    if nat_eq (moved_number (pos (code_number f)) k) (code_number f) then Code f
    else Bare (pos (moved_number (pos (code_number f)) k))

-- a value that both kinds keep stays; each other conversion gives a number
abbrev pub cast_value : ScalarKind → ScalarKind → Value → Value
cast_value from to v = if is_kept from && is_kept to then v else Bare (truncated to (number_of v))

-- what a load of this kind gives of a value
abbrev pub loaded_value : ScalarKind → Value → Value
loaded_value k v = if is_kept k then v else Bare (truncated k (number_of v))

-- the function that a record names where this value is written to a safe place
abbrev pub told_function : Value → Option ℕ
told_function (Code f) = Some f
told_function _ = None

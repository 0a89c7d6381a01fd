-- Where the words of threads stand, and how many slots units take.
use Rattle.std.specs.Prelude.{ℕ, ◌+◌, ◌*◌, ◌/◌}

-- the words with which thread n starts: the function and the argument
abbrev pub start_address : ℕ → ℕ
start_address n = 64 + 2 * n

abbrev pub argument_address : ℕ → ℕ
argument_address n = 65 + 2 * n

-- where thread n stores 1 as it ends
abbrev pub done_address : ℕ → ℕ
done_address n = 96 + n

-- the slots of so many units
abbrev pub slots_for : ℕ → ℕ
slots_for units = (units + 63) / 64

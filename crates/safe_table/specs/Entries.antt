-- The entries that a store takes, and the two words of each.
use Rattle.std.specs.Prelude.{ℕ, ◌+◌, ◌*◌, ◌^◌, ◌<◌, ◌≤◌}
use Rattle.meaning.specs.declared.value.Entry.{Entry}
use Rattle.meaning.specs.declared.value.Entry.TheVariants.{Bare, Based, Code}
use Rattle.safe_table.specs.declared.history.StoreSize.{StoreSize}

-- a store of this size takes the entry
abbrev pub IsEntry : StoreSize → Entry → Type 0
IsEntry z (Bare v) = v < 2 ^ 32
IsEntry z (Code f) = f < 4096
IsEntry z (Based value lower upper id) =
    (value < 2 ^ 32) × (lower < 2 ^ 32) × (upper ≤ 64 * z.slots) × (2 ≤ id) × (id < z.slots)

-- its value and its id
abbrev pub low_word : Entry → ℕ
low_word (Bare v) = v * 2 ^ 32
low_word (Code f) = (67108864 + f) * 2 ^ 32 + 1
low_word (Based value lower upper id) = value * 2 ^ 32 + id

-- its bounds
abbrev pub high_word : Entry → ℕ
high_word (Bare v) = 2 ^ 32
high_word (Code f) = (67108864 + f) * 2 ^ 32 + (67108864 + f)
high_word (Based value lower upper id) = lower * 2 ^ 32 + upper

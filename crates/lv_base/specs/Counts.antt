-- Counts of faults and of bytes: each begins at 0, never falls, and stays at the greatest 64-bit number.
use Rattle.std.specs.Prelude.{◌≡◌, ℕ, ◌+◌, ◌-◌, ◌^◌, ◌<◌, ◌⊎◌, min, Result, MatchResult}

-- where a count stands still
abbrev pub greatest_count : ℕ
greatest_count = 2 ^ 64 - 1

-- n more, or as many as are left to where a count stands still
abbrev pub raised_by : ℕ → ℕ → ℕ
raised_by n count = count + min n (greatest_count - count)

-- one more
abbrev pub one_more : ℕ → ℕ
one_more count = raised_by 1 count

-- the count is greater than before, or stands at its type's end
abbrev pub Rose : ℕ → ℕ → Type 0
Rose before after = (before < after) ⊎ (after ≡ greatest_count)

-- a read of n bytes raises the count of bytes by n, and one that errs leaves it
abbrev pub CountsRead : {E : Type 0} → ℕ → ℕ → Result ℕ E → Type 0
CountsRead before after result = MatchResult result (λ n. after ≡ raised_by n before) (λ _. after ≡ before)

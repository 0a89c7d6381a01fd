-- What reading to the end and writing a whole piece do: to the bytes, where they are told, and to the count of bytes.
use Rattle.std.specs.Prelude.{◌≡◌, ℕ, ◌<◌, ◌≤◌, List, length, take, Option}
use Rattle.std.specs.Io.KnownBytes.{Appends, Consumes}
use Rattle.lv_base.specs.Counts.{raised_by}

-- these bytes were taken from the beginning of what was left, and each of them was counted
pub record Takes (bytes : List ℕ) (old new : Option (List ℕ)) (before after : ℕ) : Type 0 where
  pub taken : Consumes old new bytes
  pub counted : after ≡ raised_by (length bytes) before

-- at most limit bytes were taken
pub record TakesWithin (limit : ℕ) (old new : Option (List ℕ)) (before after : ℕ) : Type 0 where
  pub bytes : List ℕ
  pub few : length bytes ≤ limit
  pub takes : Takes bytes old new before after

-- more than limit bytes were taken
pub record TakesAbove (limit : ℕ) (old new : Option (List ℕ)) (before after : ℕ) : Type 0 where
  pub bytes : List ℕ
  pub many : limit < length bytes
  pub takes : Takes bytes old new before after

-- some prefix of the piece was appended
abbrev pub AppendsPrefix : Option (List ℕ) → Option (List ℕ) → List ℕ → Type 0
AppendsPrefix old new piece = (n : ℕ) × (n ≤ length piece) × Appends old new (take n piece)

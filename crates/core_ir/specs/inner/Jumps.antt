-- From where jumps lead to each place, and how far a register is kept, as tables by place.
use Rattle.std.specs.Prelude.{◌≡◌, ◌≢◌, ℕ, ◌+◌, ◌<◌, ◌≤◌, List, length, slice_index}
use Rattle.core_ir.specs.declared.jumps.Jumps.{Jumps}
use Rattle.core_ir.specs.Outline.{Outline}
use Rattle.core_ir.specs.Flow.{Jumps as Jump}

-- one number of a table is now v, and the others are as they were
pub record IsSet (old : List ℕ) (at v : ℕ) (new : List ℕ) : Type 0 where
  pub there : slice_index new at ≡ v
  pub elsewhere : (k : ℕ) → k ≢ at → slice_index new k ≡ slice_index old k

-- the least place from which a jump of the first so many instructions leads to each place, and a number that is no
-- place where none does
pub record AreLeast (code : List Outline) (upto : ℕ) (least : List ℕ) : Type 0 where
  pub below : (q l : ℕ) → Jump code 0 q l → q < upto → slice_index least l ≤ q
  pub from : (l : ℕ) → l < length code → slice_index least l < length code → Jump code 0 (slice_index least l) l

-- the greatest such place, and 0 where there is none
pub record AreGreatest (code : List Outline) (upto : ℕ) (greatest : List ℕ) : Type 0 where
  pub above : (q l : ℕ) → Jump code 0 q l → q < upto → q ≤ slice_index greatest l
  pub from : (l : ℕ) → l < length code → 0 < slice_index greatest l → Jump code 0 (slice_index greatest l) l

-- e is the last place up to which no jump from s or before leads behind s
pub record Reaches (least : List ℕ) (count s e : ℕ) : Type 0 where
  pub behind : s ≤ e
  pub within : e < count
  pub free : (l : ℕ) → s < l → l ≤ e → s < slice_index least l
  pub last : e + 1 < count → slice_index least (e + 1) ≤ s

-- b is the last place up to u to which a jump from u or behind leads, and 0 where there is none
pub record Begins (greatest : List ℕ) (u b : ℕ) : Type 0 where
  pub before : b ≤ u
  pub free : (l : ℕ) → b < l → l ≤ u → slice_index greatest l < u
  pub reached : 0 < b → u ≤ slice_index greatest b

-- the tables are those of this code
pub record AreOf (code : List Outline) (jumps : Jumps) : Type 0 where
  pub count : length code ≤ 65536
  pub least : AreLeast code (length code) jumps.least
  pub greatest : AreGreatest code (length code) jumps.greatest
  pub reach : (s : ℕ) → s < length code → Reaches jumps.least (length code) s (slice_index jumps.reach s)
  pub since : (u : ℕ) → u < length code → Begins jumps.greatest u (slice_index jumps.since u)

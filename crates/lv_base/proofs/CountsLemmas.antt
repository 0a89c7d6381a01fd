-- Counts that are raised several times.
use Rattle.std.proofs.Common.{◌≡◌, ℕ, ◌+◌, arith}
use Rattle.lv_base.specs.Counts.{raised_by}

-- raised twice is raised by the sum
pub raised_by-raised_by : (a n m : ℕ) → raised_by m (raised_by n a) ≡ raised_by (n + m) a
raised_by-raised_by a n m = omega arith

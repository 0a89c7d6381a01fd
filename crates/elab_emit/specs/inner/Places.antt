-- What the last instruction tells of whether a register has a place.
use Rattle.std.specs.Prelude.{ℕ, Bool, true, false, if◌then◌else◌}
use Rattle.core_ir.specs.Outline.{Outline}
use Rattle.core_ir.specs.declared.role.Role.{Role}
use Rattle.core_ir.specs.declared.role.Role.TheVariants as role
use Rattle.elab_rows.specs.Calls.{defines}
use Rattle.elab_emit.specs.declared.places.Seen.{Seen}
use Rattle.elab_emit.specs.declared.places.Seen.TheVariants as sight

-- of the register that it defines
abbrev pub seen_by : Role → Seen
seen_by (role.Load p) = sight.Known true
seen_by (role.Slot s) = sight.Known true
seen_by (role.Cast a) = sight.Before a
seen_by _ = sight.Known false

abbrev pub seen : Outline → ℕ → Seen
seen o r = if defines r o.defined then seen_by o.role else sight.Before r

-- what is known with what stands in front of it
abbrev pub known : Seen → (ℕ → Bool) → Bool
known (sight.Known b) before = b
known (sight.Before r) before = before r

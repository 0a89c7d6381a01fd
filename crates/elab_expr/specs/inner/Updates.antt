-- The old and the new value of what an operator changes.
use Rattle.std.specs.Prelude.{◌≡◌, ℕ, Result, Ok, Err}
use Rattle.elab_emit.specs.declared.emitter.Emitter.{Emitter}
use Rattle.elab_emit.specs.declared.emitter.Trouble.{Trouble}
use Rattle.elab_expr.specs.declared.assignments.Updated.{Updated}
use Rattle.elab_emit.specs.Emits.{Adds, Stops}
use Rattle.elab_rows.specs.Made.{Made}

-- the new value by its code, and the register of the old one
abbrev pub UpdateOutcome : Emitter → Made → ℕ → Result Updated Trouble → Emitter → Type 0
UpdateOutcome old m r (Ok v) new = Adds old m.code m.register m.slot new × (v.new ≡ m.result) × (v.old ≡ r)
UpdateOutcome old m r (Err e) new = Stops old m.code e

-- The result of a call, read from its slot.
use Rattle.std.specs.Prelude.{◌≡◌, ℕ, ◌+◌, [], ◌∷◌, Result, Ok, Err}
use Rattle.core_ir.specs.declared.instr.Instr.TheVariants.{GetLocal}
use Rattle.elab_emit.specs.Emits.{Adds, Stops}
use Rattle.elab_emit.specs.declared.emitter.Emitter.{Emitter}
use Rattle.elab_emit.specs.declared.emitter.Trouble.{Trouble}

abbrev pub ResultOutcome : Emitter → Result ℕ Trouble → Emitter → Type 0
ResultOutcome old (Ok r) new =
    Adds old (GetLocal old.register old.slot ∷ []) (old.register + 1) (old.slot + 1) new × (r ≡ old.register)
ResultOutcome old (Err e) new = Stops old (GetLocal old.register old.slot ∷ []) e

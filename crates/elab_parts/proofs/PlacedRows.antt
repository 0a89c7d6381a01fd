-- A callee whose register has a place, and one that is kept, by what is looked at of the code.
use Rattle.std.proofs.Common.{◌≡◌, ◌∙◌, ℕ, true, false, List, length, drop, ap, sym, Result, Ok}
use Rattle.core_ir.specs.declared.instr.Instr.{Instr}
use Rattle.elab_rows.specs.Calls.{has_place, kept, placed}
use Rattle.elab_emit.specs.Emits.{Outcome, code_of}
use Rattle.elab_rows.specs.Made.{Made, held}
use Rattle.elab_emit.specs.declared.emitter.Emitter.{Emitter}
use Rattle.elab_emit.specs.declared.emitter.Trouble.{Trouble}
use Rattle.elab_parts.proofs.CallRows.{kept_row, placed_row}

module _ (x : Made) (old mid : Emitter) (c from : ℕ) (rest : List Instr) (begins : from ≡ length old.code) (is : rest ≡ drop from mid.code) where
  seen_as : (b : _) → has_place rest c ≡ b → has_place (drop (length old.code) mid.code) c ≡ b
  seen_as b h = ap (λ l. has_place l c) (sym (is ∙ ap (λ n. drop n mid.code) begins)) ∙ h

  pub placed_at : Outcome old x (Ok c) mid → has_place rest c ≡ true → Outcome old (placed x) (Ok c) mid
  placed_at h seen = placed_row x old mid c h (seen_as true seen)

  pub kept_at : (new : Emitter) (r : Result ℕ Trouble) → Outcome old x (Ok c) mid → has_place rest c ≡ false
      → Outcome mid (kept (code_of mid (held c))) r new → Outcome old (placed x) r new
  kept_at new r h seen k = kept_row x old mid new c r h (seen_as false seen) k

-- What holds of a source's program holds of what is answered.
use Rattle.std.proofs.Common.{◌≡◌, ◌∙◌, IfOk, None, Ok, Err, Result, ap, subst, sym}
use Rattle.c_typed.specs.declared.unit.Typed.{Typed}
use Rattle.core_ir.specs.declared.program.Program.{Program}
use Rattle.core_ir.specs.Typed.{IsTypedCode}
use Rattle.core_ir.specs.Valid.{IsValid}
use Rattle.elab_pieces.specs.Limits.{first_limit}
use Rattle.elab_pieces.specs.Program.{program_of}
use Rattle.elab.specs.declared.error.ElabRefusal.{ElabRefusal}

pub answers_valid : (t : Typed) (r : Result Program ElabRefusal) → IfOk r (λ p. p ≡ program_of t) → IfOk r (λ p. first_limit p ≡ None)
    → (first_limit (program_of t) ≡ None → IsValid (program_of t))
    → IfOk r IsValid
answers_valid t (Ok p) is within valid = subst IsValid (sym is) (valid (sym (ap first_limit is) ∙ within))
answers_valid t (Err e) is within valid = tt

pub answers_typed : (t : Typed) (r : Result Program ElabRefusal) → IfOk r (λ p. p ≡ program_of t) → IsTypedCode (program_of t) → IfOk r IsTypedCode
answers_typed t (Ok p) is typed = subst IsTypedCode (sym is) typed
answers_typed t (Err e) is typed = tt

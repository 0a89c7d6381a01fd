-- What is refused, and what becomes of trouble.
use Rattle.std.specs.Prelude.{◌≡◌, Option, Some, Result, Ok, Err}
use Rattle.elab_emit.specs.declared.emitter.Trouble.{Trouble}
use Rattle.elab_emit.specs.declared.emitter.Trouble.TheVariants as trouble
use Rattle.elab_pieces.specs.declared.limit.LimitName.{LimitName}
use Rattle.elab_pieces.specs.declared.limit.LimitName.TheVariants as limit
use Rattle.elab.specs.declared.error.ElabRefusal.{ElabRefusal}
use Rattle.elab.specs.declared.error.ElabRefusal.TheVariants as refusal

-- a limit is the first that is passed; of memory nothing is said
abbrev pub RefusesOnly : {A : Type 0} → Option LimitName → Result A ElabRefusal → Type 0
RefusesOnly first (Ok a) = Unit {0}
RefusesOnly first (Err refusal.Memory) = Unit {0}
RefusesOnly first (Err (refusal.Limit which)) = first ≡ Some which

abbrev pub refusal_of : Trouble → ElabRefusal
refusal_of trouble.TooLong = refusal.Limit limit.Code
refusal_of trouble.Memory = refusal.Memory

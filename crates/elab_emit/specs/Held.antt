-- What registers have already: the address of an lvalue, and several values.
use Rattle.std.specs.Prelude.{ℕ, false, List, []}
use Rattle.c_types.specs.declared.ty.Ty.{Ty}
use Rattle.elab_emit.specs.declared.emitter.Emitter.{Emitter}
use Rattle.elab_rows.specs.Addresses.{Lvalue}
use Rattle.elab_rows.specs.Calls.{Listed}
use Rattle.elab_rows.specs.Made.{Code}

-- an lvalue of this type and root, at an address
abbrev pub from_root : Ty → Ty → Code → Lvalue
from_root t root a = record { ty = t; root = root; address = a; is_member = false }

-- several values
abbrev pub listed : Emitter → List ℕ → Listed
listed e registers = record { code = []; results = registers; register = e.register; slot = e.slot }

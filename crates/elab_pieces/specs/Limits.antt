-- The first limit that a program passes, in the order in which limits are named.
use Rattle.std.specs.Prelude.{ℕ, Bool, true, ◌&&◌, if◌then◌else◌, nat_le, List, [], ◌∷◌, length, Option, Some, None}
use Rattle.core_ir.specs.declared.program.Function.{Function}
use Rattle.core_ir.specs.declared.program.Program.{Program}
use Rattle.core_ir.specs.Layout.{global_units}
use Rattle.core_ir.specs.Valid.{most_frame_units, most_functions, most_global_units, most_instructions, most_registers, most_slots}
use Rattle.elab_pieces.specs.declared.limit.LimitName.{LimitName}
use Rattle.elab_pieces.specs.declared.limit.LimitName.TheVariants as limit

-- the number of each function, as this counts it, is within the limit
abbrev pub all_within : ℕ → (Function → ℕ) → List Function → Bool
all_within most count [] = true
all_within most count (f ∷ fs) = nat_le (count f) most && all_within most count fs

-- the limit is passed, unless this holds; then the next one decides
abbrev pub unless : Bool → LimitName → Option LimitName → Option LimitName
unless holds name next = if holds then next else Some name

-- the entry function is one of the functions
unfoldable pub first_limit : Program → Option LimitName
first_limit p =
    unless (nat_le (length p.functions) most_functions) limit.Functions
    (unless (all_within most_instructions (λ f. length f.body) p.functions) limit.Code
    (unless (all_within most_registers (λ f. f.registers) p.functions) limit.Registers
    (unless (all_within most_slots (λ f. f.slots) p.functions) limit.Slots
    (unless (all_within most_frame_units (λ f. f.frame_units) p.functions) limit.Frame
    (unless (nat_le (global_units p.globals) most_global_units) limit.Globals None)))))

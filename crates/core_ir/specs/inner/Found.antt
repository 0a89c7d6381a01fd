-- What stands at a place of a body, as the code asks for it.
use Rattle.std.specs.Prelude.{◌≡◌, ◌<◌, ℕ, IfSome, List, Option, Some, slice_get}
use Rattle.std.specs.Option.{option_and_then, option_map}
use Rattle.core_ir.specs.declared.role.Role.{Role}
use Rattle.core_ir.specs.declared.role.Role.TheVariants as role
use Rattle.core_ir.specs.Outline.{Outline}
use Rattle.core_ir.specs.Flow.{Stands}

-- the role of the instruction there
abbrev pub role_in : List Outline → ℕ → Option Role
role_in code k = option_map (λ i. i.role) (slice_get code k)

-- the register that it defines
abbrev pub defined_in : List Outline → ℕ → Option ℕ
defined_in code k = option_and_then (λ i. i.defined) (slice_get code k)

-- three roles, of which the first defines a register, start a thread with that number
abbrev pub AreStarting : Role → Role → Role → Option ℕ → Type 0
AreStarting role.Fork (role.StartArg t) (role.StartFn u f) (Some n) = (t ≡ n) × (u ≡ n)
AreStarting _ _ _ _ = ⊥

-- each instruction defines a register of the first so many, if any
abbrev pub DefinesBelow : ℕ → List Outline → Type 0
DefinesBelow registers code = (u : ℕ) (i : Outline) → Stands code 0 u i → IfSome i.defined (λ d. d < registers)

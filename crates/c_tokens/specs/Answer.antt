-- What a call answers that can lack memory.
use Rattle.std.specs.Prelude.{◌≡◌, ◌⊎◌, Result, Err}

-- the result is this answer, or the error that no memory is left
abbrev pub IsAnswer : {X E : Type 0} → E → Result X E → Result X E → Type 0
IsAnswer memory result answer = (result ≡ answer) ⊎ (result ≡ Err memory)

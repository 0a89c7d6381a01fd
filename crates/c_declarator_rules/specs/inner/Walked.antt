-- What walks of parts give.
use Rattle.std.specs.Prelude.{Result, Ok, Err}
use Rattle.c_scope.specs.declared.failure.Failure.{Failure}
use Rattle.c_scope.specs.Walk.{Walk, ◌>>=◌, pure}

-- what is found, two times
abbrev pub twice : {A : Type 0} → Walk A → Walk (A × A)
twice p = p >>= (λ x. pure (x, x))

-- what is found, with the list that was filled on the way
abbrev pub with_list : {A B : Type 0} → Result A Failure → B → Result (A × B) Failure
with_list (Ok a) bs = Ok (a, bs)
with_list (Err e) bs = Err e

-- What a function that walks ensures: what the walk finds, unless no memory is left.
use Rattle.std.specs.Prelude.{◌≡◌, Result, Ok, Err}
use Rattle.c_scope.specs.declared.failure.Failure.{Failure}
use Rattle.c_scope.specs.declared.failure.Failure.TheVariants.{Broken, Memory}
use Rattle.c_scope.specs.declared.world.World.{World}
use Rattle.c_scope.specs.Walk.{Outcome}

abbrev pub Walks : {A : Type 0} → Outcome (A × World) → Result A Failure → World → Type 0
Walks outcome (Ok a) new = outcome ≡ Ok (a, new)
Walks outcome (Err (Broken r)) new = outcome ≡ Err r
Walks outcome (Err Memory) new = Unit {0}

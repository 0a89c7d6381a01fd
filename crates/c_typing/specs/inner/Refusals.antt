-- What is answered where the walk of an item ends.
use Rattle.std.specs.Prelude.{ℕ}
use Rattle.c_scope.specs.declared.failure.Failure.{Failure}
use Rattle.c_scope.specs.declared.failure.Failure.TheVariants as failed
use Rattle.c_scope.specs.Numbers.{number_of}
use Rattle.c_typing.specs.declared.error.CheckRefusal.{CheckRefusal}
use Rattle.c_typing.specs.declared.error.CheckRefusal.TheVariants.{Memory, Rule}

abbrev pub refused : ℕ → Failure → CheckRefusal
refused item (failed.Broken r) = Rule item (number_of r)
refused item failed.Memory = Memory

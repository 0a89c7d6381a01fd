-- What a function that reads tokens ensures: the outcome of a reader, unless no memory is left.
use Rattle.std.specs.Prelude.{◌≡◌, Some, None, Result, Ok, Err}
use Rattle.c_readers.specs.declared.error.Failure.{Failure}
use Rattle.c_readers.specs.declared.error.Failure.TheVariants.{Mismatch, Memory}
use Rattle.c_tree.specs.Marks.{Kinds}
use Rattle.c_readers.specs.inner.Parser.{Outcome}

abbrev pub Reads : {A : Type 0} → Outcome A → Result A Failure → Kinds → Type 0
Reads outcome (Ok a) new = outcome ≡ Some (a, new)
Reads outcome (Err Mismatch) new = outcome ≡ None
Reads outcome (Err Memory) new = Unit {0}

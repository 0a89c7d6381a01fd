-- What contracts see of a thread: its number, and where it stands in the machine.
use Rattle.std.specs.Prelude.{ℕ}
use Rattle.meaning.specs.declared.value.Value.{Value}
use Rattle.machine.specs.Frames.{Thread}

pub record ThreadState : Type 0 where
  pub number : ℕ
  pub thread : Thread Value

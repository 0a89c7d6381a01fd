-- Quiet turns, as callers see them.
use Rattle.std.specs.Prelude.{◌≡◌, ℕ, Bool, true, false, []}
use Rattle.meaning.specs.declared.action.Action.TheVariants as act
use Rattle.meaning.specs.declared.action.Reply.TheVariants as reply
use Rattle.meaning.specs.declared.value.Value.{Value}
use Rattle.machine.specs.declared.code.Code.{Code}
use Rattle.machine.specs.Frames.{Thread}
use Rattle.machine.specs.Protected.{next, resume}

-- a turn of thread t that asks for nothing and tells nothing
pub record IsQuietTurn (code : Code) (t : ℕ) (old new : Thread Value) : Type 0 where
  pub asks : next code t old ≡ act.Own
  pub goes : resume code t old act.Own reply.Nothing ≡ record { thread = new; notes = [] }

-- whether it was taken
abbrev pub TakesQuietTurn : Bool → Code → ℕ → Thread Value → Thread Value → Type 0
TakesQuietTurn true code t old new = IsQuietTurn code t old new
TakesQuietTurn false code t old new = new ≡ old

-- Turns of a thread that ask for nothing and tell nothing, one after another.
use Rattle.std.specs.Prelude.{◌≡◌, ℕ, zero, suc, true}
use Rattle.meaning.specs.declared.value.Value.{Value}
use Rattle.machine.specs.declared.code.Code.{Code}
use Rattle.machine.specs.Frames.{Thread, is_live}
use Rattle.thread_engine.specs.Quiet.{IsQuietTurn}

-- so many quiet turns of thread t lead from the first state to the second
abbrev pub AreQuietTurns : Code → ℕ → ℕ → Thread Value → Thread Value → Type 0
AreQuietTurns code t zero old new = new ≡ old
AreQuietTurns code t (suc n) old new =
    (between : Thread Value) × (AreQuietTurns code t n old between × ((is_live between ≡ true) × IsQuietTurn code t between new))

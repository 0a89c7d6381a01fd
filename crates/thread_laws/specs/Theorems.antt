-- The laws of threads that run alone.
use Rattle.std.specs.Prelude.{ℕ, ℤ, ◌≤◌, List}
use Rattle.machine.specs.declared.code.Code.{Code}
use Rattle.machine.specs.Lanes.{AsksWhatFits}
use Rattle.machine.specs.ValidCode.{ValidCode}

-- A thread of valid code, whatever the inputs, that is answered by a store with so many slots, asks what fits the store, and
-- no more puts than half of its counted turns.
abbrev pub ThreadsAskWhatFits : Type 0
ThreadsAskWhatFits =
    (code : Code) (inputs : List ℤ) (slots m : ℕ)
    → ValidCode code
    → 1026 ≤ slots
    → slots ≤ 1048576
    → m ≤ 15
    → AsksWhatFits code inputs slots m

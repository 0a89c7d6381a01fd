-- The laws of transfers: of valid code, whatever the inputs, the turns, the corruptions and the cuts.
use Rattle.std.specs.Prelude.{ℕ, ◌≤◌, List}
use Rattle.meaning.specs.declared.event.Event.{Event}
use Rattle.machine.specs.Run.{Setting, run}
use Rattle.machine.specs.Transfers.{GoodTransfers}
use Rattle.machine.specs.ValidCode.{ValidCode}

-- Each call through a pointer goes to the function that was last stored where its pointer was read, each
-- start to the one that was found, and each return goes behind its call.
abbrev pub TransfersAreGood : Type 0
TransfersAreGood =
    (setting : Setting) (threads : ℕ) (events : List Event)
    → ValidCode setting.code
    → setting.slots ≤ 1048576
    → GoodTransfers setting.code (run setting threads events)

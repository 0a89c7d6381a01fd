-- The laws of frame objects: of valid code, whatever the inputs, the turns, the corruptions and the cuts.
use Rattle.std.specs.Prelude.{ℕ, ◌≤◌, List}
use Rattle.meaning.specs.declared.event.Event.{Event}
use Rattle.machine.specs.Run.{Setting, opening, state_after}
use Rattle.machine.specs.ValidCode.{ValidCode}
use Rattle.unit_laws.specs.Objects.{ObjectsLieApart}

-- In every state that a run reaches the objects of frames lie apart.
abbrev pub ObjectsAreApart : Type 0
ObjectsAreApart =
    (setting : Setting) (threads : ℕ) (events : List Event)
    → ValidCode setting.code
    → setting.slots ≤ 1048576
    → ObjectsLieApart setting.code (state_after setting (opening setting threads) events)

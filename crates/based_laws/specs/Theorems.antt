-- The laws of values and accesses: of valid code that stands for a program, whatever the inputs, the turns, the
-- corruptions and the cuts.
use Rattle.std.specs.Prelude.{ℕ, ◌≤◌, List}
use Rattle.core_ir.specs.declared.program.Program.{Program}
use Rattle.meaning.specs.declared.event.Event.{Event}
use Rattle.machine.specs.Based.{BasedOn, ValuesAreKept}
use Rattle.machine.specs.Run.{Setting}
use Rattle.machine.specs.Stands.{Stands}
use Rattle.machine.specs.ValidCode.{ValidCode}

-- Each event keeps that every value is known, with the objects that it made, of any state of which this holds.
abbrev pub ValuesStayKnown : Type 0
ValuesStayKnown =
    (program : Program) (setting : Setting)
    → ValidCode setting.code
    → Stands setting.code program
    → ValuesAreKept program setting

-- Behind each event of a run every value is known, and each get and put is where it may be.
abbrev pub RunsAreBased : Type 0
RunsAreBased =
    (program : Program) (setting : Setting) (threads : ℕ) (events : List Event)
    → ValidCode setting.code
    → Stands setting.code program
    → setting.slots ≤ 1048576
    → 1 ≤ threads
    → threads ≤ 16
    → BasedOn program setting threads events

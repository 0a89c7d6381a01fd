-- Quiet turns: those that ask for nothing and tell nothing.
use Rattle.std.specs.Prelude.{◌≡◌, ℕ, Bool, true, false, List, []}
use Rattle.meaning.specs.declared.action.Action.TheVariants as act
use Rattle.meaning.specs.declared.action.Reply.TheVariants as reply
use Rattle.meaning.specs.declared.value.Value.{Value}
use Rattle.machine.specs.declared.code.Code.{Code}
use Rattle.machine.specs.Frames.{Frame, Running}
use Rattle.machine.specs.Protected.{action_of, effect_of, protected}
use Rattle.machine.specs.Shapes.{Shape}
use Rattle.machine.specs.Threads.{applied}

-- whether an instruction of this shape was performed quietly in the top frame, over these
abbrev pub IsQuiet : Bool → Code → ℕ → Frame Value → Frame Value → List (Frame Value) → Shape Value → Type 0
IsQuiet false code t old new below s = new ≡ old
IsQuiet true code t old new below s =
    (action_of code t old below s ≡ act.Own)
    × (applied protected code old below (effect_of code old reply.Nothing s)
    ≡ record { thread = Running new below; notes = [] })

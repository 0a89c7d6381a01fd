-- Accesses by the shape of the instruction at which the top frame stands.
use Rattle.std.specs.Prelude.{◌≡◌, ℕ, ℤ, true, List, [], Option, Some, None}
use Rattle.meaning.specs.declared.action.Action.TheVariants as act
use Rattle.meaning.specs.declared.action.Reply.{Reply}
use Rattle.meaning.specs.declared.action.Reply.TheVariants as reply
use Rattle.meaning.specs.declared.value.Entry.{Entry}
use Rattle.meaning.specs.declared.value.Value.{Value}
use Rattle.meaning.specs.declared.value.Value.TheVariants.{Bare}
use Rattle.sensitivity.specs.declared.class.Class.TheVariants as class
use Rattle.machine.specs.declared.code.Code.{Code}
use Rattle.machine.specs.Frames.{Frame, Running}
use Rattle.machine.specs.Numbers.{truncated}
use Rattle.machine.specs.Protected.{action_of, effect_of, protected, touch_action}
use Rattle.machine.specs.Shapes.{Shape}
use Rattle.machine.specs.Threads.{applied}
use Rattle.machine.specs.Values.{loaded_entry}
use Rattle.thread_engine.specs.Accesses.{asked, moved_on}
use Rattle.thread_engine.specs.declared.access.Access.{Access}
use Rattle.thread_engine.specs.declared.access.Access.TheVariants as access

-- this answer leads the top frame to its next place, with this written, and nothing is told
abbrev pub MovesBy : Code → Frame Value → List (Frame Value) → Shape Value → Reply → Option (ℕ × Value) → Type 0
MovesBy code top below s answer defined =
    applied protected code top below (effect_of code top answer s)
    ≡ record { thread = Running (moved_on defined top) below; notes = [] }

abbrev pub MovesOn : Code → Frame Value → List (Frame Value) → Shape Value → Access → Type 0
MovesOn code top below s (access.Load a kind d) =
    (w : ℤ) → MovesBy code top below s (reply.Word w) (Some (d, Bare (truncated kind w)))
MovesOn code top below s (access.Store a v) = MovesBy code top below s reply.Nothing None
MovesOn code top below s (access.Get a d) =
    (e : Option Entry) → MovesBy code top below s (reply.Found e) (Some (d, loaded_entry e))
MovesOn code top below s (access.Put a e) = MovesBy code top below s reply.Nothing None
MovesOn code top below s (access.Look id) = MovesBy code top below s (reply.Flag true) None

-- an instruction of this shape is this access, if it is said to be one
abbrev pub AccessesBy : Option Access → Code → ℕ → Frame Value → List (Frame Value) → Shape Value → Type 0
AccessesBy None code t top below s = Unit {0}
AccessesBy (Some one) code t top below s = (action_of code t top below s ≡ asked one) × MovesOn code top below s one

-- a touch of either class that is tested asks for the object of this id
abbrev pub IsInsideBy : Option ℕ → Value → Type 0
IsInsideBy None p = Unit {0}
IsInsideBy (Some id) p = (touch_action class.Sensitive p ≡ act.Look id) × (touch_action class.Universal p ≡ act.Look id)

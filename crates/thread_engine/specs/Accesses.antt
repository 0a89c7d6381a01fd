-- Turns that are one access, as callers see them: what the thread asks for, and where an answer leads it.
use Rattle.std.specs.Prelude.{◌≡◌, ℕ, ℤ, ◌+◌, ◌<◌, true, [], Option, Some, None}
use Rattle.meaning.specs.declared.action.Action.{Action}
use Rattle.meaning.specs.declared.action.Action.TheVariants as act
use Rattle.meaning.specs.declared.action.Reply.{Reply}
use Rattle.meaning.specs.declared.action.Reply.TheVariants as reply
use Rattle.meaning.specs.declared.value.Entry.{Entry}
use Rattle.meaning.specs.declared.value.Value.{Value}
use Rattle.meaning.specs.declared.value.Value.TheVariants.{Bare}
use Rattle.machine.specs.declared.code.Code.{Code}
use Rattle.machine.specs.Frames.{Frame, Thread, Running, Write, Nothing, ToRegister}
use Rattle.machine.specs.Numbers.{truncated}
use Rattle.machine.specs.Protected.{next, protected, resume}
use Rattle.machine.specs.Threads.{written}
use Rattle.machine.specs.Values.{loaded_entry}
use Rattle.thread_engine.specs.declared.access.Access.{Access}
use Rattle.thread_engine.specs.declared.access.Access.TheVariants as access

-- a register with its value, if there is one
abbrev pub write_by : Option (ℕ × Value) → Write Value
write_by None = Nothing
write_by (Some defined) = ToRegister defined.0 defined.1

-- at its next place, with this written
abbrev pub moved_on : Option (ℕ × Value) → Frame Value → Frame Value
moved_on defined f = written protected (write_by defined) (record f { place = f.place + 1 })

abbrev pub gone_on : Option (ℕ × Value) → Thread Value → Thread Value
gone_on defined (Running top below) = Running (moved_on defined top) below
gone_on defined thread = thread

-- a thread whose top frame, if it has one, stands where code can have a place
abbrev pub StandsLow : Thread Value → Type 0
StandsLow (Running top below) = top.place < 65536
StandsLow _ = Unit {0}

-- what is asked for
abbrev pub asked : Access → Action
asked (access.Load a kind d) = act.Load a
asked (access.Store a v) = act.Store a v
asked (access.Get a d) = act.Get a
asked (access.Put a e) = act.Put a e
asked (access.Look id) = act.Look id

-- this answer leads thread t to its next place, with this written, and the turn tells nothing
abbrev pub LeadsOn : Code → ℕ → Thread Value → Action → Reply → Option (ℕ × Value) → Type 0
LeadsOn code t thread action answer defined =
    resume code t thread action answer ≡ record { thread = gone_on defined thread; notes = [] }

-- so does every answer, but that the object is ended
abbrev pub GoesOn : Code → ℕ → Thread Value → Access → Type 0
GoesOn code t thread (access.Load a kind d) =
    (w : ℤ) → LeadsOn code t thread (act.Load a) (reply.Word w) (Some (d, Bare (truncated kind w)))
GoesOn code t thread (access.Store a v) = LeadsOn code t thread (act.Store a v) reply.Nothing None
GoesOn code t thread (access.Get a d) =
    (e : Option Entry) → LeadsOn code t thread (act.Get a) (reply.Found e) (Some (d, loaded_entry e))
GoesOn code t thread (access.Put a e) = LeadsOn code t thread (act.Put a e) reply.Nothing None
GoesOn code t thread (access.Look id) = LeadsOn code t thread (act.Look id) (reply.Flag true) None

-- the next turn of thread t is this access
pub record IsAccess (code : Code) (t : ℕ) (thread : Thread Value) (one : Access) : Type 0 where
  pub asks : next code t thread ≡ asked one
  pub low : StandsLow thread
  pub goes : GoesOn code t thread one

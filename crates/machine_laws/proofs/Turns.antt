-- A turn of a thread, by what it stands at.
use Rattle.std.proofs.Common.{◌≡◌, ℕ, false, List, [], length, Option, Some, None, refl}
use Rattle.meaning.specs.declared.action.Action.{Action}
use Rattle.meaning.specs.declared.action.Action.TheVariants as act
use Rattle.meaning.specs.declared.action.Reply.{Reply}
use Rattle.meaning.specs.declared.value.Stop.{Stop}
use Rattle.meaning.specs.declared.value.Value.{Value}
use Rattle.machine.specs.declared.code.Code.{Code}
use Rattle.machine.specs.declared.code.CodePlace.{CodePlace}
use Rattle.machine.specs.Frames.{Frame, Thread, Running}
use Rattle.machine.specs.Protected.{action_by, action_of, answered, effect_of, next, protected, resume, resumed_by, shape_at}
use Rattle.machine.specs.Shapes.{shape_of}
use Rattle.machine.specs.Threads.{Told, applied, place_at, stops}
use Rattle.thread_laws.proofs.Readiness.{halts}

-- what a thread's action is, and where its answer leads
module _ (Q : Action → Told Value → Type 0) (code : Code) (t : ℕ) (thread : Thread Value) (answer : Reply)
    (stopped : (why : Stop) → Q (act.Halt why) (stops why)) where
  -- a halt stops, and each other action's answer is taken
  pub taken : (action : Action) → (halts action ≡ false → Q action (answered code t thread answer)) → Q action (resume code t thread action answer)
  taken (act.Halt why) goes = stopped why
  taken act.Own goes = goes refl
  taken (act.Load a) goes = goes refl
  taken (act.Store a w) goes = goes refl
  taken (act.TryLock a) goes = goes refl
  taken (act.Get a) goes = goes refl
  taken (act.Put a e) goes = goes refl
  taken (act.Alloc k) goes = goes refl
  taken (act.Free id) goes = goes refl
  taken (act.Look id) goes = goes refl
  taken act.Fork goes = goes refl
  taken (act.Print n) goes = goes refl
  taken (act.Input n) goes = goes refl

-- a thread that runs, and whose action is answered so
module _ (code : Code) (t : ℕ) (top : Frame Value) (below : List (Frame Value)) (reply_to : Action → Reply) (Q : Action → Told Value → Type 0)
    (stopped : (why : Stop) → Q (act.Halt why) (stops why))
    (stuck : place_at code top.function top.place ≡ None → Q act.Own (record { thread = Running top below; notes = [] })) where
  abbrev pub action_at : CodePlace → Action
  action_at i = action_of code t top below (shape_of protected (length below) top i)

  abbrev pub told_at : CodePlace → Told Value
  told_at i = applied protected code top below (effect_of code top (reply_to (action_at i)) (shape_of protected (length below) top i))

  running_by :
      (at : Option CodePlace)
      → place_at code top.function top.place ≡ at
      → ((i : CodePlace) → at ≡ Some i → halts (action_at i) ≡ false → Q (action_at i) (told_at i))
      → halts (action_by code t top below (shape_at top below at)) ≡ false
      → Q (action_by code t top below (shape_at top below at))
      (resumed_by code top below (reply_to (action_by code t top below (shape_at top below at))) (shape_at top below at))
  running_by None none going goes = stuck none
  running_by (Some i) there going goes = going i refl goes

  pub running :
      ((i : CodePlace) → place_at code top.function top.place ≡ Some i → halts (action_at i) ≡ false → Q (action_at i) (told_at i))
      → Q (next code t (Running top below)) (resume code t (Running top below) (next code t (Running top below)) (reply_to (next code t (Running top below))))
  running going =
      taken Q code t (Running top below) (reply_to (next code t (Running top below))) stopped (next code t (Running top below))
      (running_by (place_at code top.function top.place) refl going)

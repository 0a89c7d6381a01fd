-- What is an access by its instruction is one by its thread, and going on leaves a sound thread sound.
use Rattle.std.proofs.Common.{◌≡◌, ℕ, ◌+◌, true, List, length, Option, Some, None, IfSome, ap, ◌∙◌}
use Rattle.meaning.specs.declared.action.Reply.TheVariants as reply
use Rattle.meaning.specs.declared.value.Value.{Value}
use Rattle.machine.specs.declared.code.Code.{Code}
use Rattle.machine.specs.declared.code.CodePlace.{CodePlace}
use Rattle.machine.specs.Frames.{Frame, Thread, Waiting, Starting, Running, Ended, Stopped}
use Rattle.machine.specs.Protected.{action_by, protected, resumed_by, shape_at}
use Rattle.machine.specs.Shapes.{shape_of}
use Rattle.machine.specs.Threads.{place_at}
use Rattle.machine.specs.ValidCode.{ValidCode}
use Rattle.thread_engine.specs.Accesses.{GoesOn, IsAccess, gone_on, write_by}
use Rattle.thread_engine.specs.Sound.{IsSound}
use Rattle.thread_engine.specs.declared.access.Access.{Access}
use Rattle.thread_engine.specs.declared.access.Access.TheVariants as access
use Rattle.thread_engine.specs.inner.Accesses.{AccessesBy, MovesOn}
use Rattle.thread_engine.proofs.Preserved.{WriteFits, top_is_sound}
use Rattle.thread_engine.proofs.Valid.{places_are_low}

goes_by :
    (one : Access) (code : Code) (t : ℕ) (top : Frame Value) (below : List (Frame Value)) (i : CodePlace)
    → place_at code top.function top.place ≡ Some i
    → MovesOn code top below (shape_of protected (length below) top i) one
    → GoesOn code t (Running top below) one
goes_by (access.Load a kind d) code t top below i at moves =
    λ w. ap (λ (o : Option CodePlace). resumed_by code top below (reply.Word w) (shape_at top below o)) at ∙ moves w
goes_by (access.Store a v) code t top below i at moves =
    ap (λ (o : Option CodePlace). resumed_by code top below reply.Nothing (shape_at top below o)) at ∙ moves
goes_by (access.Get a d) code t top below i at moves =
    λ e. ap (λ (o : Option CodePlace). resumed_by code top below (reply.Found e) (shape_at top below o)) at ∙ moves e
goes_by (access.Put a e) code t top below i at moves =
    ap (λ (o : Option CodePlace). resumed_by code top below reply.Nothing (shape_at top below o)) at ∙ moves
goes_by (access.Look id) code t top below i at moves =
    ap (λ (o : Option CodePlace). resumed_by code top below (reply.Flag true) (shape_at top below o)) at ∙ moves

pub is_access :
    (one : Option Access) (code : Code) (t : ℕ) (top : Frame Value) (below : List (Frame Value)) (i : CodePlace)
    → ValidCode code
    → place_at code top.function top.place ≡ Some i
    → AccessesBy one code t top below (shape_of protected (length below) top i)
    → IfSome one (IsAccess code t (Running top below))
is_access None code t top below i valid at is = tt
is_access (Some one) code t top below i valid at is = record {
  asks = ap (λ (o : Option CodePlace). action_by code t top below (shape_at top below o)) at ∙ is.0;
  low = places_are_low code top.function top.place i valid at;
  goes = goes_by one code t top below i at is.1;
}

write_fits : (defined : Option (ℕ × Value)) → WriteFits (write_by defined)
write_fits None = tt
write_fits (Some defined) = tt

pub going_on_keeps_sound :
    (defined : Option (ℕ × Value)) (code : Code) (thread : Thread Value)
    → IsSound code thread
    → IsSound code (gone_on defined thread)
going_on_keeps_sound defined code Waiting sound = tt
going_on_keeps_sound defined code (Starting f) sound = tt
going_on_keeps_sound defined code (Running top below) sound =
    top_is_sound code (write_by defined) top below (top.place + 1) (write_fits defined) sound
going_on_keeps_sound defined code Ended sound = tt
going_on_keeps_sound defined code (Stopped why) sound = tt

-- Quiet turns are turns, and leave a sound thread sound.
use Rattle.std.proofs.Common.{◌≡◌, ℕ, ◌<◌, ◌≤◌, Bool, true, false, List, [], ◌∷◌, length, Option, Some, IfSome, sym, subst, ap, ◌∙◌}
use Rattle.meaning.specs.Action.{Fits}
use Rattle.meaning.specs.declared.action.Action.{Action}
use Rattle.meaning.specs.declared.action.Reply.TheVariants as reply
use Rattle.meaning.specs.declared.value.Value.{Value}
use Rattle.machine.specs.declared.code.Code.{Code}
use Rattle.machine.specs.declared.code.CodeFunction.{CodeFunction}
use Rattle.machine.specs.declared.code.CodePlace.{CodePlace}
use Rattle.machine.specs.declared.code.CodePlace.TheVariants.{AddrG, AddrL}
use Rattle.machine.specs.Frames.{Frame, Thread, Running}
use Rattle.machine.specs.Protected.{action_by, next, protected, resume, resumed_by, shape_at}
use Rattle.machine.specs.Shapes.{shape_of}
use Rattle.machine.specs.Threads.{Told, place_at}
use Rattle.machine.specs.ValidCode.{CodeFits, IsValidCodeFunction, ValidCode}
use Rattle.thread_engine.specs.Quiet.{TakesQuietTurn}
use Rattle.thread_engine.specs.Sound.{AreSound, IsSound, SlotsAreThere, most_slots}
use Rattle.thread_engine.specs.inner.Quiet.{IsQuiet}
use Rattle.thread_engine.specs.inner.Turns.{AddressesFit}
use Rattle.thread_engine.proofs.Effects.{addresses_fit}
use Rattle.thread_engine.proofs.Preserved.{turns_keep_sound}
use Rattle.thread_engine.proofs.Valid.{at_place, places_are_low, stands_in, valid_function}

-- where nothing answers, the addresses that an instruction makes are low
addresses_unasked :
    (code : Code) (c : CodeFunction) (top : Frame Value) (i : CodePlace)
    → IsValidCodeFunction code c
    → IfSome top.object (λ id. id ≤ most_slots)
    → CodeFits code c i
    → AddressesFit top i reply.Nothing
addresses_unasked code c top (AddrG d g address units kept) valid low fits =
    addresses_fit code c 0 top [] reply.Nothing (AddrG d g address units kept) valid low fits tt tt
addresses_unasked code c top (AddrL d v offset units kept) valid low fits =
    addresses_fit code c 0 top [] reply.Nothing (AddrL d v offset units kept) valid low fits tt tt
addresses_unasked code c top _ valid low fits = tt

pub place_is_low :
    (code : Code) (top : Frame Value) (i : CodePlace)
    → ValidCode code
    → place_at code top.function top.place ≡ Some i
    → top.place < 65536
place_is_low code top i valid at = places_are_low code top.function top.place i valid at

pub addresses_are_low :
    (code : Code) (top : Frame Value) (below : List (Frame Value)) (i : CodePlace)
    → ValidCode code
    → AreSound code (top ∷ below)
    → place_at code top.function top.place ≡ Some i
    → AddressesFit top i reply.Nothing
addresses_are_low code top below i valid sound at =
    let s = stands_in code top.function top.place i at in
    let v = valid_function code top.function s.function valid s.there in
    addresses_unasked code s.function top i v sound.each.0.object
    (at_place (CodeFits code s.function) s.function.body top.place i v.in_range s.at)

-- what is performed quietly is the turn
pub runs_quietly :
    (r : Bool) (code : Code) (t : ℕ) (old new : Frame Value) (below : List (Frame Value)) (i : CodePlace)
    → place_at code old.function old.place ≡ Some i
    → IsQuiet r code t old new below (shape_of protected (length below) old i)
    → TakesQuietTurn r code t (Running old below) (Running new below)
runs_quietly false code t old new below i at is = ap (λ (f : Frame Value). Running f below) is
runs_quietly true code t old new below i at is = record {
  asks = ap (λ (o : Option CodePlace). action_by code t old below (shape_at old below o)) at ∙ is.0;
  goes = ap (λ (o : Option CodePlace). resumed_by code old below reply.Nothing (shape_at old below o)) at ∙ is.1;
}

-- and leaves a sound thread sound
pub quiet_turns_keep_sound :
    (r : Bool) (code : Code) (t : ℕ) (old new : Thread Value)
    → ValidCode code
    → IsSound code old
    → TakesQuietTurn r code t old new
    → IsSound code new
quiet_turns_keep_sound false code t old new valid sound is = subst (IsSound code) (sym is) sound
quiet_turns_keep_sound true code t old new valid sound is =
    let goes : resume code t old (next code t old) reply.Nothing ≡ record { thread = new; notes = [] } =
    ap (λ (a : Action). resume code t old a reply.Nothing) is.asks ∙ is.goes in
    subst (IsSound code) (ap (λ (told : Told Value). told.thread) goes)
    (turns_keep_sound code t old reply.Nothing valid sound
    (subst (λ (a : Action). Fits a reply.Nothing) (sym is.asks) tt)
    (subst (λ (a : Action). SlotsAreThere a reply.Nothing) (sym is.asks) tt))

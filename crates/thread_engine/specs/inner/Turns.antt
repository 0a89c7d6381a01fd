-- The effects, writes and callees for which those of the engine stand, and what is known of the effects of a turn.
use Rattle.std.specs.Prelude.{ℕ, ◌+◌, ◌*◌, ◌<◌, ◌≤◌, ◌^◌, ◌≡◌, true, List, [], ◌∷◌, length, map, Option, Some, None}
use Rattle.meaning.specs.declared.action.Action.{Action}
use Rattle.meaning.specs.declared.action.Action.TheVariants as act
use Rattle.meaning.specs.declared.action.Reply.{Reply}
use Rattle.meaning.specs.declared.action.Reply.TheVariants as reply
use Rattle.meaning.specs.declared.value.Stop.{Stop}
use Rattle.meaning.specs.declared.value.Value.{Value}
use Rattle.machine.specs.declared.code.Code.{Code}
use Rattle.machine.specs.declared.code.CodePlace.{CodePlace}
use Rattle.machine.specs.declared.code.CodePlace.TheVariants.{AddrG, AddrL, Call, CallInd, Malloc}
use Rattle.machine.specs.Domain as model
use Rattle.machine.specs.Frames as model-frames
use Rattle.machine.specs.Numbers.{low_word}
use Rattle.machine.specs.Protected.{effect_of as effect_by, protected}
use Rattle.machine.specs.Shapes.{number_in, object_of, register, shape_of}
use Rattle.machine.specs.Threads.{has_room, place_at}
use Rattle.thread_engine.specs.Sound.{most_slots}
use Rattle.thread_engine.specs.declared.callee.Callee.{Callee}
use Rattle.thread_engine.specs.declared.callee.Callee.TheVariants as callee
use Rattle.thread_engine.specs.declared.effect.Effect.{Effect}
use Rattle.thread_engine.specs.declared.effect.Effect.TheVariants as effect
use Rattle.thread_engine.specs.declared.effect.Write.{Write}
use Rattle.thread_engine.specs.declared.effect.Write.TheVariants as write

abbrev pub callee_of : Callee → model.Callee
callee_of (callee.Reaches f) = model.Reaches f
callee_of (callee.Refused why) = model.Refused why

abbrev pub write_of : Write → model-frames.Write Value
write_of write.Nothing = model-frames.Nothing
write_of (write.ToRegister d v) = model-frames.ToRegister d v
write_of (write.ToSlot s v) = model-frames.ToSlot s v
write_of (write.ToUnit unit at v) = model-frames.ToUnit unit at v
write_of (write.ToObject id) = model-frames.ToObject id

-- an effect of a call with these arguments
abbrev pub effect_of : List Value → Effect → model-frames.Effect Value
effect_of arguments (effect.Stops why) = model-frames.Stops why
effect_of arguments (effect.Goes to w) = model-frames.Goes to (write_of w)
effect_of arguments (effect.Enters f through) = model-frames.Enters f arguments through
effect_of arguments (effect.Leaves v) = model-frames.Leaves v

-- the registers that a call's arguments stand in
abbrev pub arguments_at : CodePlace → List ℕ
arguments_at (Call f args s) = args
arguments_at (CallInd c args type s origin) = args
arguments_at _ = []

-- the arguments of a call
abbrev pub arguments_of : model-frames.Frame Value → CodePlace → List Value
arguments_of f i = map (register protected f) (arguments_at i)

-- units from a slot on, if there is one
abbrev pub LiesLow : ℕ → Reply → Type 0
LiesLow units (reply.Slot (Some s)) = 64 * s + units < 2 ^ 32
LiesLow units _ = Unit {0}

-- the addresses that an instruction makes are below 2^32
abbrev pub AddressesFit : model-frames.Frame Value → CodePlace → Reply → Type 0
AddressesFit f (AddrG d g address units kept) answer = address + units < 2 ^ 32
AddressesFit f (AddrL d v offset units kept) answer = 64 * object_of protected f + offset + units < 2 ^ 32
AddressesFit f (Malloc d a) answer = LiesLow (low_word (number_in protected f a)) answer
AddressesFit f _ answer = Unit {0}

-- ---- what is known of the effects of a turn

-- why an action stops the thread, if it does
abbrev pub halt_of : Action → Option Stop
halt_of (act.Halt why) = Some why
halt_of _ = None

-- a new frame finds room, and an object lies among the slots
abbrev pub EffectFits : Code → List (model-frames.Frame Value) → model-frames.Effect Value → Type 0
EffectFits code frames (model-frames.Enters f arguments through) = has_room code frames f ≡ true
EffectFits code frames (model-frames.Goes to (model-frames.ToObject id)) = id ≤ most_slots
EffectFits code frames _ = Unit {0}

-- the instruction at which the top frame stands has an effect that fits, once this answers its action
pub record StepFits
    (code : Code) (top : model-frames.Frame Value) (below : List (model-frames.Frame Value)) (answer : Reply) : Type 0 where
  pub low : (i : CodePlace) → place_at code top.function top.place ≡ Some i → top.place < 65536
  pub addresses : (i : CodePlace) → place_at code top.function top.place ≡ Some i → AddressesFit top i answer
  pub effect :
      (i : CodePlace)
      → place_at code top.function top.place ≡ Some i
      → EffectFits code (top ∷ below) (effect_by code top answer (shape_of protected (length below) top i))

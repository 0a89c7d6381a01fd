-- Actions and the replies that have their form.
use Rattle.meaning.specs.declared.action.Action.{Action}
use Rattle.meaning.specs.declared.action.Action.TheVariants.{Own, Load, Store, TryLock, Get, Put, Alloc, Free, Look, Fork, Print, Input, Halt}
use Rattle.meaning.specs.declared.action.Reply.{Reply}
use Rattle.meaning.specs.declared.action.Reply.TheVariants.{Nothing, Word, Found, Slot, Flag, Thread}

abbrev pub IsNothing : Reply → Type 0
IsNothing Nothing = Unit {0}
IsNothing _ = ⊥

abbrev pub IsWord : Reply → Type 0
IsWord (Word w) = Unit {0}
IsWord _ = ⊥

abbrev pub IsFound : Reply → Type 0
IsFound (Found e) = Unit {0}
IsFound _ = ⊥

abbrev pub IsSlot : Reply → Type 0
IsSlot (Slot s) = Unit {0}
IsSlot _ = ⊥

abbrev pub IsFlag : Reply → Type 0
IsFlag (Flag b) = Unit {0}
IsFlag _ = ⊥

abbrev pub IsThread : Reply → Type 0
IsThread (Thread t) = Unit {0}
IsThread _ = ⊥

-- the reply has the action's form
abbrev pub Fits : Action → Reply → Type 0
Fits Own = IsNothing
Fits (Load a) = IsWord
Fits (Store a v) = IsNothing
Fits (TryLock a) = IsWord
Fits (Get a) = IsFound
Fits (Put a e) = IsNothing
Fits (Alloc k) = IsSlot
Fits (Free i) = IsFlag
Fits (Look i) = IsFlag
Fits Fork = IsThread
Fits (Print v) = IsNothing
Fits (Input k) = IsWord
Fits (Halt s) = IsNothing

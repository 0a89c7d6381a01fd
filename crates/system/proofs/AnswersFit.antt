-- Each action is answered by a reply of its form.
use Rattle.std.proofs.Common.{◌≡◌, ℕ, ◌+◌, ◌≤◌, Bool, true, false, List, Some, None, arith, refl}
use Rattle.std.specs.Prelude.{ℤ, nat_le, if◌then◌else◌}
use Rattle.meaning.specs.Action.{Fits}
use Rattle.meaning.specs.declared.action.Action.{Action}
use Rattle.meaning.specs.declared.action.Action.TheVariants as act
use Rattle.meaning.specs.declared.action.Reply.TheVariants as reply
use Rattle.std.proofs.lemmas.Bool.{leb-true}
use Rattle.machine.specs.Store.{Memory, Store, answer}
use Rattle.thread_engine.specs.Sound.{SlotsAreThere, most_slots}

pub answers_fit : (slots threads : ℕ) (inputs : List ℤ) (store : Store) (memory : Memory) (action : Action)
    → Fits action (answer slots threads inputs store memory action)
answers_fit slots threads inputs store memory act.Own = tt
answers_fit slots threads inputs store memory (act.Load a) = tt
answers_fit slots threads inputs store memory (act.Store a v) = tt
answers_fit slots threads inputs store memory (act.TryLock a) = tt
answers_fit slots threads inputs store memory (act.Get a) = tt
answers_fit slots threads inputs store memory (act.Put a e) = tt
answers_fit slots threads inputs store memory (act.Alloc k) = tt
answers_fit slots threads inputs store memory (act.Free id) = tt
answers_fit slots threads inputs store memory (act.Look id) = tt
answers_fit slots threads inputs store memory act.Fork = tt
answers_fit slots threads inputs store memory (act.Print v) = tt
answers_fit slots threads inputs store memory (act.Input n) = tt
answers_fit slots threads inputs store memory (act.Halt why) = tt

-- slots that are given lie among those that there are
given_slots : (slots next k : ℕ) (enough : Bool) → slots ≤ most_slots → nat_le (next + k) slots ≡ enough
    → SlotsAreThere (act.Alloc k) (reply.Slot (if enough then Some next else None))
given_slots slots next k true most is = omega (arith, most, leb-true (next + k) slots is)
given_slots slots next k false most is = tt

pub slots_are_there : (slots threads : ℕ) (inputs : List ℤ) (store : Store) (memory : Memory) (action : Action)
    → slots ≤ most_slots
    → SlotsAreThere action (answer slots threads inputs store memory action)
slots_are_there slots threads inputs store memory (act.Alloc k) most =
    given_slots slots store.next k (nat_le (store.next + k) slots) most refl
slots_are_there slots threads inputs store memory action most = tt

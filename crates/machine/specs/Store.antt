-- The safe store, ordinary memory and the inputs: what they answer, and what actions change.
use Rattle.std.specs.Prelude.{ℕ, ℤ, pos, negsuc, ◌+◌, ◌-◌, ◌^◌, Bool, not, if◌then◌else◌, min, nat_le, nat_eq, List, Option, Some, None, is_some, unwrap_or, slice_get}
use Rattle.std.specs.FinMap.{FinMap, empty, get, insert}
use Rattle.std.specs.Ordering.{nat_cmp}
use Rattle.meaning.specs.declared.action.Action.{Action}
use Rattle.meaning.specs.declared.action.Action.TheVariants as act
use Rattle.meaning.specs.declared.action.Reply.{Reply}
use Rattle.meaning.specs.declared.action.Reply.TheVariants as reply
use Rattle.meaning.specs.declared.value.Entry.{Entry}
use Rattle.machine.specs.Numbers.{is_zero}

-- the safe store
pub record Store : Type 0 where
  -- the next slot that is drawn
  pub next : ℕ
  -- the ids that are ended
  pub ended : FinMap nat_cmp (Unit {0})
  -- the threads that there are
  pub count : ℕ
  pub entries : FinMap nat_cmp Entry

-- the first slot that is drawn
abbrev pub first_drawn : ℕ
first_drawn = 1026

-- the store before anything is done: thread 0 is there, and nothing is put or ended
abbrev pub new_store : Store
new_store = record { next = first_drawn; ended = empty; count = 1; entries = empty }

-- ordinary memory: 0 where nothing was written
abbrev pub Memory : Type 0
Memory = FinMap nat_cmp ℤ

abbrev pub word_at : Memory → ℕ → ℤ
word_at memory a = unwrap_or (get memory a) (pos 0)

abbrev pub is_ended : Store → ℕ → Bool
is_ended store id = is_some (get store.ended id)

-- the first of k slots, where they are at most so many in all
abbrev pub first_slot : ℕ → ℕ → ℕ → Option ℕ
first_slot slots next k = if nat_le (next + k) slots then Some next else None

-- the slots that are drawn stay at the greatest number of 64 bits
abbrev pub drawn_to : ℕ → ℕ → ℕ
drawn_to next k = min (next + k) (2 ^ 64 - 1)

-- the number of a new thread, of at most so many
abbrev pub new_number : ℕ → ℕ → Option ℕ
new_number threads count = if nat_eq count threads then None else Some count

abbrev pub input_at : List ℤ → ℤ → ℤ
input_at inputs (pos n) = unwrap_or (slice_get inputs n) (pos 0)
input_at inputs (negsuc n) = pos 0

-- what answers an action, where there are so many slots and threads in all
abbrev pub answer : ℕ → ℕ → List ℤ → Store → Memory → Action → Reply
answer slots threads inputs store memory (act.Load a) = reply.Word (word_at memory a)
answer slots threads inputs store memory (act.TryLock a) = reply.Word (word_at memory a)
answer slots threads inputs store memory (act.Get a) = reply.Found (get store.entries a)
answer slots threads inputs store memory (act.Alloc k) = reply.Slot (first_slot slots store.next k)
answer slots threads inputs store memory (act.Free id) = reply.Flag (not (is_ended store id))
answer slots threads inputs store memory (act.Look id) = reply.Flag (not (is_ended store id))
answer slots threads inputs store memory act.Fork = reply.Thread (new_number threads store.count)
answer slots threads inputs store memory (act.Input n) = reply.Word (input_at inputs n)
answer slots threads inputs store memory _ = reply.Nothing

-- what an action leaves of the store, of at most so many threads
abbrev pub stored : ℕ → Store → Action → Store
stored threads store (act.Put a e) = record store { entries = insert store.entries a e }
stored threads store (act.Alloc k) = record store { next = drawn_to store.next k }
stored threads store (act.Free id) = record store { ended = insert store.ended id tt }
stored threads store act.Fork =
    record store { count = if nat_eq store.count threads then store.count else store.count + 1 }
stored threads store _ = store

-- and of ordinary memory: a lock that finds 0 sets 1
abbrev pub remembered : Memory → Action → Memory
remembered memory (act.Store a w) = insert memory a w
remembered memory (act.TryLock a) = if is_zero (word_at memory a) then insert memory a (pos 1) else memory
remembered memory _ = memory

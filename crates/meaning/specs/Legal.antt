-- A legal history: each reply of the safe store is fixed by the calls before it.
use Rattle.std.specs.Prelude.{◌≡◌, ℕ, ◌+◌, Bool, false, ◌||◌, not, cond, nat_eq, nat_le, List, [], ◌∷◌, ◌++◌, Option, Some, None}
use Rattle.meaning.specs.declared.value.Entry.{Entry}
use Rattle.meaning.specs.declared.action.Action.{Action}
use Rattle.meaning.specs.declared.action.Action.TheVariants.{Get, Put, Alloc, Free, Look, Fork}
use Rattle.meaning.specs.declared.action.Reply.{Reply}
use Rattle.meaning.specs.declared.action.Reply.TheVariants.{Found, Slot, Flag, Thread}

-- an action with its reply
abbrev pub Call : Type 0
Call = Action × Reply

-- the entry that an action puts at an address
abbrev pub put_at : ℕ → Action → Option Entry
put_at a (Put b e) = cond (nat_eq b a) (Some e) None
put_at a _ = None

-- the first, or the second where there is none
abbrev pub or_else : Option Entry → Option Entry → Option Entry
or_else (Some e) other = Some e
or_else None other = other

-- the entry of the last put at an address
abbrev pub last_put : ℕ → List Call → Option Entry
last_put a [] = None
last_put a (c ∷ cs) = or_else (last_put a cs) (put_at a c.0)

-- how many slots an action asks for
abbrev pub asked : Action → ℕ
asked (Alloc k) = k
asked _ = 0

-- how many slots were asked for
abbrev pub slots_asked : List Call → ℕ
slots_asked [] = 0
slots_asked (c ∷ cs) = asked c.0 + slots_asked cs

abbrev pub ends : ℕ → Action → Bool
ends i (Free j) = nat_eq j i
ends i _ = false

-- some free of the id stands there
abbrev pub is_ended : ℕ → List Call → Bool
is_ended i [] = false
is_ended i (c ∷ cs) = ends i c.0 || is_ended i cs

abbrev pub is_new_thread : Call → ℕ
is_new_thread (Fork, Thread (Some m)) = 1
is_new_thread _ = 0

-- how many forks answered a number
abbrev pub threads_made : List Call → ℕ
threads_made [] = 0
threads_made (c ∷ cs) = is_new_thread c + threads_made cs

-- the first of k slots behind those that were asked for, where they are at most slots in all
abbrev pub slot_for : ℕ → ℕ → List Call → Option ℕ
slot_for slots k before =
    let first = 1026 + slots_asked before in cond (nat_le (first + k) slots) (Some first) None

-- the next thread number, where the limit isn't reached
abbrev pub thread_for : ℕ → List Call → Option ℕ
thread_for threads before =
    let next = 1 + threads_made before in cond (nat_eq next threads) None (Some next)

-- the reply that the calls before it fix, for a store with these limits
abbrev pub IsLegalCall : ℕ → ℕ → List Call → Action → Reply → Type 0
IsLegalCall slots threads before (Get a) reply = reply ≡ Found (last_put a before)
IsLegalCall slots threads before (Alloc k) reply = reply ≡ Slot (slot_for slots k before)
IsLegalCall slots threads before (Free i) reply = reply ≡ Flag (not (is_ended i before))
IsLegalCall slots threads before (Look i) reply = reply ≡ Flag (not (is_ended i before))
IsLegalCall slots threads before Fork reply = reply ≡ Thread (thread_for threads before)
IsLegalCall slots threads before _ reply = Unit {0}

-- each call's reply is fixed by the calls before it
abbrev pub LegalHistory : ℕ → ℕ → List Call → Type 0
LegalHistory slots threads calls =
    (before after : List Call) (call : Call) → calls ≡ before ++ call ∷ after
    → IsLegalCall slots threads before call.0 call.1

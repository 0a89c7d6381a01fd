-- What a thread asks of a store that it shares with others: addresses, ids, sizes and entries within the store,
-- and no more
-- puts than half of its turns.
use Rattle.std.specs.Prelude.{◌≡◌, ℕ, ℤ, ◌+◌, ◌*◌, ◌^◌, ◌<◌, ◌≤◌, List, [], ◌∷◌, ◌++◌, Option, Some, None}
use Rattle.std.specs.List.{All}
use Rattle.meaning.specs.declared.action.Action.{Action}
use Rattle.meaning.specs.declared.action.Action.TheVariants as act
use Rattle.meaning.specs.declared.action.Reply.TheVariants as reply
use Rattle.meaning.specs.declared.value.Entry.{Entry}
use Rattle.meaning.specs.declared.value.Entry.TheVariants as entry
use Rattle.meaning.specs.Legal.{Call}
use Rattle.machine.specs.declared.code.Code.{Code}
use Rattle.machine.specs.Logs.{LocalRun, counted_turns}

-- an entry of a store with so many slots
abbrev pub EntryFits : ℕ → Entry → Type 0
EntryFits slots (entry.Bare n) = n < 2 ^ 32
EntryFits slots (entry.Based value lower upper id) = (value < 2 ^ 32) × (upper ≤ 64 * slots) × (2 ≤ id) × (id < slots)
EntryFits slots (entry.Code f) = f < 4096

abbrev pub FoundFits : ℕ → Option Entry → Type 0
FoundFits slots None = Unit {0}
FoundFits slots (Some e) = EntryFits slots e

abbrev pub SlotFits : ℕ → ℕ → Option ℕ → Type 0
SlotFits slots k None = Unit {0}
SlotFits slots k (Some s) = (1026 ≤ s) × (s + k ≤ slots)

abbrev pub NumberFits : Option ℕ → Type 0
NumberFits None = Unit {0}
NumberFits (Some m) = (1 ≤ m) × (m ≤ 15)

-- what such a store answers
abbrev pub AnswerFits : ℕ → Call → Type 0
AnswerFits slots (act.Get a, reply.Found e) = FoundFits slots e
AnswerFits slots (act.Alloc k, reply.Slot s) = SlotFits slots k s
AnswerFits slots (act.Fork, reply.Thread m) = NumberFits m
AnswerFits slots c = Unit {0}

-- what may be asked of it
abbrev pub ActionFits : ℕ → Action → Type 0
ActionFits slots (act.Get a) = a < 64 * slots
ActionFits slots (act.Put a e) = (a < 64 * slots) × EntryFits slots e
ActionFits slots (act.Alloc k) = (1 ≤ k) × (k ≤ 256)
ActionFits slots (act.Free id) = (1026 ≤ id) × (id < slots)
ActionFits slots (act.Look id) = id < slots
ActionFits slots _ = Unit {0}

abbrev pub one_put : Action → ℕ
one_put (act.Put a e) = 1
one_put _ = 0

abbrev pub puts_among : List Call → ℕ
puts_among [] = 0
puts_among (c ∷ cs) = one_put c.0 + puts_among cs

-- In each run of thread m alone whose answers fit, what it asks fits, and its puts are at most half of its
-- counted turns.
abbrev pub AsksWhatFits : Code → List ℤ → ℕ → ℕ → Type 0
AsksWhatFits code inputs slots m =
    (before : List Call) (last : Call)
    → LocalRun code inputs m (before ++ last ∷ [])
    → All (AnswerFits slots) before
    → ActionFits slots last.0
    × (one_put last.0 ≡ 1 → 2 * puts_among (before ++ last ∷ []) ≤ counted_turns m (before ++ last ∷ []))

-- The records of a run, and what they show.
use Rattle.std.specs.Prelude.{ℕ, ◌+◌, ◌-◌, ◌^◌, Bool, true, false, cond, min, nat_eq, List, [], ◌∷◌, ◌++◌, map}
use Rattle.std.specs.List.{flat_map, list_any}
use Rattle.meaning.specs.declared.action.Action.{Action}
use Rattle.meaning.specs.declared.action.Action.TheVariants as act
use Rattle.meaning.specs.declared.action.Reply.{Reply}
use Rattle.meaning.specs.declared.note.Note.TheVariants as note
use Rattle.meaning.specs.declared.value.Stop.TheVariants.{Failed, Budget}
use Rattle.meaning.specs.declared.record.Record.{Record}
use Rattle.meaning.specs.declared.record.Record.TheVariants.{Steps, Did, Noted, Wrote}
use Rattle.meaning.specs.Legal.{Call}

-- what a turn did, unless that is nothing or a halt
abbrev pub did : ℕ → Action → Reply → List Record
did t act.Own reply = []
did t (act.Halt stop) reply = []
did t action reply = Did t action reply ∷ []

-- a turn without another record is one of the thread's steps
abbrev pub or_one_step : ℕ → List Record → List Record
or_one_step t [] = Steps t 1 ∷ []
or_one_step t (r ∷ rs) = r ∷ rs

-- two counts of turns as one, which stays at the greatest number
abbrev pub counted : ℕ → ℕ → ℕ
counted n m = min (n + m) (2 ^ 64 - 1)

-- steps behind steps of the same thread add their number to those, and every other record goes behind
abbrev pub joined : Record → Record → List Record
joined (Steps t n) (Steps u m) = cond (nat_eq t u) (Steps t (counted n m) ∷ []) (Steps t n ∷ Steps u m ∷ [])
joined r s = r ∷ s ∷ []

-- the records with one more
abbrev pub added : List Record → Record → List Record
added [] r = r ∷ []
added (last ∷ []) r = joined last r
added (q ∷ s ∷ rs) r = q ∷ added (s ∷ rs) r

-- the records with these behind them
abbrev pub added_all : List Record → List Record → List Record
added_all trace [] = trace
added_all trace (r ∷ rs) = added_all (added trace r) rs

-- the actions with their replies that records show, in order
abbrev pub calls_of : List Record → List Call
calls_of [] = []
calls_of (Did t action reply ∷ rs) = (action, reply) ∷ calls_of rs
calls_of (r ∷ rs) = calls_of rs

abbrev pub names_check : Record → Bool
names_check (Noted t (note.Stopped (Failed check))) = true
names_check _ = false

-- some stop names a check
abbrev pub is_violated : List Record → Bool
is_violated rs = list_any names_check rs

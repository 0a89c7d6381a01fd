-- What a seat of a shared store has seen and done, and what each call makes of it.
use Rattle.std.specs.Prelude.{◌≡◌, ℕ, ◌+◌, ◌-◌, ◌*◌, ◌<◌, List, [], ◌∷◌, ◌++◌, Option, None, Some, slice_get}
use mathlib.Core.List.{IsPrefix}
use mathlib.Core.Option.{some}
use lib.ListN.{get_elem?}
use Rattle.atomic_table.specs.Seated.{TableId}
use Rattle.meaning.specs.declared.value.Entry.{Entry}
use Rattle.meaning.specs.declared.action.Action.{Action}
use Rattle.meaning.specs.declared.action.Action.TheVariants.{Get}
use Rattle.meaning.specs.declared.action.Reply.{Reply}
use Rattle.meaning.specs.declared.action.Reply.TheVariants.{Found}
use Rattle.safe_table.specs.declared.history.StoreCall.{StoreCall}
use Rattle.safe_table.specs.declared.history.StoreSize.{StoreSize}
use Rattle.safe_table.specs.declared.view.Draft.{Draft}
use Rattle.safe_table.specs.declared.view.Held.{Held}
use Rattle.safe_table.specs.Entries.{IsEntry}
use Rattle.safe_table.specs.History.{call, calls_by, puts, IsHistory}
use Rattle.safe_table.specs.Rule.{entry_of}

-- which store it is, and its size
pub record StoreName : Type 0 where
  pub table_id : TableId
  pub size : StoreSize

-- a seat: its store, its number, the history as far as it has seen it, and its own calls
pub record SeatState : Type 0 where
  pub store : StoreName
  pub number : ℕ
  pub seen : List StoreCall
  pub mine : List StoreCall

-- how many puts a seat may still make
abbrev pub puts_left : SeatState → ℕ
puts_left s = s.store.size.quota - puts s.mine

-- the number of its next put
abbrev pub next_number : SeatState → ℕ
next_number s = s.store.size.quota * s.number + puts s.mine + 1

-- the number n names no record, or one of the table, whose entry the store takes
abbrev pub HasRecord : StoreSize → ℕ → Option Entry → Type 0
HasRecord z n None = n ≡ 0
HasRecord z n (Some e) = (r : ℕ) × (n ≡ r + 1) × (r < z.quota * z.threads) × IsEntry z e

-- a seat that has made and seen no call
abbrev pub fresh_seat : StoreName → ℕ → SeatState
fresh_seat store n = record { store = store; number = n; seen = []; mine = [] }

-- a fresh seat of each number below n, in order
abbrev pub AreFresh : StoreName → ℕ → List SeatState → Type 0
AreFresh store n seats = (k : ℕ) → k < n → slice_get seats k ≡ Some (fresh_seat store k)

-- the seat has made this call, at one place of one legal history
pub record SeatCall (s t : SeatState) (action : Action) (reply : Reply) (put before : ℕ) : Type 0 where
  pub between : List StoreCall
  pub longer : IsPrefix s.seen between
  pub seen : t.seen ≡ between ++ call s.number action reply put before ∷ []
  pub legal : IsHistory t.store.size t.seen
  pub mine : t.mine ≡ s.mine ++ call s.number action reply put before ∷ []
  pub all_mine : calls_by s.number t.seen ≡ t.mine
  pub store : t.store ≡ s.store
  pub number : t.number ≡ s.number

-- what a seat has learnt by a meeting
pub record Meets (s other t : SeatState) : Type 0 where
  pub own : IsPrefix s.seen t.seen
  pub others : IsPrefix other.seen t.seen
  pub legal : IsHistory t.store.size t.seen
  pub all_mine : calls_by s.number t.seen ≡ s.mine
  pub mine : t.mine ≡ s.mine
  pub store : t.store ≡ s.store
  pub number : t.number ≡ s.number

-- the seat's calls stand in the history, and no others of its number, behind all that it had seen
abbrev pub Covers : List StoreCall → SeatState → Type 0
Covers h s = IsPrefix s.seen h × (calls_by s.number h ≡ s.mine)

-- each number of the store is that of one of these seats
abbrev pub HasAllSeats : StoreSize → List SeatState → Type 0
HasAllSeats z seats = (n : ℕ) → n < z.threads
    → (k : ℕ) × (s : SeatState) × (slice_get seats k ≡ Some s) × (s.number ≡ n)

-- each call is one of these seats' calls
abbrev pub IsMadeBy : List SeatState → List StoreCall → Type 0
IsMadeBy seats h = (j : ℕ) (c : StoreCall) → slice_get h j ≡ Some c
    → (k : ℕ) × (s : SeatState) × (slice_get seats k ≡ Some s) × (s.number ≡ c.by)

-- the last call of these names this put, which has the entry e
abbrev pub LastNames : List StoreCall → ℕ → Entry → Type 0
LastNames seen put e = (before : List StoreCall) × (c : StoreCall)
    × (seen ≡ before ++ c ∷ []) × (c.put ≡ put) × (entry_of c.action c.reply ≡ Some e)

-- the seat has got the entry of the put of this number, or none
abbrev pub HasGot : SeatState → SeatState → ℕ → ℕ → Type 0
HasGot s t a put = (e : Option Entry) × SeatCall s t (Get a) (Found e) put 0 × HasRecord s.store.size put e

-- a seat, and what it has written of its next record
pub record Drafting : Type 0 where
  pub seat : SeatState
  pub draft : Draft

-- the opener of a store, which has given this many numbers
pub record Opening : Type 0 where
  pub store : StoreName
  pub given : ℕ

-- seats that are being gathered: their store, the history as far as it is seen, and the numbers held
pub record GatherState : Type 0 where
  pub store : StoreName
  pub seen : List StoreCall
  pub held : List Held

-- a seat as it is held after it was taken in
abbrev pub held_by : Drafting → Held
held_by s = record { number = s.seat.number; mine = s.seat.mine; draft = s.draft }

-- the seat is among those gathered
abbrev pub Gathered : GatherState → Drafting → Type 0
Gathered g s = IsPrefix s.seat.seen g.seen × ((k : ℕ) × (get_elem? g.held k ≡ some (held_by s)))

-- what is seen is a legal history with just the calls of the numbers held, beside those of numbers that are not held
pub record IsGathering (g : GatherState) : Type 0 where
  pub legal : IsHistory g.store.size g.seen
  pub mine : (k : ℕ) (x : Held) → get_elem? g.held k ≡ some x → calls_by x.number g.seen ≡ x.mine
  pub named : (k : ℕ) (c : StoreCall) → get_elem? g.seen k ≡ some c → c.by < g.store.size.threads

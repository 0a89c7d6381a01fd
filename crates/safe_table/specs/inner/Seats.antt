-- A seat as its owner sees it, and seats that are being gathered.
use Rattle.std.specs.Prelude.{◌≡◌, ℕ, ◌+◌, ◌<◌, Bool, true, List, [], ◌∷◌}
use mathlib.Core.Option.{some}
use mathlib.Core.List.{IsPrefix}
use lib.ListN.{get_elem?}
use Rattle.atomic_table.specs.Seated.{TableId}
use Rattle.safe_table.specs.declared.history.StoreCall.{StoreCall}
use Rattle.safe_table.specs.declared.view.Held.{Held}
use Rattle.safe_table.specs.declared.view.View.{View}
use Rattle.safe_table.specs.History.{calls_by, puts, IsHistory}
use Rattle.safe_table.specs.Rule.{any_late, any_crowded}
use Rattle.safe_table.specs.Seat.{StoreName, SeatState, Drafting, GatherState, IsGathering}
use Rattle.safe_table.specs.inner.Plays.{Sat}
use Rattle.safe_table.specs.inner.Views.{mine_in, draft_in}

abbrev pub own : View → List StoreCall
own v = mine_in v.held

abbrev pub seat_state : TableId → ℕ → Sat → SeatState
seat_state id n m =
    record { store = record { table_id = id; size = m.0.size }; number = n; seen = m.0.seen; mine = own m.0 }

abbrev pub drafting : TableId → ℕ → Sat → Drafting
drafting id n m = record { seat = seat_state id n m; draft = draft_in m.0.held }

-- a seat between two steps: its number, the puts that are left, and whether it was told that no slots or numbers are left
pub record IsWhole (n left : ℕ) (late crowded : Bool) (m : Sat) : Type 0 where
  pub none_out : m.1 ≡ []
  pub live : m.0.live ≡ true
  pub held : m.0.held ≡ record { number = n; mine = own m.0; draft = draft_in m.0.held } ∷ []
  pub left_is : left + puts (own m.0) ≡ m.0.size.quota
  pub few : n < m.0.size.threads
  pub late_is : any_late (own m.0) ≡ late
  pub crowded_is : any_crowded (own m.0) ≡ crowded

abbrev pub gather_state : TableId → Sat → GatherState
gather_state id m = record { store = record { table_id = id; size = m.0.size }; seen = m.0.seen; held = m.0.held }

-- what holds of a seat that has taken in others
pub record IsGathered (id : TableId) (m : Sat) : Type 0 where
  pub none_out : m.1 ≡ []
  pub live : m.0.live ≡ true
  pub whole : IsGathering (gather_state id m)

-- A number that isn't 0 has an entry.
use Rattle.std.proofs.Common.{◌≡◌, ◌≢◌, ℕ, refl}
use Rattle.std.specs.Prelude.{Option, None, Some}
use Rattle.meaning.specs.declared.value.Entry.{Entry}
use Rattle.safe_table.specs.declared.history.StoreSize.{StoreSize}
use Rattle.safe_table.specs.Entries.{IsEntry}
use Rattle.safe_table.specs.Seat.{HasRecord}

pub got_some : (z : StoreSize) (n : ℕ) (e : Option Entry) → HasRecord z n e → n ≢ 0 → (x : Entry) × (e ≡ Some x) × IsEntry z x
got_some z n None has is = absurd (is has)
got_some z n (Some x) has is = (x, refl, has.3)

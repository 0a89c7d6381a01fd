-- The safe store with how many slots and threads there can be.
use Rattle.std.specs.Prelude.{ℕ, refl}
use Rattle.std.specs.FinMap.{FinMap, code as map_code}
use Rattle.std.specs.Coded.{Coded, code_by, coded_ℕ, coded×}
use base.Stored.{coded_unit}
use Rattle.std.specs.Ordering.{nat_cmp}
use Rattle.meaning.specs.declared.action.Action.{Action}
use Rattle.meaning.specs.declared.value.Entry.{Entry}
use Rattle.meaning.specs.contracts.value.Entry as entry
use Rattle.machine.specs.Store.{Store, new_store, stored}

pub record Bounded : Type 0 where
  -- the slots that there are
  pub slots : ℕ
  -- the threads that there can be
  pub threads : ℕ
  pub store : Store

abbrev Parts : Type 0
Parts = (ℕ × ℕ) × ((ℕ × ℕ) × (FinMap nat_cmp (Unit {0}) × FinMap nat_cmp Entry))

abbrev parts_of : Bounded → Parts
parts_of r = ((r.slots, r.threads), ((r.store.next, r.store.count), (r.store.ended, r.store.entries)))

abbrev of_parts : Parts → Bounded
of_parts p = record {
  slots = p.0.0;
  threads = p.0.1;
  store = record { next = p.1.0.0; ended = p.1.1.0; count = p.1.0.1; entries = p.1.1.1 };
}

abbrev pub bounded_code : Coded Bounded
bounded_code =
    code_by Parts
    (coded× (coded× coded_ℕ coded_ℕ)
    (coded× (coded× coded_ℕ coded_ℕ)
    (coded× (map_code coded_ℕ coded_unit) (map_code coded_ℕ entry.the_row.coded))))
    parts_of of_parts (λ _. refl)

-- a store before anything is done
abbrev pub new_region : ℕ → ℕ → Bounded
new_region slots threads = record { slots = slots; threads = threads; store = new_store }

-- the store behind an action
abbrev pub behind : Bounded → Action → Bounded
behind r action = record r { store = stored r.threads r.store action }

-- Records of which each is kept once for the times that it comes, with the places where they are kept in order.
use Rattle.std.specs.Prelude.{ℕ, pos, ◌<◌, List, map, length, get_or, refl}
use Rattle.std.specs.Coded.{Coded, code_by, coded_list, coded_ℕ, coded×}
use Rattle.std.specs.List.{All}
use Rattle.meaning.specs.contracts.record.Record as record_contract
use Rattle.meaning.specs.declared.record.Record.{Record}
use Rattle.meaning.specs.declared.record.Record.TheVariants.{Wrote}

-- records, and for how many more there is room, at least
pub record RecordsView : Type 0 where
  pub records : List Record
  pub spare : ℕ

abbrev pub records_code : Coded RecordsView
records_code =
    code_by (List Record × ℕ) (coded× (coded_list record_contract.the_row.coded) coded_ℕ)
    (λ v. (v.records, v.spare)) (λ p. record { records = p.0; spare = p.1 }) (λ _. refl)

-- the record that is kept at a place, and any where there is none
abbrev pub record_at : List Record → ℕ → Record
record_at kept place = get_or kept place (Wrote 0 (pos 0))

-- the records that are kept at these places
abbrev pub records_at : List Record → List ℕ → List Record
records_at kept places = map (record_at kept) places

-- at each of these places a record is kept
abbrev pub ArePlaces : List Record → List ℕ → Type 0
ArePlaces kept places = All (λ place. place < length kept) places

-- What a line of a full text is: an input or a record.
use Rattle.std.specs.Prelude.{◌≡◌, ◌≢◌, ℕ, ℤ, ◌+◌, List, [], ◌∷◌, ◌++◌, length, codes, decimal, slice_index_or, false, Option, MatchOption, IfSome}
use Rattle.std.specs.Fmt.{signed_decimal}
use Rattle.meaning.specs.declared.record.Record.{Record}
use Rattle.meaning.specs.declared.record.Record.TheVariants.{Steps, Did, Noted, Wrote}
use Rattle.fields.specs.Numbers.{IsWord}
use Rattle.fields.specs.Reading.{Fields, Reads}
use Rattle.trace.specs.Text.{input_text, record_text, did_fields, note_fields}
use Rattle.trace_reader.specs.declared.item.Item.{Item}
use Rattle.trace_reader.specs.declared.item.Item.TheVariants.{Given, Recorded}
use Rattle.trace_reader.specs.inner.Reading.{fork_of}
use Rattle.trace_reader.specs.FullText.{IsRecord, join}

abbrev pub item_text : Item → List ℕ
item_text (Given v) = input_text v
item_text (Recorded r) = record_text r

abbrev pub IsItem : Item → Type 0
IsItem (Given v) = IsWord v
IsItem (Recorded r) = IsRecord r

-- the fields of a record's line, and of an item's
abbrev pub record_fields : Record → Fields
record_fields (Steps t n) = decimal t ∷ codes "steps" ∷ decimal n ∷ []
record_fields (Did t action reply) = decimal t ∷ did_fields action reply
record_fields (Noted t note) = decimal t ∷ note_fields note
record_fields (Wrote a v) = codes "w" ∷ decimal a ∷ signed_decimal v ∷ []

abbrev pub item_fields : Item → Fields
item_fields (Given v) = codes "in" ∷ signed_decimal v ∷ []
item_fields (Recorded r) = record_fields r

-- what is read behind a thread and a word is a record whose fields these are
abbrev pub Finds : ℕ → List ℕ → Fields → Option Record → Fields → Type 0
Finds t w old result new = IfSome result (λ r. IsRecord r × (decimal t ∷ w ∷ old ≡ record_fields r ++ new))

-- the record of a fork, which takes no field
abbrev pub ForkIs : ℕ → Option ℕ → Option Record → Type 0
ForkIs t m result = (fs : Fields) → Reads (fork_of t m fs) result fs

-- the item that a line is read as, or none where it is no item's line
abbrev pub IsReading : List ℕ → Option Item → Type 0
IsReading raw result =
    MatchOption result
    ((item : Item) → IsItem item → raw ≢ item_text item)
    (λ item. IsItem item × (raw ≡ item_text item))

-- the last of these records, if there is one, isn't steps of the thread whose steps this one is
abbrev pub Follows : List Record → Record → Type 0
Follows records r = (k : ℕ) (d : Record) → k + 1 ≡ length records → join (slice_index_or records k d) r ≡ false

-- the item may stand behind these records
abbrev pub MayFollow : List Record → Item → Type 0
MayFollow records (Given v) = records ≡ []
MayFollow records (Recorded r) = Follows records r

-- the item stands behind these inputs and records
abbrev pub IsAdded : List ℤ → List Record → Item → List ℤ → List Record → Type 0
IsAdded inputs records (Given v) inputs' records' = (inputs' ≡ inputs ++ v ∷ []) × (records' ≡ records)
IsAdded inputs records (Recorded r) inputs' records' = (inputs' ≡ inputs) × (records' ≡ records ++ r ∷ [])

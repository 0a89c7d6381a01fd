-- The full text of a trace: a line for each input, then one for each record; and the first line that no full text has.
use Rattle.std.specs.Prelude.{◌≡◌, ℕ, ℤ, ◌+◌, ◌^◌, ◌<◌, Bool, true, false, nat_eq, List, [], ◌∷◌, ◌++◌, length, map, slice_index_or, Option, Some, None, Result, Ok, Err}
use Rattle.std.specs.List.{All}
use Rattle.meaning.specs.declared.value.Entry.{Entry}
use Rattle.meaning.specs.declared.value.Entry.TheVariants as entry
use Rattle.meaning.specs.declared.action.Action.{Action}
use Rattle.meaning.specs.declared.action.Action.TheVariants as act
use Rattle.meaning.specs.declared.action.Reply.{Reply}
use Rattle.meaning.specs.declared.action.Reply.TheVariants as reply
use Rattle.meaning.specs.declared.note.Place.{Place}
use Rattle.meaning.specs.declared.note.Place.TheVariants.{At, Slot}
use Rattle.meaning.specs.declared.note.Note.{Note}
use Rattle.meaning.specs.declared.note.Note.TheVariants as note
use Rattle.meaning.specs.declared.record.Record.{Record}
use Rattle.meaning.specs.declared.record.Record.TheVariants.{Steps, Did, Noted, Wrote}
use Rattle.job.specs.Lines.{lines_of}
use Rattle.fields.specs.Numbers.{IsWord}
use Rattle.trace.specs.Records.{TraceView}
use Rattle.trace.specs.Text.{input_text, record_text, run_text}
use Rattle.trace_reader.specs.declared.error.TraceRefusal.{TraceRefusal}
use Rattle.trace_reader.specs.declared.error.TraceRefusal.TheVariants as refusal

-- the lines of a full text: one for each input, then one for each record
abbrev pub full_lines : List ℤ → List Record → List (List ℕ)
full_lines inputs records = map input_text inputs ++ map record_text records

-- ---- the numbers of records are in range

abbrev pub IsEntry : Entry → Type 0
IsEntry (entry.Bare v) = v < 2 ^ 32
IsEntry (entry.Based value lower upper id) = (value < 2 ^ 32) × (lower < 2 ^ 32) × (upper < 2 ^ 32) × (id < 2 ^ 32)
IsEntry (entry.Code f) = f < 2 ^ 32

abbrev pub IsFoundEntry : Option Entry → Type 0
IsFoundEntry None = Unit {0}
IsFoundEntry (Some e) = IsEntry e

abbrev pub IsOptional : ℕ → Option ℕ → Type 0
IsOptional bound None = Unit {0}
IsOptional bound (Some n) = n < bound

-- an action, other than an own one and a halt, with a reply that fits it
abbrev pub IsDeed : Action → Reply → Type 0
IsDeed (act.Get a) (reply.Found e) = (a < 2 ^ 32) × IsFoundEntry e
IsDeed (act.Put a e) reply.Nothing = (a < 2 ^ 32) × IsEntry e
IsDeed (act.Load a) (reply.Word v) = (a < 2 ^ 32) × IsWord v
IsDeed (act.Store a v) reply.Nothing = (a < 2 ^ 32) × IsWord v
IsDeed (act.TryLock a) (reply.Word v) = (a < 2 ^ 32) × IsWord v
IsDeed (act.Alloc k) (reply.Slot s) = (k < 2 ^ 32) × IsOptional (2 ^ 32) s
IsDeed (act.Free i) (reply.Flag b) = i < 2 ^ 32
IsDeed (act.Look i) (reply.Flag b) = i < 2 ^ 32
IsDeed act.Fork (reply.Thread m) = IsOptional (2 ^ 8) m
IsDeed (act.Input k) (reply.Word v) = IsWord k × IsWord v
IsDeed (act.Print v) reply.Nothing = IsWord v
IsDeed _ _ = ⊥

abbrev pub IsPlace : Place → Type 0
IsPlace (At a) = a < 2 ^ 32
IsPlace (Slot depth slot) = (depth < 2 ^ 32) × (slot < 2 ^ 32)

abbrev pub IsNote : Note → Type 0
IsNote (note.Call depth f from) = (depth < 2 ^ 32) × (f < 2 ^ 32) × (from < 2 ^ 32)
IsNote (note.Indirect depth f from place) = (depth < 2 ^ 32) × (f < 2 ^ 32) × (from < 2 ^ 32) × IsPlace place
IsNote (note.Start f at) = (f < 2 ^ 32) × (at < 2 ^ 32)
IsNote (note.Return depth f to) = (depth < 2 ^ 32) × (f < 2 ^ 32) × (to < 2 ^ 32)
IsNote note.End = Unit {0}
IsNote (note.CodeSlot depth slot f) = (depth < 2 ^ 32) × (slot < 2 ^ 32) × (f < 2 ^ 32)
IsNote (note.CodeOwn at f) = (at < 2 ^ 32) × (f < 2 ^ 32)
IsNote (note.Stopped stop) = Unit {0}

-- a record that a trace may have: of a thread below 16, with at least one step where it is steps
abbrev pub IsRecord : Record → Type 0
IsRecord (Steps t n) = (t < 16) × (0 < n) × (n < 2 ^ 64)
IsRecord (Did t action reply) = (t < 16) × IsDeed action reply
IsRecord (Noted t note) = (t < 16) × IsNote note
IsRecord (Wrote a v) = (a < 2 ^ 32) × IsWord v

-- steps of one thread, which a trace has as one record
abbrev pub join : Record → Record → Bool
join (Steps t n) (Steps u m) = nat_eq t u
join _ _ = false

-- inputs and records that a trace may have: no two adjacent records are steps of one thread
pub record IsTrace (inputs : List ℤ) (records : List Record) : Type 0 where
  pub words : All IsWord inputs
  pub each : All IsRecord records
  pub apart : (k : ℕ) (d : Record) → k + 1 < length records → join (slice_index_or records k d) (slice_index_or records (k + 1) d) ≡ false

-- a trace with these inputs and records has this full text
pub record HasFullText (inputs : List ℤ) (records : List Record) (text : List ℕ) : Type 0 where
  pub trace : IsTrace inputs records
  pub text_is : text ≡ run_text true inputs records

-- these are all the lines of a trace's full text
pub record AreFullLines (lines : List (List ℕ)) : Type 0 where
  pub inputs : List ℤ
  pub records : List Record
  pub trace : IsTrace inputs records
  pub lines_are : lines ≡ full_lines inputs records

-- line n, from 1, is the first where the text's lines so far are no trace's full text
pub record IsFirstBad (text : List ℕ) (n : ℕ) : Type 0 where
  pub before : List (List ℕ)
  pub bad : List ℕ
  pub after : List (List ℕ)
  pub split : lines_of text ≡ before ++ bad ∷ after
  pub begins : AreFullLines before
  pub none : AreFullLines (before ++ bad ∷ []) → ⊥
  pub number : n ≡ length before + 1

-- why a text is refused, unless memory ran out
abbrev pub IsRefusal : List ℕ → TraceRefusal → Type 0
IsRefusal text (refusal.Line n) = IsFirstBad text n
IsRefusal text refusal.Memory = Unit {0}

-- what is answered of a text that a trace has as its full text: that trace, unless memory ran out
abbrev pub GivesBack : List ℤ → List Record → Result TraceView TraceRefusal → Type 0
GivesBack inputs records (Ok trace) = (trace.inputs ≡ inputs) × (trace.records ≡ records)
GivesBack inputs records (Err (refusal.Line n)) = ⊥
GivesBack inputs records (Err refusal.Memory) = Unit {0}

-- and of a text with such a line: that line
abbrev pub NamesLine : ℕ → Result TraceView TraceRefusal → Type 0
NamesLine n (Ok trace) = ⊥
NamesLine n (Err (refusal.Line m)) = m ≡ n
NamesLine n (Err refusal.Memory) = Unit {0}

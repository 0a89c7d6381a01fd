-- The text of records: one line each, ended by LF, its fields split by one space.
use Rattle.std.specs.Prelude.{ℕ, ℤ, ◌++◌, ◌||◌, Bool, true, false, List, [], ◌∷◌, Option, Some, None, codes, decimal, filter}
use Rattle.std.specs.List.{flat_map}
use Rattle.std.specs.Fmt.{signed_decimal}
use Rattle.meaning.specs.declared.value.Entry.{Entry}
use Rattle.meaning.specs.declared.value.Entry.TheVariants as entry
use Rattle.meaning.specs.declared.value.Check.{Check}
use Rattle.meaning.specs.declared.value.Check.TheVariants.{Bounds, Dead, NoBase, NotCode, WrongType, BadFree}
use Rattle.meaning.specs.declared.value.Stop.{Stop}
use Rattle.meaning.specs.declared.value.Stop.TheVariants.{Failed, Divide, Depth, Slots, Budget, Hijack, Wild}
use Rattle.meaning.specs.declared.action.Action.{Action}
use Rattle.meaning.specs.declared.action.Action.TheVariants as act
use Rattle.meaning.specs.declared.action.Reply.{Reply}
use Rattle.meaning.specs.declared.action.Reply.TheVariants as reply
use Rattle.meaning.specs.declared.note.Place.{Place}
use Rattle.meaning.specs.declared.note.Place.TheVariants.{At, Slot}
use Rattle.meaning.specs.declared.note.Note.{Note}
use Rattle.meaning.specs.declared.note.Note.TheVariants as note
use Rattle.meaning.specs.declared.record.Record.{Record}
use Rattle.meaning.specs.declared.record.Record.TheVariants.{Steps, Did, Noted, Wrote}

-- the fields of a line
abbrev pub Fields : Type 0
Fields = List (List ℕ)

-- a field after fields, and the LF behind the last
abbrev pub spaced : Fields → List ℕ
spaced fields = flat_map (λ field. 32 ∷ field) fields

abbrev pub line : List ℕ → Fields → List ℕ
line first fields = first ++ spaced fields ++ 10 ∷ []

abbrev pub entry_fields : Option Entry → Fields
entry_fields None = codes "none" ∷ []
entry_fields (Some (entry.Bare v)) = codes "bare" ∷ decimal v ∷ []
entry_fields (Some (entry.Based value lower upper id)) =
    codes "based" ∷ decimal value ∷ decimal lower ∷ decimal upper ∷ decimal id ∷ []
entry_fields (Some (entry.Code f)) = codes "code" ∷ decimal f ∷ []

abbrev pub flag_field : Bool → List ℕ
flag_field true = codes "yes"
flag_field false = codes "no"

abbrev pub option_field : Option ℕ → List ℕ
option_field None = codes "none"
option_field (Some n) = decimal n

-- an action with its reply; a pair that no turn makes has no fields
abbrev pub did_fields : Action → Reply → Fields
did_fields (act.Get a) (reply.Found e) = codes "get" ∷ decimal a ∷ entry_fields e
did_fields (act.Put a e) reply.Nothing = codes "put" ∷ decimal a ∷ entry_fields (Some e)
did_fields (act.Alloc k) (reply.Slot s) = codes "alloc" ∷ decimal k ∷ option_field s ∷ []
did_fields (act.Free i) (reply.Flag b) = codes "free" ∷ decimal i ∷ flag_field b ∷ []
did_fields (act.Look i) (reply.Flag b) = codes "look" ∷ decimal i ∷ flag_field b ∷ []
did_fields act.Fork (reply.Thread m) = codes "fork" ∷ option_field m ∷ []
did_fields (act.Load a) (reply.Word v) = codes "load" ∷ decimal a ∷ signed_decimal v ∷ []
did_fields (act.Store a v) reply.Nothing = codes "store" ∷ decimal a ∷ signed_decimal v ∷ []
did_fields (act.TryLock a) (reply.Word v) = codes "lock" ∷ decimal a ∷ signed_decimal v ∷ []
did_fields (act.Input k) (reply.Word v) = codes "input" ∷ signed_decimal k ∷ signed_decimal v ∷ []
did_fields (act.Print v) reply.Nothing = codes "print" ∷ signed_decimal v ∷ []
did_fields _ _ = []

abbrev pub place_fields : Place → Fields
place_fields (At a) = codes "at" ∷ decimal a ∷ []
place_fields (Slot depth slot) = codes "slot" ∷ decimal depth ∷ decimal slot ∷ []

abbrev pub check_field : Check → List ℕ
check_field Bounds = codes "bounds"
check_field Dead = codes "dead"
check_field NoBase = codes "bare"
check_field NotCode = codes "code"
check_field WrongType = codes "type"
check_field BadFree = codes "free"

abbrev pub stop_field : Stop → List ℕ
stop_field (Failed check) = check_field check
stop_field Divide = codes "divide"
stop_field Depth = codes "depth"
stop_field Slots = codes "slots"
stop_field Budget = codes "budget"
stop_field Hijack = codes "hijack"
stop_field Wild = codes "wild"

abbrev pub note_fields : Note → Fields
note_fields (note.Call depth f from) = codes "call" ∷ decimal depth ∷ decimal f ∷ decimal from ∷ []
note_fields (note.Indirect depth f from place) =
    codes "icall" ∷ decimal depth ∷ decimal f ∷ decimal from ∷ place_fields place
note_fields (note.Start f at) = codes "start" ∷ decimal f ∷ codes "at" ∷ decimal at ∷ []
note_fields (note.Return depth f to) = codes "return" ∷ decimal depth ∷ decimal f ∷ decimal to ∷ []
note_fields note.End = codes "end" ∷ []
note_fields (note.CodeSlot depth slot f) = codes "slot" ∷ decimal depth ∷ decimal slot ∷ decimal f ∷ []
note_fields (note.CodeOwn at f) = codes "own" ∷ decimal at ∷ decimal f ∷ []
note_fields (note.Stopped stop) = codes "stop" ∷ stop_field stop ∷ []

-- a record's line
abbrev pub record_text : Record → List ℕ
record_text (Steps t n) = line (decimal t) (codes "steps" ∷ decimal n ∷ [])
record_text (Did t action reply) = line (decimal t) (did_fields action reply)
record_text (Noted t note) = line (decimal t) (note_fields note)
record_text (Wrote a v) = line (codes "w") (decimal a ∷ signed_decimal v ∷ [])

-- code values that stay on the safe stack are in the full text alone
abbrev pub is_transfer : Note → Bool
is_transfer (note.CodeSlot depth slot f) = false
is_transfer (note.CodeOwn at f) = false
is_transfer _ = true

abbrev pub is_output : Action → Bool
is_output (act.Print v) = true
is_output _ = false

-- what the brief text shows: output, transfers of control, stops and corruptions
abbrev pub is_brief : Record → Bool
is_brief (Steps t n) = false
is_brief (Did t action reply) = is_output action
is_brief (Noted t note) = is_transfer note
is_brief (Wrote a v) = true

-- the text of records, in full or in brief
abbrev pub trace_text : Bool → List Record → List ℕ
trace_text full records = flat_map record_text (filter (λ r. full || is_brief r) records)

-- the line of an input
abbrev pub input_text : ℤ → List ℕ
input_text v = line (codes "in") (signed_decimal v ∷ [])

-- the text of a run's inputs and records: the full text begins with the inputs, the brief one has none
abbrev pub run_text : Bool → List ℤ → List Record → List ℕ
run_text true inputs records = flat_map input_text inputs ++ trace_text true records
run_text false inputs records = trace_text false records

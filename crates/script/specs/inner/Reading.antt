-- What the reader of a script answers.
use Rattle.std.specs.Prelude.{◌≡◌, ◌≢◌, ℕ, cond, List, [], ◌∷◌, take, drop, codes, decimal, Option, Some, MatchOption}
use Rattle.std.specs.Fmt.{signed_decimal}
use Rattle.std.specs.Option.{option_map}
use Rattle.std.specs.Str.{bytes_eq}
use Rattle.fields.specs.Fields.{fields_of}
use Rattle.fields.specs.Reading.{Fields, Outcome, Reader, ◌>>=◌, ◌>>◌, pure, mismatch, field, small, within, word, end}
use Rattle.script.specs.declared.grammar.Line.{Line as Read}
use Rattle.script.specs.declared.grammar.Line.TheVariants as read
use Rattle.script.specs.Script.{Line, Empty, Comment, Turns, Rounds, Write, Input, line_text, greatest_turns}

-- what a line that is read says
abbrev pub line_of : Read → Line
line_of read.Empty = Empty
line_of (read.Comment text) = Comment text.now
line_of (read.Turns thread turns) = Turns thread turns
line_of (read.Rounds threads rounds) = Rounds threads rounds
line_of (read.Write address word) = Write address word
line_of (read.Input word) = Input word

-- a line's fields
abbrev pub line_fields : Line → Fields
line_fields Empty = [] ∷ []
line_fields (Comment text) = (35 ∷ text) ∷ []
line_fields (Turns thread turns) = codes "t" ∷ decimal thread ∷ decimal turns ∷ []
line_fields (Rounds threads rounds) = codes "rr" ∷ decimal threads ∷ decimal rounds ∷ []
line_fields (Write address word) = codes "w" ∷ decimal address ∷ signed_decimal word ∷ []
line_fields (Input word) = codes "in" ∷ signed_decimal word ∷ []

-- the forms, behind their first field
unfoldable pub turns_in : Reader Line
turns_in = do
  thread ← within 0 15
  turns ← within 0 greatest_turns
  end >> pure (Turns thread turns)

unfoldable pub rounds_in : Reader Line
rounds_in = do
  threads ← within 1 16
  rounds ← within 0 greatest_turns
  end >> pure (Rounds threads rounds)

unfoldable pub write_in : Reader Line
write_in = do
  address ← small
  written ← word
  end >> pure (Write address written)

unfoldable pub input_in : Reader Line
input_in = do
  given ← word
  end >> pure (Input given)

-- the form that a first field begins
unfoldable pub datum_in : List ℕ → Reader Line
datum_in first = cond (bytes_eq first (codes "w")) write_in (cond (bytes_eq first (codes "in")) input_in mismatch)

unfoldable pub form_in : List ℕ → Reader Line
form_in first =
    cond (bytes_eq first []) (end >> pure Empty)
    (cond (bytes_eq first (codes "t")) turns_in (cond (bytes_eq first (codes "rr")) rounds_in (datum_in first)))

unfoldable pub fields_in : Reader Line
fields_in = field >>= form_in

abbrev pub answer : {A : Type 0} → Outcome A → Option A
answer outcome = option_map (λ p. p.0) outcome

-- a text as a line
unfoldable pub line_in : List ℕ → Option Line
line_in text = cond (bytes_eq (take 1 text) (codes "#")) (Some (Comment (drop 1 text))) (answer (fields_in (fields_of text)))

-- the line that a text is read as, or none where it is no line that may stand there
abbrev pub IsReading : (Line → Type 0) → List ℕ → Option Read → Type 0
IsReading May text result =
    MatchOption result
    ((line : Line) → May line → text ≢ line_text line)
    (λ read. May (line_of read) × (text ≡ line_text (line_of read)))

-- The lines of a script, and the inputs and events that they give.
use Rattle.std.specs.Prelude.{◌≡◌, ◌≢◌, ℕ, zero, suc, ℤ, ◌+◌, ◌*◌, ◌^◌, ◌<◌, ◌≤◌, List, [], ◌∷◌, ◌++◌, length, map, codes, decimal, replicate, Result, Ok, Err}
use Rattle.std.specs.Fmt.{signed_decimal}
use Rattle.std.specs.List.{All, flat_map}
use Rattle.meaning.specs.declared.event.Event.{Event}
use Rattle.meaning.specs.declared.event.Event.TheVariants.{Turn, Corrupt}
use Rattle.job.specs.Lines.{lines_of, content}
use Rattle.fields.specs.Fields.{spaced}
use Rattle.fields.specs.Numbers.{IsWord}
use Rattle.script.specs.declared.error.ScriptRefusal.{ScriptRefusal}
use Rattle.script.specs.declared.error.ScriptRefusal.TheVariants as refusal
use Rattle.script.specs.declared.read.Script.{Script}

-- A line of a script.
pub data Line : Type 0 where
  Empty : Line
  -- `#` and any bytes
  Comment : (text : List ℕ) → Line
  -- `t T K`: so many turns of a thread
  Turns : (thread turns : ℕ) → Line
  -- `rr N K`: so many rounds, each one turn of each of the first threads
  Rounds : (threads rounds : ℕ) → Line
  -- `w A V`: word V at address A
  Write : (address : ℕ) (word : ℤ) → Line
  -- `in V`: the next input
  Input : (word : ℤ) → Line

abbrev pub line_text : Line → List ℕ
line_text Empty = []
line_text (Comment text) = codes "#" ++ text
line_text (Turns thread turns) = codes "t" ++ spaced (decimal thread ∷ decimal turns ∷ [])
line_text (Rounds threads rounds) = codes "rr" ++ spaced (decimal threads ∷ decimal rounds ∷ [])
line_text (Write address word) = codes "w" ++ spaced (decimal address ∷ signed_decimal word ∷ [])
line_text (Input word) = codes "in" ++ spaced (signed_decimal word ∷ [])

abbrev pub greatest_turns : ℕ
greatest_turns = 4000000

-- the numbers of a line are in range
abbrev pub IsLine : Line → Type 0
IsLine Empty = Unit {0}
IsLine (Comment text) = Unit {0}
IsLine (Turns thread turns) = (thread < 16) × (turns ≤ greatest_turns)
IsLine (Rounds threads rounds) = (0 < threads) × (threads ≤ 16) × (rounds ≤ greatest_turns)
IsLine (Write address word) = (address < 2 ^ 32) × IsWord word
IsLine (Input word) = IsWord word

-- a line that may stand where there are inputs alone
abbrev pub IsInputLine : Line → Type 0
IsInputLine Empty = Unit {0}
IsInputLine (Comment text) = Unit {0}
IsInputLine (Input word) = IsWord word
IsInputLine _ = ⊥

-- one turn of each of the first threads, in order
abbrev pub round : ℕ → List Event
round zero = []
round (suc n) = round n ++ Turn n ∷ []

-- so many rounds of so many threads
abbrev pub rounds_of : ℕ → ℕ → List Event
rounds_of threads zero = []
rounds_of threads (suc n) = rounds_of threads n ++ round threads

abbrev pub line_events : Line → List Event
line_events (Turns thread turns) = replicate turns (Turn thread)
line_events (Rounds threads rounds) = rounds_of threads rounds
line_events (Write address word) = Corrupt address word ∷ []
line_events _ = []

abbrev pub line_inputs : Line → List ℤ
line_inputs (Input word) = word ∷ []
line_inputs _ = []

abbrev pub line_turns : Line → ℕ
line_turns (Turns thread turns) = turns
line_turns (Rounds threads rounds) = threads * rounds
line_turns _ = 0

abbrev pub turns_of : List Line → ℕ
turns_of [] = 0
turns_of (line ∷ lines) = line_turns line + turns_of lines

-- what the lines of the script say, in order, each a line that may stand there
pub record AreLinesOf (May : Line → Type 0) (script : List ℕ) (lines : List Line) : Type 0 where
  pub texts : map content (lines_of script) ≡ map line_text lines
  pub each : All May lines

-- the script is lines with these inputs and events, and at most the greatest number of turns
pub record IsScript (script : List ℕ) (inputs : List ℤ) (events : List Event) : Type 0 where
  pub lines : List Line
  pub said : AreLinesOf IsLine script lines
  pub short : turns_of lines ≤ greatest_turns
  pub inputs_are : inputs ≡ flat_map line_inputs lines
  pub events_are : events ≡ flat_map line_events lines

-- the script is lines that may stand where there are inputs alone, with these inputs
pub record AreInputs (script : List ℕ) (inputs : List ℤ) : Type 0 where
  pub lines : List Line
  pub said : AreLinesOf IsInputLine script lines
  pub inputs_are : inputs ≡ flat_map line_inputs lines

-- line n, from 1, is the first that isn't a line which may stand there
pub record IsFirstBad (May : Line → Type 0) (script : List ℕ) (n : ℕ) : Type 0 where
  pub before : List (List ℕ)
  pub bad : List ℕ
  pub after : List (List ℕ)
  pub lines : lines_of script ≡ before ++ bad ∷ after
  pub each : All (λ raw. (line : Line) × May line × (content raw ≡ line_text line)) before
  pub none : (line : Line) → May line → content bad ≢ line_text line
  pub number : n ≡ length before + 1

-- each line is one, and there are more turns than the greatest number
pub record IsTooLong (script : List ℕ) : Type 0 where
  pub lines : List Line
  pub said : AreLinesOf IsLine script lines
  pub long : greatest_turns < turns_of lines

-- what a script has: inputs and events, a first line that is none, or too many turns
abbrev pub Has : List ℕ → Result Script ScriptRefusal → Type 0
Has script (Ok s) = IsScript script s.inputs s.events
Has script (Err (refusal.Line n)) = IsFirstBad IsLine script n
Has script (Err refusal.TooLong) = IsTooLong script
Has script (Err refusal.Memory) = ⊥

-- why a script is refused, unless memory ran out
abbrev pub IsRefusal : List ℕ → ScriptRefusal → Type 0
IsRefusal script refusal.Memory = Unit {0}
IsRefusal script other = Has script (Err other)

-- what a script of inputs alone has: inputs, or a first line that is none of them
abbrev pub HasInputs : List ℕ → Result (List ℤ) ScriptRefusal → Type 0
HasInputs script (Ok inputs) = AreInputs script inputs
HasInputs script (Err (refusal.Line n)) = IsFirstBad IsInputLine script n
HasInputs script (Err refusal.TooLong) = ⊥
HasInputs script (Err refusal.Memory) = ⊥

abbrev pub RefusesInputs : List ℕ → ScriptRefusal → Type 0
RefusesInputs script refusal.Memory = Unit {0}
RefusesInputs script other = HasInputs script (Err other)

-- The lines of a script are read one after another: what is said before a place, and the first line that is none.
use Rattle.std.proofs.Common.{◌≡◌, ◌≢◌, ℕ, ℤ, ◌+◌, ◌*◌, ◌<◌, ◌≤◌, true, List, [], ◌∷◌, ◌++◌, length, map, take, drop, refl, sym, ap, ◌∙◌, arith, Result, Ok, Err, OnOk, append_assoc}
use Rattle.std.specs.Result.{is_ok}
use Rattle.std.specs.List.{All, flat_map}
use Rattle.std.proofs.lemmas.Bool.{false≢true}
use Rattle.std.proofs.lemmas.List.{append-nil, map_push, length-drop, length_push}
use Rattle.std.proofs.lemmas.Nat.{mul-le}
use Rattle.std.proofs.lemmas.List.Concat.{flat_map-append}
use Rattle.std.proofs.lemmas.List.Elements.{All-nil, All-push}
use Rattle.meaning.specs.declared.event.Event.{Event}
use Rattle.job.specs.Lines.{lines_of, content}
use Rattle.script.specs.Script.{Line, Empty, Comment, Turns, Rounds, Write, Input, IsLine, IsInputLine, line_text, line_events, line_inputs, line_turns, turns_of, greatest_turns, IsFirstBad, AreLinesOf, AreInputs}
use Rattle.script.specs.inner.Says.{Says}
use Rattle.script.proofs.OneAnswer.{said_each}

pub at_ok : {T E P : Type 0} (r : Result T E) → is_ok r ≡ true → OnOk r P → P
at_ok (Ok x) ok p = p
at_ok (Err e) ok p = absurd (false≢true ok)

-- What is read of a script before the rest: so many lines, each of which may stand there.
pub record Read (May : Line → Type 0) (script rest : List ℕ) (number : ℕ) (lines : List Line) : Type 0 where
  pub before : List (List ℕ)
  pub split : lines_of script ≡ before ++ lines_of rest
  pub texts : map content before ≡ map line_text lines
  pub each : All May lines
  pub number_is : number ≡ length before
  pub room : number + length rest ≤ length script

read_none : (May : Line → Type 0) (script : List ℕ) → Read May script script 0 []
read_none May script = record {
  before = [];
  split = refl;
  texts = refl;
  each = All-nil May;
  number_is = refl;
  room = omega arith;
}

-- one more line
read_more : (May : Line → Type 0) (script rest : List ℕ) (number : ℕ) (lines : List Line) → Read May script rest number lines → (len : ℕ) → lines_of rest ≡ take len rest ∷ lines_of (drop len rest) → 0 < len → len ≤ length rest → (line : Line) → May line → content (take len rest) ≡ line_text line → Read May script (drop len rest) (number + 1) (lines ++ line ∷ [])
read_more May script rest number lines r len first some fits line may text =
    let raw = take len rest in
    record {
      before = r.before ++ raw ∷ [];
      split = r.split ∙ ap (λ t. r.before ++ t) first ∙ sym (append_assoc r.before (raw ∷ []) (lines_of (drop len rest)));
      texts = map_push content r.before raw ∙ ap (λ t. t ++ content raw ∷ []) r.texts ∙ ap (λ t. map line_text lines ++ t ∷ []) text ∙ sym (map_push line_text lines line);
      each = All-push May lines line r.each may;
      number_is = ap (λ n. n + 1) r.number_is ∙ sym (length_push r.before raw);
      room = omega (arith, r.room, length-drop len rest);
    }

-- the next line is the first that is none
read_bad : (May : Line → Type 0) (script rest : List ℕ) (number : ℕ) (lines : List Line) → Read May script rest number lines → (len : ℕ) → lines_of rest ≡ take len rest ∷ lines_of (drop len rest) → ((line : Line) → May line → content (take len rest) ≢ line_text line) → IsFirstBad May script (number + 1)
read_bad May script rest number lines r len first none = record {
  before = r.before;
  bad = take len rest;
  after = lines_of (drop len rest);
  lines = r.split ∙ ap (λ t. r.before ++ t) first;
  each = said_each May r.before lines r.texts r.each;
  none = none;
  number = ap (λ n. n + 1) r.number_is;
}

-- nothing is left
read_all : (May : Line → Type 0) (script : List ℕ) (number : ℕ) (lines : List Line) → Read May script [] number lines → AreLinesOf May script lines
read_all May script number lines r = record { texts = ap (map content) (r.split ∙ append-nil r.before) ∙ r.texts; each = r.each }

-- what one more line gives
push_each : {A : Type 0} (f : Line → List A) (lines : List Line) (line : Line) (now next : List A) → now ≡ flat_map f lines → next ≡ now ++ f line → next ≡ flat_map f (lines ++ line ∷ [])
push_each f lines line now next is more =
    more ∙ ap (λ t. t ++ f line) is ∙ sym (flat_map-append f lines (line ∷ []) ∙ ap (λ t. flat_map f lines ++ t) (append-nil (f line)))

turns_of_push : (lines : List Line) (line : Line) → turns_of (lines ++ line ∷ []) ≡ turns_of lines + line_turns line
turns_of_push [] line = omega arith
turns_of_push (x ∷ lines) line = omega (arith, turns_of_push lines line)

pub line_turns_le : (line : Line) → IsLine line → line_turns line ≤ 64000000
line_turns_le Empty is = omega arith
line_turns_le (Comment text) is = omega arith
line_turns_le (Turns thread turns) is = omega (arith, is.1)
line_turns_le (Rounds threads rounds) is = mul-le threads rounds 16 greatest_turns is.1 is.2
line_turns_le (Write a v) is = omega arith
line_turns_le (Input v) is = omega arith

-- ---- a whole script

-- what is read of a script before the rest, with these inputs, events and turns
pub record ReadScript (script rest : List ℕ) (number : ℕ) (inputs : List ℤ) (events : List Event) (turns : ℕ) : Type 0 where
  pub lines : List Line
  pub read : Read IsLine script rest number lines
  pub inputs_are : inputs ≡ flat_map line_inputs lines
  pub events_are : turns ≤ greatest_turns → events ≡ flat_map line_events lines
  pub turns_are : turns ≡ turns_of lines
  pub few : turns ≤ 64000000 * number

pub script_none : (script : List ℕ) → ReadScript script script 0 [] [] 0
script_none script = record {
  lines = [];
  read = read_none IsLine script;
  inputs_are = refl;
  events_are = λ _. refl;
  turns_are = refl;
  few = omega arith;
}

pub script_more : (script rest : List ℕ) (number : ℕ) (inputs : List ℤ) (events : List Event) (turns : ℕ) → ReadScript script rest number inputs events turns → (len : ℕ) → lines_of rest ≡ take len rest ∷ lines_of (drop len rest) → 0 < len → len ≤ length rest → (line : Line) → IsLine line → content (take len rest) ≡ line_text line → (inputs' : List ℤ) (events' : List Event) (turns' : ℕ) → inputs' ≡ inputs ++ line_inputs line → (turns' ≤ greatest_turns → events' ≡ events ++ line_events line) → turns' ≡ turns + line_turns line → ReadScript script (drop len rest) (number + 1) inputs' events' turns'
script_more script rest number inputs events turns r len first some fits line is text inputs' events' turns' inputs_more events_more sum = record {
  lines = r.lines ++ line ∷ [];
  read = read_more IsLine script rest number r.lines r.read len first some fits line is text;
  inputs_are = push_each line_inputs r.lines line inputs inputs' r.inputs_are inputs_more;
  events_are = λ short. push_each line_events r.lines line events events' (r.events_are (omega arith)) (events_more short);
  turns_are = sum ∙ ap (λ n. n + line_turns line) r.turns_are ∙ sym (turns_of_push r.lines line);
  few = omega (arith, r.few, line_turns_le line is);
}

pub script_bad : (script rest : List ℕ) (number : ℕ) (inputs : List ℤ) (events : List Event) (turns : ℕ) → ReadScript script rest number inputs events turns → (len : ℕ) → lines_of rest ≡ take len rest ∷ lines_of (drop len rest) → ((line : Line) → IsLine line → content (take len rest) ≢ line_text line) → IsFirstBad IsLine script (number + 1)
script_bad script rest number inputs events turns r = read_bad IsLine script rest number r.lines r.read

pub script_all : (script : List ℕ) (number : ℕ) (inputs : List ℤ) (events : List Event) (turns : ℕ) → ReadScript script [] number inputs events turns → Says script inputs events turns
script_all script number inputs events turns r = record {
  lines = r.lines;
  said = read_all IsLine script number r.lines r.read;
  inputs_are = r.inputs_are;
  turns_are = r.turns_are;
  events_are = r.events_are;
}

-- ---- inputs alone

pub record ReadInputs (script rest : List ℕ) (number : ℕ) (inputs : List ℤ) : Type 0 where
  pub lines : List Line
  pub read : Read IsInputLine script rest number lines
  pub inputs_are : inputs ≡ flat_map line_inputs lines

pub inputs_none : (script : List ℕ) → ReadInputs script script 0 []
inputs_none script = record { lines = []; read = read_none IsInputLine script; inputs_are = refl }

pub inputs_more : (script rest : List ℕ) (number : ℕ) (inputs : List ℤ) → ReadInputs script rest number inputs → (len : ℕ) → lines_of rest ≡ take len rest ∷ lines_of (drop len rest) → 0 < len → len ≤ length rest → (line : Line) → IsInputLine line → content (take len rest) ≡ line_text line → (inputs' : List ℤ) → inputs' ≡ inputs ++ line_inputs line → ReadInputs script (drop len rest) (number + 1) inputs'
inputs_more script rest number inputs r len first some fits line is text inputs' more = record {
  lines = r.lines ++ line ∷ [];
  read = read_more IsInputLine script rest number r.lines r.read len first some fits line is text;
  inputs_are = push_each line_inputs r.lines line inputs inputs' r.inputs_are more;
}

pub inputs_bad : (script rest : List ℕ) (number : ℕ) (inputs : List ℤ) → ReadInputs script rest number inputs → (len : ℕ) → lines_of rest ≡ take len rest ∷ lines_of (drop len rest) → ((line : Line) → IsInputLine line → content (take len rest) ≢ line_text line) → IsFirstBad IsInputLine script (number + 1)
inputs_bad script rest number inputs r = read_bad IsInputLine script rest number r.lines r.read

pub inputs_all : (script : List ℕ) (number : ℕ) (inputs : List ℤ) → ReadInputs script [] number inputs → AreInputs script inputs
inputs_all script number inputs r = record {
  lines = r.lines;
  said = read_all IsInputLine script number r.lines r.read;
  inputs_are = r.inputs_are;
}

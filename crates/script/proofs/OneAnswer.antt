-- A script has one answer: its lines are determined, and with them what it gives, its first bad line or its length.
use Rattle.std.proofs.Common.{◌≡◌, ℕ, ℤ, ◌+◌, ◌<◌, List, [], ◌∷◌, length, map, get_or, refl, sym, ap, ◌∙◌, arith, Result, Ok, Err, IfOk, IfErr, inl, inr, ◌⊎◌, ⊎_elim}
use Rattle.std.specs.List.{All, AllByRecursion, flat_map}
use Rattle.std.proofs.lemmas.Bool.{cases_order}
use Rattle.std.proofs.lemmas.List.{length-map, length-append, get_or-map, get_or_at, get_or_append_left}
use Rattle.std.proofs.lemmas.List.Elements.{recursion_from_All, All-weaker}
use Rattle.meaning.specs.declared.event.Event.{Event}
use Rattle.job.specs.Lines.{lines_of, content}
use Rattle.script.specs.Script.{Line, Empty, IsLine, IsInputLine, line_text, line_events, line_inputs, turns_of, AreLinesOf, IsScript, AreInputs, IsFirstBad, IsTooLong, Has, IsRefusal, HasInputs, RefusesInputs}
use Rattle.script.specs.declared.error.ScriptRefusal.{ScriptRefusal}
use Rattle.script.specs.declared.error.ScriptRefusal.TheVariants as refusal
use Rattle.script.specs.declared.read.Script.{Script}
use Rattle.script.proofs.EffectLemmas.{input_line_is}

-- what the lines before a place say, one by one
pub said_each : (May : Line → Type 0) (before : List (List ℕ)) (lines : List Line) → map content before ≡ map line_text lines → All May lines → (k : ℕ) (d : List ℕ) → k < length before → (line : Line) × May line × (content (get_or before k d) ≡ line_text line)
said_each May before lines texts each k d below =
    let len : length before ≡ length lines = sym (length-map before content) ∙ ap length texts ∙ length-map lines line_text in
    let within : k < length lines = omega arith in (
      get_or lines k Empty,
      each k Empty within,
      sym (get_or-map content before k d [] below) ∙ ap (λ t. get_or t k []) texts ∙ get_or-map line_text lines k Empty [] within,
    )

-- a script with a bad line isn't lines that may stand there
bad_or_said : (May : Line → Type 0) (script : List ℕ) (n : ℕ) (lines : List Line) → IsFirstBad May script n → AreLinesOf May script lines → ⊥
bad_or_said May script n lines b a =
    let k = length b.before in
    let within : k < length (lines_of script) = omega (arith, ap length b.lines, length-append b.before (b.bad ∷ b.after)) in
    let found = said_each May (lines_of script) lines a.texts a.each k [] within in
    let here : get_or (lines_of script) k [] ≡ b.bad = ap (λ t. get_or t k []) b.lines ∙ get_or_at b.before b.bad b.after [] k refl in
    b.none found.0 found.1 (ap content (sym here) ∙ found.2)

not_earlier : (May : Line → Type 0) (script : List ℕ) (m n : ℕ) (a : IsFirstBad May script m) (b : IsFirstBad May script n) → length a.before < length b.before → ⊥
not_earlier May script m n a b below =
    let k = length a.before in
    let here : get_or b.before k [] ≡ a.bad =
    sym (get_or_append_left b.before (b.bad ∷ b.after) [] k below) ∙ ap (λ t. get_or t k []) (sym b.lines ∙ a.lines) ∙ get_or_at a.before a.bad a.after [] k refl in
    let found = b.each k [] below in
    a.none found.0 found.1 (ap content (sym here) ∙ found.2)

one_bad : (May : Line → Type 0) (script : List ℕ) (m n : ℕ) → IsFirstBad May script m → IsFirstBad May script n → m ≡ n
one_bad May script m n a b =
    ⊎_elim (λ same. a.number ∙ ap (λ k. k + 1) same ∙ sym b.number)
    (λ apart. absurd (⊎_elim (λ below. not_earlier May script m n a b below) (λ above. not_earlier May script n m b a above) apart))
    (cases_order (length a.before) (length b.before))

script_of : List ℤ → List Event → Script
script_of inputs events = record { inputs = inputs; events = events }

script_is : (s : Script) (inputs : List ℤ) (events : List Event) → s.inputs ≡ inputs → s.events ≡ events → s ≡ script_of inputs events
unfolding script_of
script_is s inputs events a b = ap (λ i. script_of i s.events) a ∙ ap (script_of inputs) b

-- where one text says one line
module _ (one_line : (x y : Line) → IsLine x → IsLine y → line_text x ≡ line_text y → x ≡ y) where
  same_lines : (xs ys : List Line) → AllByRecursion IsLine xs → AllByRecursion IsLine ys → map line_text xs ≡ map line_text ys → xs ≡ ys
  same_lines [] [] a b is = refl
  same_lines [] (y ∷ ys) a b is = cc
  same_lines (x ∷ xs) [] a b is = cc
  same_lines (x ∷ xs) (y ∷ ys) a b is =
      let head : line_text x ≡ line_text y = cc in
      let tail : map line_text xs ≡ map line_text ys = cc in
      let first : x ≡ y = one_line x y a.0 b.0 head in
      let rest : xs ≡ ys = same_lines xs ys a.1 b.1 tail in
      cc

  -- the lines of a script are determined
  one_reading : (script : List ℕ) (xs ys : List Line) → AreLinesOf IsLine script xs → AreLinesOf IsLine script ys → xs ≡ ys
  one_reading script xs ys a b = same_lines xs ys (recursion_from_All IsLine xs a.each) (recursion_from_All IsLine ys b.each) (sym a.texts ∙ b.texts)

  as_lines : (script : List ℕ) (lines : List Line) → AreLinesOf IsInputLine script lines → AreLinesOf IsLine script lines
  as_lines script lines a = record { texts = a.texts; each = All-weaker IsInputLine IsLine input_line_is lines a.each }

  one_script : (script : List ℕ) (s t : Script) → IsScript script s.inputs s.events → IsScript script t.inputs t.events → s ≡ t
  one_script script s t a b =
      let lines : a.lines ≡ b.lines = one_reading script a.lines b.lines a.said b.said in
      let inputs : s.inputs ≡ t.inputs = a.inputs_are ∙ ap (flat_map line_inputs) lines ∙ sym b.inputs_are in
      let events : s.events ≡ t.events = a.events_are ∙ ap (flat_map line_events) lines ∙ sym b.events_are in
      script_is s t.inputs t.events inputs events ∙ sym (script_is t t.inputs t.events refl refl)

  one_inputs : (script : List ℕ) (xs ys : List ℤ) → AreInputs script xs → AreInputs script ys → xs ≡ ys
  one_inputs script xs ys a b =
      a.inputs_are ∙ ap (flat_map line_inputs) (one_reading script a.lines b.lines (as_lines script a.lines a.said) (as_lines script b.lines b.said)) ∙ sym b.inputs_are

  short_or_long : (script : List ℕ) (inputs : List ℤ) (events : List Event) → IsScript script inputs events → IsTooLong script → ⊥
  short_or_long script inputs events a b =
      let same = ap turns_of (one_reading script a.lines b.lines a.said b.said) in
      omega (arith, a.short, b.long)

  -- a script has one answer
  pub one_answer : (script : List ℕ) (a b : Result Script ScriptRefusal) → Has script a → Has script b → a ≡ b
  one_answer script (Ok s) (Ok t) a b = ap Ok (one_script script s t a b)
  one_answer script (Ok s) (Err (refusal.Line n)) a b = absurd (bad_or_said IsLine script n a.lines b a.said)
  one_answer script (Ok s) (Err refusal.TooLong) a b = absurd (short_or_long script s.inputs s.events a b)
  one_answer script (Ok s) (Err refusal.Memory) a b = absurd b
  one_answer script (Err (refusal.Line n)) (Ok t) a b = absurd (bad_or_said IsLine script n b.lines a b.said)
  one_answer script (Err (refusal.Line m)) (Err (refusal.Line n)) a b = ap (λ k. Err (refusal.Line k)) (one_bad IsLine script m n a b)
  one_answer script (Err (refusal.Line n)) (Err refusal.TooLong) a b = absurd (bad_or_said IsLine script n b.lines a b.said)
  one_answer script (Err (refusal.Line n)) (Err refusal.Memory) a b = absurd b
  one_answer script (Err refusal.TooLong) (Ok t) a b = absurd (short_or_long script t.inputs t.events b a)
  one_answer script (Err refusal.TooLong) (Err (refusal.Line n)) a b = absurd (bad_or_said IsLine script n a.lines b a.said)
  one_answer script (Err refusal.TooLong) (Err refusal.TooLong) a b = refl
  one_answer script (Err refusal.TooLong) (Err refusal.Memory) a b = absurd b
  one_answer script (Err refusal.Memory) b h i = absurd h

  pub one_inputs_answer : (script : List ℕ) (a b : Result (List ℤ) ScriptRefusal) → HasInputs script a → HasInputs script b → a ≡ b
  one_inputs_answer script (Ok xs) (Ok ys) a b = ap Ok (one_inputs script xs ys a b)
  one_inputs_answer script (Ok xs) (Err (refusal.Line n)) a b = absurd (bad_or_said IsInputLine script n a.lines b a.said)
  one_inputs_answer script (Ok xs) (Err refusal.TooLong) a b = absurd b
  one_inputs_answer script (Ok xs) (Err refusal.Memory) a b = absurd b
  one_inputs_answer script (Err (refusal.Line n)) (Ok ys) a b = absurd (bad_or_said IsInputLine script n b.lines a b.said)
  one_inputs_answer script (Err (refusal.Line m)) (Err (refusal.Line n)) a b = ap (λ k. Err (refusal.Line k)) (one_bad IsInputLine script m n a b)
  one_inputs_answer script (Err (refusal.Line n)) (Err refusal.TooLong) a b = absurd b
  one_inputs_answer script (Err (refusal.Line n)) (Err refusal.Memory) a b = absurd b
  one_inputs_answer script (Err refusal.TooLong) b h i = absurd h
  one_inputs_answer script (Err refusal.Memory) b h i = absurd h

  -- what a reader answers, the script has, unless memory ran out
  has_answer : (script : List ℕ) (r : Result Script ScriptRefusal) → IfOk r (λ s. IsScript script s.inputs s.events) → IfErr r (IsRefusal script) → Has script r ⊎ (r ≡ Err refusal.Memory)
  has_answer script (Ok s) found refused = inl found
  has_answer script (Err (refusal.Line n)) found refused = inl refused
  has_answer script (Err refusal.TooLong) found refused = inl refused
  has_answer script (Err refusal.Memory) found refused = inr refl

  has_inputs : (script : List ℕ) (r : Result (List ℤ) ScriptRefusal) → IfOk r (AreInputs script) → IfErr r (RefusesInputs script) → HasInputs script r ⊎ (r ≡ Err refusal.Memory)
  has_inputs script (Ok xs) found refused = inl found
  has_inputs script (Err (refusal.Line n)) found refused = inl refused
  has_inputs script (Err refusal.TooLong) found refused = inl refused
  has_inputs script (Err refusal.Memory) found refused = inr refl

  -- so what a script has is answered, unless memory ran out
  pub given : (script : List ℕ) (r answer : Result Script ScriptRefusal) → IfOk r (λ s. IsScript script s.inputs s.events) → IfErr r (IsRefusal script) → Has script answer → (r ≡ answer) ⊎ (r ≡ Err refusal.Memory)
  given script r answer found refused h =
      ⊎_elim (λ has. inl (one_answer script r answer has h)) (λ memory. inr memory) (has_answer script r found refused)

  pub given_inputs : (script : List ℕ) (r answer : Result (List ℤ) ScriptRefusal) → IfOk r (AreInputs script) → IfErr r (RefusesInputs script) → HasInputs script answer → (r ≡ answer) ⊎ (r ≡ Err refusal.Memory)
  given_inputs script r answer found refused h =
      ⊎_elim (λ has. inl (one_inputs_answer script r answer has h)) (λ memory. inr memory) (has_inputs script r found refused)

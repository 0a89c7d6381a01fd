-- The lines of a full text are read one after another: what stands before a place, and the first line that none has.
use Rattle.std.proofs.Common.{◌≡◌, ◌≢◌, ℕ, ℤ, ◌+◌, ◌<◌, ◌≤◌, true, List, [], ◌∷◌, ◌++◌, length, take, drop, refl, sym, ap, subst, ◌∙◌, arith, append_assoc, Result, Ok, Err, OnOk}
use Rattle.std.specs.List.{concat}
use Rattle.std.specs.Result.{is_ok}
use Rattle.std.proofs.lemmas.Bool.{false≢true}
use Rattle.std.proofs.lemmas.List.{append-nil, length-drop, length_push, take-append-drop}
use Rattle.meaning.specs.declared.record.Record.{Record}
use Rattle.job.specs.Lines.{lines_of}
use Rattle.fields.specs.Theorems.{FieldLaws}
use Rattle.trace_reader.specs.declared.item.Item.{Item}
use Rattle.trace_reader.specs.declared.item.Item.TheVariants.{Given, Recorded}
use Rattle.trace_reader.specs.FullText.{full_lines, IsTrace, HasFullText, IsFirstBad}
use Rattle.trace_reader.specs.inner.Items.{item_text, IsItem, MayFollow, IsAdded}
use Rattle.trace_reader.proofs.ItemTexts.{one_item}
use Rattle.trace_reader.proofs.FullLines.{trace_none, trace_given, trace_recorded, lines_given, lines_recorded, text_is_lines, Last, last_line, one_trace_of_lines}

concat_push : (lines : List (List ℕ)) (line : List ℕ) → concat (lines ++ line ∷ []) ≡ concat lines ++ line
concat_push [] line = append-nil line
concat_push (x ∷ lines) line = ap (λ t. x ++ t) (concat_push lines line) ∙ sym (append_assoc x (concat lines) line)

pub at_ok : {T E P : Type 0} (r : Result T E) → is_ok r ≡ true → OnOk r P → P
at_ok (Ok x) ok p = p
at_ok (Err e) ok p = absurd (false≢true ok)

-- What stands before the rest of a text: so many lines, which are those of these inputs and records.
pub record Read (text rest : List ℕ) (number : ℕ) (inputs : List ℤ) (records : List Record) : Type 0 where
  pub before : List (List ℕ)
  pub split : lines_of text ≡ before ++ lines_of rest
  pub whole : text ≡ concat before ++ rest
  pub lines : before ≡ full_lines inputs records
  pub trace : IsTrace inputs records
  pub number_is : number ≡ length before
  pub room : number + length rest ≤ length text

pub read_none : (text : List ℕ) → Read text text 0 [] []
read_none text = record {
  before = [];
  split = refl;
  whole = refl;
  lines = refl;
  trace = trace_none;
  number_is = refl;
  room = omega arith;
}

-- one more item, whatever it is
added : (before : List (List ℕ)) (inputs : List ℤ) (records : List Record) → IsTrace inputs records → before ≡ full_lines inputs records → (x : Item) → IsItem x → MayFollow records x → (inputs' : List ℤ) (records' : List Record) → IsAdded inputs records x inputs' records' → IsTrace inputs' records' × (before ++ item_text x ∷ [] ≡ full_lines inputs' records')
added before inputs records trace lines (Given v) is may inputs' records' add =
    let none : records' ≡ [] = add.1 ∙ may in
    let grown : IsTrace (inputs ++ v ∷ []) [] = trace_given inputs v (subst (IsTrace inputs) may trace) is in
    let now : before ++ item_text (Given v) ∷ [] ≡ full_lines (inputs ++ v ∷ []) [] = ap (λ t. t ++ item_text (Given v) ∷ []) (lines ∙ ap (full_lines inputs) may) ∙ sym (lines_given inputs v) in (
      subst (λ i. IsTrace i records') (sym add.0) (subst (IsTrace (inputs ++ v ∷ [])) (sym none) grown),
      now ∙ ap (λ i. full_lines i []) (sym add.0) ∙ ap (full_lines inputs') (sym none),
    )
added before inputs records trace lines (Recorded r) is may inputs' records' add =
    let grown : IsTrace inputs (records ++ r ∷ []) = trace_recorded inputs records r trace is may in
    let now : before ++ item_text (Recorded r) ∷ [] ≡ full_lines inputs (records ++ r ∷ []) = ap (λ t. t ++ item_text (Recorded r) ∷ []) lines ∙ sym (lines_recorded inputs records r) in (
      subst (λ i. IsTrace i records') (sym add.0) (subst (IsTrace inputs) (sym add.1) grown),
      now ∙ ap (λ i. full_lines i (records ++ r ∷ [])) (sym add.0) ∙ ap (full_lines inputs') (sym add.1),
    )

pub read_more : (text rest : List ℕ) (number : ℕ) (inputs : List ℤ) (records : List Record) → Read text rest number inputs records → (len : ℕ) → lines_of rest ≡ take len rest ∷ lines_of (drop len rest) → 0 < len → len ≤ length rest → (x : Item) → IsItem x → take len rest ≡ item_text x → MayFollow records x → (inputs' : List ℤ) (records' : List Record) → IsAdded inputs records x inputs' records' → Read text (drop len rest) (number + 1) inputs' records'
read_more text rest number inputs records r len first some fits x is line may inputs' records' add =
    let raw = take len rest in
    let grown = added r.before inputs records r.trace r.lines x is may inputs' records' add in
    record {
      before = r.before ++ raw ∷ [];
      split = r.split ∙ ap (λ t. r.before ++ t) first ∙ sym (append_assoc r.before (raw ∷ []) (lines_of (drop len rest)));
      whole = r.whole ∙ ap (λ t. concat r.before ++ t) (sym (take-append-drop len rest)) ∙ sym (append_assoc (concat r.before) raw (drop len rest)) ∙ ap (λ t. t ++ drop len rest) (sym (concat_push r.before raw));
      lines = ap (λ t. r.before ++ t ∷ []) line ∙ grown.1;
      trace = grown.0;
      number_is = ap (λ n. n + 1) r.number_is ∙ sym (length_push r.before raw);
      room = omega (arith, r.room, length-drop len rest);
    }

bad_line : (text rest : List ℕ) (number : ℕ) (inputs : List ℤ) (records : List Record) (r : Read text rest number inputs records) (len : ℕ) → lines_of rest ≡ take len rest ∷ lines_of (drop len rest) → (Last r.before (take len rest) → ⊥) → IsFirstBad text (number + 1)
bad_line text rest number inputs records r len first none = record {
  before = r.before;
  bad = take len rest;
  after = lines_of (drop len rest);
  split = r.split ∙ ap (λ t. r.before ++ t) first;
  begins = record { inputs = inputs; records = records; trace = r.trace; lines_are = r.lines };
  none = λ full. none (last_line r.before (take len rest) full);
  number = ap (λ n. n + 1) r.number_is;
}

-- the next line is no item's
pub read_bad : (text rest : List ℕ) (number : ℕ) (inputs : List ℤ) (records : List Record) → Read text rest number inputs records → (len : ℕ) → lines_of rest ≡ take len rest ∷ lines_of (drop len rest) → ((x : Item) → IsItem x → take len rest ≢ item_text x) → IsFirstBad text (number + 1)
read_bad text rest number inputs records r len first none =
    bad_line text rest number inputs records r len first (λ last. none last.item last.is last.text)

-- the next line is an item that may not stand there
pub read_misplaced : (laws : FieldLaws) (text rest : List ℕ) (number : ℕ) (inputs : List ℤ) (records : List Record) → Read text rest number inputs records → (len : ℕ) → lines_of rest ≡ take len rest ∷ lines_of (drop len rest) → (x : Item) → IsItem x → take len rest ≡ item_text x → (MayFollow records x → ⊥) → IsFirstBad text (number + 1)
read_misplaced laws text rest number inputs records r len first x is line never =
    bad_line text rest number inputs records r len first (λ last.
    let same : last.item ≡ x = one_item laws last.item x last.is is (sym last.text ∙ line) in
    let traces = one_trace_of_lines laws last.inputs inputs last.records records last.trace r.trace (sym last.lines ∙ r.lines) in
    never (subst (λ rs. MayFollow rs x) traces.1 (subst (MayFollow last.records) same last.may)))

-- nothing is left
pub read_all : (text : List ℕ) (number : ℕ) (inputs : List ℤ) (records : List Record) → Read text [] number inputs records → HasFullText inputs records text
read_all text number inputs records r = record { trace = r.trace; text_is = r.whole ∙ append-nil (concat r.before) ∙ ap concat r.lines ∙ sym (text_is_lines inputs records) }

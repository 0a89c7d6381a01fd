-- A line and its text determine each other.
use Rattle.std.proofs.Common.{◌≡◌, ℕ, ℤ, List, [], ◌∷◌, refl, ap, ◌∙◌, arith, Option, None, Some, IfSome, codes}
use Rattle.std.specs.Prelude.{decimal}
use Rattle.std.specs.Fmt.{signed_decimal}
use Rattle.std.specs.Option.{option_map}
use Rattle.std.proofs.lemmas.List.{append-nil}
use Rattle.fields.specs.Fields.{fields_of}
use Rattle.fields.specs.Theorems.{FieldLaws}
use Rattle.script.specs.declared.grammar.Line.{Line as Read}
use Rattle.script.specs.Script.{Line, Empty, Comment, Turns, Rounds, Write, Input, IsLine, line_text, greatest_turns}
use Rattle.script.specs.inner.Reading.{IsReading, line_of, line_fields, line_in, fields_in, form_in, datum_in, turns_in, rounds_in, write_in, input_in, answer}

module _ (laws : FieldLaws) where
  -- ---- a text that has a line's fields is its text

  pub text_is : (text : List ℕ) (line : Line) → fields_of text ≡ line_fields line → text ≡ line_text line
  text_is text Empty is = laws.text text [] [] is
  text_is text (Comment comment) is = laws.text text (35 ∷ comment) [] is ∙ append-nil (35 ∷ comment)
  text_is text (Turns thread turns) is = laws.text text (codes "t") (decimal thread ∷ decimal turns ∷ []) is
  text_is text (Rounds threads rounds) is = laws.text text (codes "rr") (decimal threads ∷ decimal rounds ∷ []) is
  text_is text (Write address word) is = laws.text text (codes "w") (decimal address ∷ signed_decimal word ∷ []) is
  text_is text (Input word) is = laws.text text (codes "in") (signed_decimal word ∷ []) is

  -- ---- each line is read from its text

  turns_is : (thread turns : ℕ) → IsLine (Turns thread turns) → turns_in (decimal thread ∷ decimal turns ∷ []) ≡ Some (Turns thread turns, [])
  unfolding turns_in
  turns_is thread turns is =
      rw (laws.within_is_read 0 15 thread (decimal turns ∷ []) (omega arith) (omega arith) (omega (arith, is.0)), laws.within_is_read 0 greatest_turns turns [] (omega arith) (omega arith) is.1, laws.end_is_read) refl

  rounds_is : (threads rounds : ℕ) → IsLine (Rounds threads rounds) → rounds_in (decimal threads ∷ decimal rounds ∷ []) ≡ Some (Rounds threads rounds, [])
  unfolding rounds_in
  rounds_is threads rounds is =
      rw (laws.within_is_read 1 16 threads (decimal rounds ∷ []) (omega arith) (omega (arith, is.0)) is.1, laws.within_is_read 0 greatest_turns rounds [] (omega arith) (omega arith) is.2, laws.end_is_read) refl

  write_is : (address : ℕ) (word : ℤ) → IsLine (Write address word) → write_in (decimal address ∷ signed_decimal word ∷ []) ≡ Some (Write address word, [])
  unfolding write_in
  write_is address word is =
      rw (laws.small_is_read address (signed_decimal word ∷ []) is.0, laws.word_is_read word [] is.1, laws.end_is_read) refl

  input_is : (word : ℤ) → IsLine (Input word) → input_in (signed_decimal word ∷ []) ≡ Some (Input word, [])
  unfolding input_in
  input_is word is = rw (laws.word_is_read word [] is, laws.end_is_read) refl

  pub line_is : (line : Line) → IsLine line → line_in (line_text line) ≡ Some line
  unfolding line_in fields_in form_in datum_in
  line_is Empty is = let ends : fields_in ([] ∷ []) ≡ Some (Empty, []) = rw laws.end_is_read refl in ap answer ends
  line_is (Comment text) is = refl
  line_is (Turns thread turns) is =
      ap (λ fs. answer (fields_in fs)) (laws.found (codes "t") (decimal thread ∷ decimal turns ∷ []) refl (laws.plain thread (omega (arith, is.0)), (laws.plain turns (omega (arith, is.1)), tt)))
      ∙ ap answer (turns_is thread turns is)
  line_is (Rounds threads rounds) is =
      ap (λ fs. answer (fields_in fs)) (laws.found (codes "rr") (decimal threads ∷ decimal rounds ∷ []) refl (laws.plain threads (omega (arith, is.1)), (laws.plain rounds (omega (arith, is.2)), tt)))
      ∙ ap answer (rounds_is threads rounds is)
  line_is (Write address word) is =
      ap (λ fs. answer (fields_in fs)) (laws.found (codes "w") (decimal address ∷ signed_decimal word ∷ []) refl (laws.plain address (omega (arith, is.0)), (laws.plain_word word is.1, tt)))
      ∙ ap answer (write_is address word is)
  line_is (Input word) is =
      ap (λ fs. answer (fields_in fs)) (laws.found (codes "in") (signed_decimal word ∷ []) refl (laws.plain_word word is, tt))
      ∙ ap answer (input_is word is)

  -- one text says one line
  pub one_line : (x y : Line) → IsLine x → IsLine y → line_text x ≡ line_text y → x ≡ y
  one_line x y a b is = let first = line_is x a in let second = line_is y b in let same = ap line_in is in cc

  -- what is read exactly is the line of the text
  pub reading_is : (text : List ℕ) (r : Option Read) → option_map line_of r ≡ line_in text → IfSome r (λ read. text ≡ line_text (line_of read)) → IfSome r (λ read. IsLine (line_of read)) → IsReading IsLine text r
  reading_is text (Some read) is found proper = (proper, found)
  reading_is text None is found proper = λ line may same. let read = line_is line may in let line_read = ap line_in same in cc

-- What the lexer takes for a token is one, and what it refuses is refused.
use Rattle.std.proofs.Common.{◌≡◌, ℕ, ℤ, zero, suc, pos, ◌+◌, ◌<◌, ◌≤◌, inl, inr, Bool, true, false, not, ◌&&◌, ◌||◌, nat_eq, IsTrue, Some, None, List, [], ◌∷◌, ◌++◌, length, take, drop, refl, sym, ap, ◌∙◌, subst, arith, append_assoc, length-append, take-append-drop}
use Rattle.std.specs.List.{All, find, starts_with, prefix_len}
use Rattle.std.proofs.lemmas.Bool.{false≢true, both_ways, eqb-true, or_parts, or_from, or_left, or_right, and_from, eq-eqb, eqb-false, not_from_false, not-true, cond-true}
use Rattle.std.proofs.lemmas.Bool.Decides.{Decides-eqb}
use Rattle.std.proofs.lemmas.Slice.Eq.{starts_is}
use Rattle.std.proofs.lemmas.List.{length-take-le}
use Rattle.std.proofs.lemmas.List.Sums.{prefix_len-le-length}
use Rattle.c_tokens.specs.declared.token.Keyword.{Keyword}
use Rattle.c_tokens.specs.declared.token.Mark.{Mark as AMark}
use Rattle.c_tokens.specs.declared.token.Kind.{Kind}
use Rattle.c_tokens.specs.declared.token.Kind.TheVariants.{Word, Name, Number, Text, Mark}
use Rattle.c_tokens.specs.declared.mark.TheConstants.{MARKS}
use Rattle.c_tokens.specs.Bytes.{is_white, is_digit, is_quote, is_name_start, is_word_byte, begins, begins_with_two}
use Rattle.c_tokens.specs.Words.{keyword_text, mark_text}
use Rattle.c_tokens.specs.Spell.{IsIdentifier, IsNoKeyword, IsNumber, IsPiece, ArePieces, IsToken, OpensComment}
use Rattle.c_tokens.specs.Lex.{IsBad}
use Rattle.c_tokens.specs.Blank.{has_close}
use Rattle.c_tokens.specs.inner.Scan.{begins_blank, BeginsNoPiece, BeginsWithToken}
use Rattle.c_tokens.proofs.ListLemmas.{prefixes_same, All-prefix, begins_after_prefix, split_at_length}
use Rattle.c_tokens.proofs.BlankLemmas.{two_bytes}
use Rattle.c_tokens.proofs.uniqueness.Pieces.{IsPiece-same, ArePieces-same, BeginsNoPiece-quote, ArePieces-push}
use Rattle.c_tokens.proofs.WordsLemmas.{is_other_byte, mark_found, mark_longest, no_mark}
use Rattle.c_tokens.proofs.uniqueness.Kinds.{apostrophe, quotation, punctuation, class_of, other_class, Form, keyword, name, number, character, string, mark, form}
use Rattle.c_tokens.proofs.uniqueness.Tokens.{form_begins, token_some, token_of_word, token_of_character, token_of_string, token_of_mark}
use Rattle.std.proofs.Math.Seq.{take-add}
use Rattle.c_tokens.specs.declared.token.LexRefusal.TheVariants as refusal

token_at_length : (kind : Kind) (bytes text rest : List ℕ) (len : ℕ) → bytes ≡ text ++ rest → length text ≡ len → IsToken kind text rest → BeginsWithToken bytes kind len
token_at_length kind bytes text rest len e l token = record {
  some = omega (arith, token_some kind text rest token);
  inside = omega (arith, ap length e, length-append text rest);
  token = split_at_length (IsToken kind) bytes text rest len e l token;
}

-- ---- runs of letters, digits and `_`

begins-take : (p : ℕ → Bool) (bytes : List ℕ) (n : ℕ) → begins p bytes ≡ true → 0 < n → begins p (take n bytes) ≡ true
begins-take p [] n e some = absurd (false≢true e)
begins-take p (b ∷ bs) zero e some = absurd (omega arith)
begins-take p (b ∷ bs) (suc n) e some = e

prefix_some : (p : ℕ → Bool) (bytes : List ℕ) → begins p bytes ≡ true → 0 < prefix_len p bytes
prefix_some p [] e = absurd (false≢true e)
prefix_some p (b ∷ bs) e = omega (arith, cond-true (p b) (1 + prefix_len p bs) 0 e)

begins-weaker : (p q : ℕ → Bool) (bytes : List ℕ) → ((b : ℕ) → p b ≡ true → q b ≡ true) → begins p bytes ≡ true → begins q bytes ≡ true
begins-weaker p q [] to e = absurd (false≢true e)
begins-weaker p q (b ∷ bs) to e = to b e

module _ (bytes : List ℕ) (len : ℕ) (is : len ≡ prefix_len is_word_byte bytes) where
  run_cut : bytes ≡ take len bytes ++ drop len bytes
  run_cut = sym (take-append-drop len bytes)

  run_length : length (take len bytes) ≡ len
  run_length = length-take-le len bytes (omega (arith, prefix_len-le-length is_word_byte bytes))

  pub run_word : All (λ b. IsTrue (is_word_byte b)) (take len bytes)
  run_word = subst (λ (n : ℕ). All (λ b. IsTrue (is_word_byte b)) (take n bytes)) (sym is) (All-prefix is_word_byte bytes)

  run_stops : begins is_word_byte (drop len bytes) ≡ false
  run_stops = ap (λ n. begins is_word_byte (drop n bytes)) is ∙ begins_after_prefix is_word_byte bytes

  pub run_begins : (p : ℕ → Bool) → ((b : ℕ) → p b ≡ true → is_word_byte b ≡ true) → begins p bytes ≡ true → begins p (take len bytes) ≡ true
  run_begins p word first =
      let some = prefix_some is_word_byte bytes (begins-weaker p is_word_byte bytes word first) in
      begins-take p bytes len first (omega arith)

  pub keyword_token : (k : Keyword) → take len bytes ≡ keyword_text k → BeginsWithToken bytes (Word k) len
  keyword_token k e = token_at_length (Word k) bytes (take len bytes) (drop len bytes) len run_cut run_length (token_of_word (drop len bytes) e (keyword k refl e) refl run_stops)

  pub name_token : begins is_name_start bytes ≡ true → IsNoKeyword (take len bytes) → BeginsWithToken bytes (Name (take len bytes)) len
  name_token first free =
      let identifier : IsIdentifier (take len bytes) = (run_begins is_name_start (λ b e. or_left (is_name_start b) (is_digit b) e) first, run_word) in
      token_at_length (Name (take len bytes)) bytes (take len bytes) (drop len bytes) len run_cut run_length
      (token_of_word (drop len bytes) (refl, identifier, free) (name refl identifier free) refl run_stops)

  pub number_token : (n : ℤ) (value : ℕ) → n ≡ pos value → IsNumber (take len bytes) value → BeginsWithToken bytes (Number n) len
  number_token n value e is_number =
      token_at_length (Number n) bytes (take len bytes) (drop len bytes) len run_cut run_length
      (token_of_word (drop len bytes) (value, e, inl is_number) (number value (ap Number e) is_number) refl run_stops)

  pub number_refused : (line : ℕ) → begins is_digit bytes ≡ true → ((value : ℕ) → IsNumber (take len bytes) value → ⊥) → IsBad (refusal.Number line) bytes
  number_refused line first none = (first, (take len bytes, drop len bytes, run_cut, run_word, run_stops, none))

-- ---- characters and strings

starts : (bytes text : List ℕ) → (starts_with nat_eq bytes text ≡ true → bytes ≡ text ++ drop (length text) bytes) × ((rest : List ℕ) → bytes ≡ text ++ rest → starts_with nat_eq bytes text ≡ true)
starts bytes text = starts_is Decides-eqb bytes text (starts_with nat_eq bytes text) refl

begins_one : (b : ℕ) (bytes : List ℕ) → begins (λ x. nat_eq x b) bytes ≡ true → bytes ≡ b ∷ drop 1 bytes
begins_one b [] e = absurd (false≢true e)
begins_one b (x ∷ xs) e = ap (λ y. y ∷ xs) (eqb-true x b e)

-- the text between two quotes
module _ (quote len : ℕ) (bytes : List ℕ) (first : begins (λ b. nat_eq b quote) bytes ≡ true) (inside : len ≤ length (drop 1 bytes)) where
  quoted_cut : starts_with nat_eq (drop len (drop 1 bytes)) (quote ∷ []) ≡ true → bytes ≡ (quote ∷ take len (drop 1 bytes) ++ quote ∷ []) ++ drop 1 (drop len (drop 1 bytes))
  quoted_cut closes =
      let body = drop 1 bytes in
      begins_one quote bytes first ∙ ap (λ l. quote ∷ l) (sym (take-append-drop len body) ∙ ap (λ l. take len body ++ l) ((starts (drop len body) (quote ∷ [])).0 closes)
      ∙ sym (append_assoc (take len body) (quote ∷ []) (drop 1 (drop len body))))

  quoted_length : length (quote ∷ take len (drop 1 bytes) ++ quote ∷ []) ≡ len + 2
  quoted_length = omega (arith, length-append (take len (drop 1 bytes)) (quote ∷ []), length-take-le len (drop 1 bytes) inside)

pub character_token : (bytes : List ℕ) (len byte : ℕ) (n : ℤ) → n ≡ pos byte → begins (λ b. nat_eq b 39) bytes ≡ true → len ≤ length (drop 1 bytes)
    → IsPiece 39 (take len (drop 1 bytes)) byte → starts_with nat_eq (drop len (drop 1 bytes)) (39 ∷ []) ≡ true → BeginsWithToken bytes (Number n) (len + 2)
character_token bytes len byte n e first inside piece closes =
    subst (λ (m : ℤ). BeginsWithToken bytes (Number m) (len + 2)) (sym e)
    (token_at_length (Number (pos byte)) bytes _ _ (len + 2) (quoted_cut 39 len bytes first inside closes) (quoted_length 39 len bytes first inside)
    (token_of_character _ _ byte (take len (drop 1 bytes), refl, piece)))

pub string_token : (bytes spelling : List ℕ) (len : ℕ) → begins (λ b. nat_eq b 34) bytes ≡ true → len ≤ length (drop 1 bytes)
    → ArePieces 34 (take len (drop 1 bytes)) spelling → starts_with nat_eq (drop len (drop 1 bytes)) (34 ∷ []) ≡ true → BeginsWithToken bytes (Text spelling) (len + 2)
string_token bytes spelling len first inside pieces closes =
    token_at_length (Text spelling) bytes _ _ (len + 2) (quoted_cut 34 len bytes first inside closes) (quoted_length 34 len bytes first inside)
    (token_of_string _ _ spelling (take len (drop 1 bytes), refl, pieces))

-- what a character or a string would be
character_parts : {kind : Kind} {text : List ℕ} (bytes rest : List ℕ) → class_of bytes ≡ apostrophe → bytes ≡ text ++ rest → Form kind text
    → (piece : List ℕ) × (byte : ℕ) × (drop 1 bytes ≡ piece ++ 39 ∷ rest) × IsPiece 39 piece byte
character_parts bytes rest class e (character value d (piece, is, is_piece)) =
    (piece, value, ap (drop 1) (e ∙ ap (λ l. l ++ rest) is) ∙ append_assoc piece (39 ∷ []) rest, is_piece)
character_parts bytes rest class e f = let is = form_begins f rest in let same = ap class_of e in absurd cc

string_parts : {kind : Kind} {text : List ℕ} (bytes rest : List ℕ) → class_of bytes ≡ quotation → bytes ≡ text ++ rest → Form kind text
    → (pieces : List ℕ) × (spelling : List ℕ) × (drop 1 bytes ≡ pieces ++ 34 ∷ rest) × ArePieces 34 pieces spelling
string_parts bytes rest class e (string spelling d (pieces, is, are)) =
    (pieces, spelling, ap (drop 1) (e ∙ ap (λ l. l ++ rest) is) ∙ append_assoc pieces (34 ∷ []) rest, are)
string_parts bytes rest class e f = let is = form_begins f rest in let same = ap class_of e in absurd cc

character_refused : (line : ℕ) (bytes : List ℕ) → begins (λ b. nat_eq b 39) bytes ≡ true
    → ((piece rest : List ℕ) (byte : ℕ) → drop 1 bytes ≡ piece ++ 39 ∷ rest → IsPiece 39 piece byte → ⊥) → IsBad (refusal.Text line) bytes
character_refused line bytes first none = (
  begins-weaker (λ b. nat_eq b 39) is_quote bytes (λ b e. or_left (nat_eq b 39) (nat_eq b 34) e) first,
  λ kind text rest e spelled.
      let parts = character_parts bytes rest (ap class_of (begins_one 39 bytes first)) e (form kind text spelled) in
      none parts.0 rest parts.1 parts.2 parts.3,
)

-- no piece stands behind the quote
pub no_piece_refused : (line : ℕ) (bytes : List ℕ) → begins (λ b. nat_eq b 39) bytes ≡ true → BeginsNoPiece 39 (drop 1 bytes) → IsBad (refusal.Text line) bytes
no_piece_refused line bytes first none = character_refused line bytes first (λ piece rest byte e is_piece. none piece (39 ∷ rest) byte e is_piece)

-- a piece stands behind the quote, and no quote behind it
pub open_character_refused : (line : ℕ) (bytes : List ℕ) (len byte : ℕ) → begins (λ b. nat_eq b 39) bytes ≡ true
    → IsPiece 39 (take len (drop 1 bytes)) byte → starts_with nat_eq (drop len (drop 1 bytes)) (39 ∷ []) ≡ false → IsBad (refusal.Text line) bytes
open_character_refused line bytes len byte first is unclosed = character_refused line bytes first (λ piece rest second e is_piece.
    let body = drop 1 bytes in
    let cut = IsPiece-same 39 (take len body) piece (drop len body) (39 ∷ rest) byte second (take-append-drop len body ∙ e) is is_piece in
    both_ways (starts_with nat_eq (drop len body) (39 ∷ [])) unclosed ((starts (drop len body) (39 ∷ [])).1 rest cut.2))

-- the pieces behind the quote end, and no quote stands there
pub open_string_refused : (line : ℕ) (bytes spelling : List ℕ) (len : ℕ) → begins (λ b. nat_eq b 34) bytes ≡ true
    → ArePieces 34 (take len (drop 1 bytes)) spelling → BeginsNoPiece 34 (drop len (drop 1 bytes)) → starts_with nat_eq (drop len (drop 1 bytes)) (34 ∷ []) ≡ false
    → IsBad (refusal.Text line) bytes
open_string_refused line bytes spelling len first are none unclosed = (
  begins-weaker (λ b. nat_eq b 34) is_quote bytes (λ b e. or_right (nat_eq b 39) (nat_eq b 34) e) first,
  λ kind text rest e spelled.
      let body = drop 1 bytes in
      let parts = string_parts bytes rest (ap class_of (begins_one 34 bytes first)) e (form kind text spelled) in
      let same = take-append-drop len body ∙ parts.2 in
      let cut = ArePieces-same 34 (take len body) parts.0 (drop len body) (34 ∷ rest) spelling parts.1 same are parts.3 none (BeginsNoPiece-quote 34 rest (eqb-false 34 92 refl)) in
      let closes = prefixes_same (take len body) parts.0 (drop len body) (34 ∷ rest) same (ap length cut.0) in
      both_ways (starts_with nat_eq (drop len body) (34 ∷ [])) unclosed ((starts (drop len body) (34 ∷ [])).1 rest closes.1),
)

-- one more piece behind those so far
pub pieces_more : (bytes spelling : List ℕ) (len piece byte : ℕ) → ArePieces 34 (take len bytes) spelling → IsPiece 34 (take piece (drop len bytes)) byte
    → ArePieces 34 (take (len + piece) bytes) (spelling ++ byte ∷ [])
pieces_more bytes spelling len piece byte before last = rw take-add (ArePieces-push 34 (take len bytes) spelling (take piece (drop len bytes)) byte before last)

-- ---- marks

same_answer : (x y : Bool) → (x ≡ true → y ≡ true) → (y ≡ true → x ≡ true) → x ≡ y
same_answer true y to from = sym (to refl)
same_answer false true to from = from refl
same_answer false false to from = refl

begins_two : (a b : ℕ) (bytes : List ℕ) → begins_with_two a b bytes ≡ starts_with nat_eq bytes (a ∷ b ∷ [])
begins_two a b bytes = same_answer (begins_with_two a b bytes) (starts_with nat_eq bytes (a ∷ b ∷ []))
    (λ e. (starts bytes (a ∷ b ∷ [])).1 (drop 2 bytes) (two_bytes a b bytes e))
    (λ e. ap (begins_with_two a b) ((starts bytes (a ∷ b ∷ [])).0 e) ∙ and_from (nat_eq a a) (nat_eq b b) (eq-eqb a a refl) (eq-eqb b b refl))

-- the first byte is of no other class
other_first : (bytes : List ℕ) → begins is_white bytes ≡ false → begins (λ b. not (is_digit b || is_name_start b || is_quote b)) bytes ≡ true
    → (0 < length bytes) × (begins (λ b. is_white b || is_digit b || is_quote b) bytes ≡ false) × (class_of bytes ≡ punctuation)
other_first [] dark other = absurd (false≢true other)
other_first (b ∷ bs) dark other =
    let parts = or_parts (is_digit b || is_name_start b) (is_quote b) (not-true (is_digit b || is_name_start b || is_quote b) other) in
    let more = or_parts (is_digit b) (is_name_start b) parts.0 in
    let word = or_from (is_name_start b) (is_digit b) more.1 more.0 in (
      omega arith,
      or_from (is_white b || is_digit b) (is_quote b) (or_from (is_white b) (is_digit b) dark more.0) parts.1,
      other_class (b ∷ bs) (not_from_false (is_other_byte b) (or_from (is_white b || is_word_byte b) (is_quote b) (or_from (is_white b) (is_word_byte b) dark word) parts.1)),
    )

mark_form : {kind : Kind} {text : List ℕ} (bytes rest : List ℕ) → class_of bytes ≡ punctuation → bytes ≡ text ++ rest → Form kind text → (m : AMark) × (text ≡ mark_text m)
mark_form bytes rest class e (mark m d is) = (m, is)
mark_form bytes rest class e f = let is = form_begins f rest in let same = ap class_of e in absurd cc

module _ (bytes : List ℕ) (blank_free : begins_blank bytes ≡ false) where
  closed : starts_with nat_eq bytes (47 ∷ 42 ∷ []) ≡ false → OpensComment bytes → ⊥
  closed not_open (inl block) = both_ways (begins_with_two 47 42 bytes) (begins_two 47 42 bytes ∙ not_open) block
  closed not_open (inr line) =
      let parts = or_parts (begins is_white bytes || begins_with_two 47 47 bytes) (begins_with_two 47 42 bytes && has_close (drop 2 bytes)) blank_free in
      both_ways (begins_with_two 47 47 bytes) (or_parts (begins is_white bytes) (begins_with_two 47 47 bytes) parts.0).1 line

  pub mark_token : (m : AMark) → starts_with nat_eq bytes (47 ∷ 42 ∷ []) ≡ false → find (λ o. starts_with nat_eq bytes (mark_text o)) MARKS ≡ Some m
      → BeginsWithToken bytes (Mark m) (length (mark_text m))
  mark_token m not_open found =
      let rest = drop (length (mark_text m)) bytes in
      let cut = mark_found bytes m found in
      token_at_length (Mark m) bytes (mark_text m) rest (length (mark_text m)) cut refl
      (token_of_mark m rest (λ o behind e. mark_longest bytes behind m o found (cut ∙ e)) (λ opens. closed not_open (subst OpensComment (sym cut) opens)))

  pub byte_refused : (line : ℕ) → starts_with nat_eq bytes (47 ∷ 42 ∷ []) ≡ false
      → begins (λ b. not (is_digit b || is_name_start b || is_quote b)) bytes ≡ true → find (λ o. starts_with nat_eq bytes (mark_text o)) MARKS ≡ None
      → IsBad (refusal.Byte line) bytes
  byte_refused line not_open other none =
      let parts = or_parts (begins is_white bytes || begins_with_two 47 47 bytes) (begins_with_two 47 42 bytes && has_close (drop 2 bytes)) blank_free in
      let first = other_first bytes (or_parts (begins is_white bytes) (begins_with_two 47 47 bytes) parts.0).0 other in (
        first.0,
        first.1,
        closed not_open,
        λ kind text rest e spelled.
            let is = mark_form bytes rest first.2 e (form kind text spelled) in
            no_mark bytes rest is.0 none (e ∙ ap (λ l. l ++ rest) is.1),
      )

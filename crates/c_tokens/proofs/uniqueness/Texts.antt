-- A text has one list of tokens, or one first place that is none.
use Rattle.std.proofs.Common.{◌≡◌, ◌≢◌, ℕ, ◌-◌, ◌<◌, ◌≤◌, ◌⊎◌, inl, inr, true, false, cond, ◌||◌, nat_eq, Result, Ok, Err, List, [], ◌∷◌, ◌++◌, length, drop, refl, sym, ap, ◌∙◌, subst, arith, length-append, slice_range, IfOk, IfErr, ⊎_elim}
use Rattle.std.specs.List.{prefix_len}
use Rattle.std.proofs.lemmas.Bool.{false≢true, or_parts, cond-true, cond-false, false_from_ne_true, eqb-true, or_cases}
use Rattle.std.proofs.lemmas.List.{length-take-le, length-drop, drop_all}
use Rattle.std.proofs.lemmas.List.Folds.{drop_split}
use Rattle.c_tokens.specs.declared.token.Kind.{Kind}
use Rattle.c_tokens.specs.declared.token.Token.{Token}
use Rattle.c_tokens.specs.declared.token.LexRefusal.{LexRefusal}
use Rattle.c_tokens.specs.declared.token.LexRefusal.TheVariants.{Byte, Number, Text, Comment, Memory}
use Rattle.c_tokens.specs.Bytes.{is_white, is_digit, is_quote, is_word_byte, begins, begins_with_two}
use Rattle.c_tokens.specs.Spell.{IsToken, IsNumber}
use Rattle.c_tokens.specs.Blank.{IsBlank}
use Rattle.c_tokens.specs.Lex.{line_at, StandsAt, LexesTo, Lexes, IsBad, refused_line, IsRefused}
use Rattle.c_tokens.specs.Answer.{IsAnswer}
use Rattle.c_tokens.specs.inner.Scan.{begins_blank}
use Rattle.c_tokens.proofs.ListLemmas.{prefixes_same, prefix_len-append}
use Rattle.c_tokens.proofs.BlankLemmas.{IsBlank-same, two_bytes}
use Rattle.c_tokens.proofs.uniqueness.Kinds.{digit, apostrophe, quotation, class_of_byte, class_of, digit_class, Form, number, form, class_of_form}
use Rattle.c_tokens.proofs.uniqueness.Numbers.{IsDigitRun-of}
use Rattle.c_tokens.proofs.uniqueness.Tokens.{form_begins, IsToken-same, no_comment_in, no_white, no_blank, token_begins_no_blank, token_some}

-- ---- where no list of tokens goes on

pub record Ends (bytes : List ℕ) (place : ℕ) : Type 0 where
  pub inside : place ≤ length bytes
  pub no_blank : begins_blank (drop place bytes) ≡ false
  pub no_token : (kind : Kind) (text rest : List ℕ) → drop place bytes ≡ text ++ rest → IsToken kind text rest → ⊥

pub length-slice : (bytes : List ℕ) (at end : ℕ) → end ≤ length bytes → length (slice_range bytes at end) ≡ end - at
length-slice bytes at end inside = length-take-le (end - at) (drop at bytes) (omega (arith, length-drop at bytes))

gap_same : (bytes : List ℕ) (at end last : ℕ) → at ≤ end → at ≤ last → end ≤ length bytes → last ≤ length bytes
    → IsBlank (slice_range bytes at end) (drop end bytes) → IsBlank (slice_range bytes at last) (drop last bytes)
    → begins_blank (drop end bytes) ≡ false → begins_blank (drop last bytes) ≡ false → end ≡ last
gap_same bytes at end last up also inside within p q no_p no_q =
    let same = sym (drop_split bytes at end up) ∙ drop_split bytes at last also in
    let cut = IsBlank-same (slice_range bytes at end) (slice_range bytes at last) (drop end bytes) (drop last bytes) p q same no_p no_q in
    omega (arith, ap length cut, length-slice bytes at end inside, length-slice bytes at last within)

module _ (bytes : List ℕ) where
  stands_at : {at : ℕ} (t : Token) → StandsAt bytes at t → drop t.from bytes ≡ slice_range bytes t.from t.to ++ drop t.to bytes
  stands_at t s = let some = s.some in drop_split bytes t.from t.to (omega arith)

  stands_no_blank : {at : ℕ} (t : Token) → StandsAt bytes at t → begins_blank (drop t.from bytes) ≡ false
  stands_no_blank t s = ap begins_blank (stands_at t s) ∙ token_begins_no_blank t.kind (slice_range bytes t.from t.to) (drop t.to bytes) s.token

  token_same : (at : ℕ) (t u : Token) → StandsAt bytes at t → StandsAt bytes at u → t ≡ u
  token_same at t u s v =
      let some = s.some in let also = v.some in let inside = s.inside in let within = v.inside in
      let from : t.from ≡ u.from = gap_same bytes at t.from u.from s.behind v.behind (omega arith) (omega arith) s.gap v.gap (stands_no_blank t s) (stands_no_blank u v) in
      let both = sym (stands_at t s) ∙ ap (λ n. drop n bytes) from ∙ stands_at u v in
      let cut = IsToken-same t.kind u.kind (slice_range bytes t.from t.to) (slice_range bytes u.from u.to) (drop t.to bytes) (drop u.to bytes) both s.token v.token in
      let to : t.to ≡ u.to = omega (arith, ap length cut.0, length-slice bytes t.from t.to inside, length-slice bytes u.from u.to within) in
      let line : t.line ≡ u.line = s.line ∙ ap (line_at bytes) from ∙ sym v.line in
      (λ i. record { kind = cut.1 i; from = from i; to = to i; line = line i })

  no_token_at_end : (at : ℕ) (t : Token) (end : ℕ) → at ≤ end → IsBlank (slice_range bytes at end) (drop end bytes) → Ends bytes end → StandsAt bytes at t → ⊥
  no_token_at_end at t end up gap ends s =
      let some = s.some in let inside = s.inside in
      let place = gap_same bytes at end t.from up s.behind ends.inside (omega arith) gap s.gap ends.no_blank (stands_no_blank t s) in
      ends.no_token t.kind (slice_range bytes t.from t.to) (drop t.to bytes) (ap (λ n. drop n bytes) place ∙ stands_at t s) s.token

  lists_same : (at : ℕ) (ts us : List Token) (end last : ℕ) → LexesTo bytes at ts end → LexesTo bytes at us last
      → Ends bytes end → Ends bytes last → (ts ≡ us) × (end ≡ last)
  lists_same at [] [] end last p q ends lasts =
      (refl, gap_same bytes at end last p.0 q.0 ends.inside lasts.inside p.1 q.1 ends.no_blank lasts.no_blank)
  lists_same at [] (u ∷ us) end last p q ends lasts = absurd (no_token_at_end at u end p.0 p.1 ends q.0)
  lists_same at (t ∷ ts) [] end last p q ends lasts = absurd (no_token_at_end at t last q.0 q.1 lasts p.0)
  lists_same at (t ∷ ts) (u ∷ us) end last p q ends lasts =
      let first = token_same at t u p.0 q.0 in
      let later = lists_same t.to ts us end last p.1 (subst (λ (n : ℕ). LexesTo bytes n us last) (ap (λ x. x.to) (sym first)) q.1) ends lasts in
      (λ i. first i ∷ later.0 i, later.1)

  Ends-length : Ends bytes (length bytes)
  Ends-length =
      let none = drop_all (length bytes) bytes (omega arith) in
      record {
        inside = omega arith;
        no_blank = ap begins_blank none;
        no_token = λ kind text rest e token. omega (arith, token_some kind text rest token, ap length (sym none ∙ e), length-append text rest);
      }

-- ---- a refused place

quote_class : (bytes : List ℕ) → begins is_quote bytes ≡ true → (class_of bytes ≡ apostrophe) ⊎ (class_of bytes ≡ quotation)
quote_class [] e = absurd (false≢true e)
quote_class (b ∷ bs) e = ⊎_elim (λ is. inl (ap class_of_byte (eqb-true b 39 is))) (λ is. inr (ap class_of_byte (eqb-true b 34 is))) (or_cases (nat_eq b 39) (nat_eq b 34) e)

not_white : (bytes : List ℕ) → begins (λ b. is_white b || is_digit b || is_quote b) bytes ≡ false → 0 < length bytes
    → (begins is_white bytes ≡ false) × (begins is_digit bytes ≡ false) × (begins is_quote bytes ≡ false)
not_white [] e some = absurd (omega arith)
not_white (b ∷ bs) e some =
    let parts = or_parts (is_white b || is_digit b) (is_quote b) e in
    let more = or_parts (is_white b) (is_digit b) parts.0 in
    (more.0, more.1, parts.1)

bad_no_blank : (refusal : LexRefusal) (bytes : List ℕ) → IsBad refusal bytes → begins_blank bytes ≡ false
bad_no_blank (Comment line) bytes (opens, open_end) = ap begins_blank (two_bytes 47 42 bytes opens) ∙ open_end
bad_no_blank (Number line) bytes (first, run) =
    let is = digit_class bytes first in
    no_blank bytes (no_white bytes (λ e. cc)) (no_comment_in bytes (λ e. cc))
bad_no_blank (Text line) bytes (first, none) =
    ⊎_elim (λ is. no_blank bytes (no_white bytes (λ e. cc)) (no_comment_in bytes (λ e. cc))) (λ is. no_blank bytes (no_white bytes (λ e. cc)) (no_comment_in bytes (λ e. cc))) (quote_class bytes first)
bad_no_blank (Byte line) bytes (some, others, closed, none) = no_blank bytes (not_white bytes others some).0 closed
bad_no_blank Memory bytes bad = absurd bad

number_form : {kind : Kind} {text : List ℕ} (f : Form kind text) → class_of_form f ≡ digit → (value : ℕ) × IsNumber text value
number_form (number value e is) d = (value, is)
number_form f d = absurd cc

bad_no_token : (refusal : LexRefusal) (bytes : List ℕ) → IsBad refusal bytes → (kind : Kind) (text rest : List ℕ) → bytes ≡ text ++ rest → IsToken kind text rest → ⊥
bad_no_token (Comment line) bytes (opens, open_end) kind text rest e token = token.no_comment (inl (ap (begins_with_two 47 42) (sym e) ∙ opens))
bad_no_token (Number line) bytes (first, (run, behind, cut, all, stops, no_number)) kind text rest e token =
    let f = form kind text token.spelled in
    let is = number_form f (sym (form_begins f rest) ∙ ap class_of (sym e) ∙ digit_class bytes first) in
    let digits = IsDigitRun-of text is.0 is.1 in
    let one = prefix_len-append is_word_byte run behind all stops in
    let two = prefix_len-append is_word_byte text rest digits.all (token.whole digits.first) in
    let same = prefixes_same run text behind rest (sym cut ∙ e) (sym one ∙ ap (prefix_len is_word_byte) (sym cut ∙ e) ∙ two) in
    no_number is.0 (subst (λ (t : List ℕ). IsNumber t is.0) (sym same.0) is.1)
bad_no_token (Text line) bytes (first, none) kind text rest e token = none kind text rest e token.spelled
bad_no_token (Byte line) bytes (some, others, closed, none) kind text rest e token = none kind text rest e token.spelled
bad_no_token Memory bytes bad kind text rest e token = absurd bad

-- the first byte, or the first two, say which refusal it is
abbrev refusal_at : List ℕ → ℕ → LexRefusal
refusal_at bytes line = cond (begins is_digit bytes) (Number line) (cond (begins is_quote bytes) (Text line) (cond (begins_with_two 47 42 bytes) (Comment line) (Byte line)))

bad_is : (refusal : LexRefusal) (bytes : List ℕ) → IsBad refusal bytes → refusal ≡ refusal_at bytes (refused_line refusal)
bad_is (Comment line) bytes (opens, open_end) = sym (ap (λ l. refusal_at l line) (two_bytes 47 42 bytes opens))
bad_is (Number line) bytes (first, run) = sym (cond-true (begins is_digit bytes) _ _ first)
bad_is (Text line) bytes (first, none) =
    let no_digit = false_from_ne_true (begins is_digit bytes) (λ e. let is = digit_class bytes e in ⊎_elim (λ c. cc) (λ c. cc) (quote_class bytes first)) in
    sym (cond-false (begins is_digit bytes) _ _ no_digit ∙ cond-true (begins is_quote bytes) _ _ first)
bad_is (Byte line) bytes (some, others, closed, none) =
    let parts = not_white bytes others some in
    sym (cond-false (begins is_digit bytes) _ _ parts.1 ∙ cond-false (begins is_quote bytes) _ _ parts.2
    ∙ cond-false (begins_with_two 47 42 bytes) _ _ (false_from_ne_true (begins_with_two 47 42 bytes) (λ e. closed (inl e))))
bad_is Memory bytes bad = absurd bad

bad_some : (refusal : LexRefusal) → IsBad refusal [] → ⊥
bad_some (Comment line) bad = false≢true bad.0
bad_some (Number line) bad = false≢true bad.0
bad_some (Text line) bad = false≢true bad.0
bad_some (Byte line) bad = omega (arith, bad.0)
bad_some Memory bad = bad

module _ (bytes : List ℕ) where
  Ends-refused : (refusal : LexRefusal) (r : IsRefused bytes refusal) → Ends bytes r.place
  Ends-refused refusal r = record {
    inside = r.inside;
    no_blank = bad_no_blank refusal (drop r.place bytes) r.bad;
    no_token = bad_no_token refusal (drop r.place bytes) r.bad;
  }

  pub Lexes-same : (ts us : List Token) → Lexes bytes ts → Lexes bytes us → ts ≡ us
  Lexes-same ts us p q = (lists_same bytes 0 ts us (length bytes) (length bytes) p q (Ends-length bytes) (Ends-length bytes)).0

  pub never_both : (ts : List Token) (refusal : LexRefusal) → Lexes bytes ts → IsRefused bytes refusal → ⊥
  never_both ts refusal p r =
      let same = (lists_same bytes 0 ts r.tokens (length bytes) r.place p r.before (Ends-length bytes) (Ends-refused refusal r)).1 in
      bad_some refusal (subst (IsBad refusal) (drop_all r.place bytes (omega arith)) r.bad)

  pub IsRefused-same : (refusal second : LexRefusal) → IsRefused bytes refusal → IsRefused bytes second → refusal ≡ second
  IsRefused-same refusal second r s =
      let place = (lists_same bytes 0 r.tokens s.tokens r.place s.place r.before s.before (Ends-refused refusal r) (Ends-refused second s)).1 in
      let line : refused_line refusal ≡ refused_line second = r.line ∙ ap (line_at bytes) place ∙ sym s.line in
      bad_is refusal (drop r.place bytes) r.bad ∙ (λ i. refusal_at (drop (place i) bytes) (line i)) ∙ sym (bad_is second (drop s.place bytes) s.bad)

  pub answer_only : (result : Result (List Token) LexRefusal) → IfOk result (Lexes bytes) → IfErr result (λ e. e ≢ Memory → IsRefused bytes e)
      → (tokens : List Token) → Lexes bytes tokens → IsAnswer Memory result (Ok tokens)
  answer_only (Ok found) lexes refused tokens p = inl (ap Ok (Lexes-same found tokens lexes p))
  answer_only (Err Memory) lexes refused tokens p = inr refl
  answer_only (Err refusal) lexes refused tokens p = absurd (never_both tokens refusal p (refused (λ e. cc)))

  pub answer_refuses : (result : Result (List Token) LexRefusal) → IfOk result (Lexes bytes) → IfErr result (λ e. e ≢ Memory → IsRefused bytes e)
      → (refusal : LexRefusal) → IsRefused bytes refusal → IsAnswer Memory result (Err refusal)
  answer_refuses (Ok found) lexes refused refusal r = absurd (never_both found refusal lexes r)
  answer_refuses (Err Memory) lexes refused refusal r = inr refl
  answer_refuses (Err second) lexes refused refusal r = inl (ap Err (IsRefused-same second refusal (refused (λ e. cc)) r))

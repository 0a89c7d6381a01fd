-- Blanks and tokens that were found one after another are the text's, and the lines counted on the way are their lines.
use Rattle.std.proofs.Common.{◌≡◌, ◌≢◌, ℕ, ◌+◌, ◌-◌, ◌≤◌, inl, inr, true, nat_eq, IsTrue, not, List, [], ◌∷◌, ◌++◌, length, take, drop, refl, sym, ap, ◌∙◌, subst, arith, slice_range, count_by, cond, Some, None}
use Rattle.std.proofs.Math.Seq.{take-add}
use Rattle.std.specs.List.{All}
use Rattle.std.proofs.lemmas.List.{length-drop}
use Rattle.std.proofs.lemmas.List.Elements.{All-nil, All-cons, All-head, All-tail, All-append, All-weaker}
use Rattle.std.proofs.lemmas.List.Sums.{sum_by-append, sum_by-cons}
use Rattle.std.proofs.lemmas.Bool.{cond-false, ne_eqb, eqb-false, false≢true}
use Rattle.c_tokens.specs.declared.token.Kind.{Kind}
use Rattle.c_tokens.specs.declared.token.Token.{Token}
use Rattle.c_tokens.specs.declared.token.LexRefusal.{LexRefusal}
use Rattle.c_tokens.specs.Bytes.{is_word_byte}
use Rattle.c_tokens.specs.Words.{mark_text}
use Rattle.c_tokens.specs.Spell.{IsPiece, ArePieces, IsToken, escape}
use Rattle.c_tokens.specs.Blank.{IsBlank}
use Rattle.c_tokens.specs.Lex.{line_at, StandsAt, LexesTo, Lexes, IsBad, refused_line, IsRefused}
use Rattle.c_tokens.specs.inner.Scan.{BeginsWithToken}
use Rattle.c_tokens.proofs.WordsLemmas.{is_other_byte, mark_all}
use Rattle.c_tokens.proofs.uniqueness.Kinds.{Form, character, string, mark, form, form_word}
use Rattle.c_tokens.proofs.ListLemmas.{part_at}

-- from place `at` on these tokens stand one after another, the last of them up to place `end`
abbrev pub Chain : List ℕ → ℕ → List Token → ℕ → Type 0
Chain bytes at [] end = at ≡ end
Chain bytes at (t ∷ ts) end = StandsAt bytes at t × Chain bytes t.to ts end

pub Chain-push : (bytes : List ℕ) (at end : ℕ) (ts : List Token) (t : Token) → Chain bytes at ts end → StandsAt bytes end t → Chain bytes at (ts ++ t ∷ []) t.to
Chain-push bytes at end [] t same stands = (subst (λ (n : ℕ). StandsAt bytes n t) (sym same) stands, refl)
Chain-push bytes at end (u ∷ us) t chain stands = (chain.0, Chain-push bytes u.to end us t chain.1 stands)

pub LexesTo-chain : (bytes : List ℕ) (at end last : ℕ) (ts : List Token) → Chain bytes at ts end → end ≤ last → IsBlank (slice_range bytes end last) (drop last bytes) → LexesTo bytes at ts last
LexesTo-chain bytes at end last [] same up gap = subst (λ (n : ℕ). (n ≤ last) × IsBlank (slice_range bytes n last) (drop last bytes)) (sym same) (up, gap)
LexesTo-chain bytes at end last (t ∷ ts) chain up gap = (chain.0, LexesTo-chain bytes t.to end last ts chain.1 up gap)

-- ---- lines

line_more : (bytes : List ℕ) (at end : ℕ) → at ≤ end → line_at bytes end ≡ line_at bytes at + count_by (λ b. nat_eq b 10) (slice_range bytes at end)
line_more bytes at end up =
    let apart : at + (end - at) ≡ end = omega arith in
    let prefix : take end bytes ≡ take at bytes ++ slice_range bytes at end = ap (λ n. take n bytes) (sym apart) ∙ take-add at (end - at) bytes in
    omega (arith, ap (count_by (λ b. nat_eq b 10)) prefix, sum_by-append (λ b. cond (nat_eq b 10) 1 0) (take at bytes) (slice_range bytes at end))

no_line_ends : (text : List ℕ) → All (λ b. b ≢ 10) text → count_by (λ b. nat_eq b 10) text ≡ 0
no_line_ends [] all = refl
no_line_ends (b ∷ bs) all =
    let here = cond-false {A = ℕ} (nat_eq b 10) 1 0 (ne_eqb b 10 (All-head (λ x. x ≢ 10) b bs all)) in
    omega (arith, here, sum_by-cons (λ x. cond (nat_eq x 10) 1 0) b bs, no_line_ends bs (All-tail (λ x. x ≢ 10) b bs all))

abbrev NoLineEnd : List ℕ → Type 0
NoLineEnd text = All (λ b. b ≢ 10) text

word_no_line_end : (b : ℕ) → is_word_byte b ≡ true → b ≢ 10
word_no_line_end b word = λ e. false≢true (ap is_word_byte (sym e) ∙ word)

other_no_line_end : (b : ℕ) → not (is_other_byte b) ≡ true → b ≢ 10
other_no_line_end b other = λ e. false≢true (ap (λ x. not (is_other_byte x)) (sym e) ∙ other)

escape_no_line_end : (b byte : ℕ) → escape b ≡ Some byte → b ≢ 10
escape_no_line_end b byte means = λ e. let none : None ≡ Some byte = ap escape (sym e) ∙ means in cc

one_no_line_end : (b : ℕ) → b ≢ 10 → NoLineEnd (b ∷ [])
one_no_line_end b ne = All-cons (λ x. x ≢ 10) b [] ne (All-nil (λ x. x ≢ 10))

piece_no_line_end : (quote : ℕ) (piece : List ℕ) (byte : ℕ) → IsPiece quote piece byte → NoLineEnd piece
piece_no_line_end quote piece byte (inl is) = subst NoLineEnd (sym is.0) (one_no_line_end byte (λ e. omega arith))
piece_no_line_end quote piece byte (inr (escaped, is, means)) =
    subst NoLineEnd (sym is) (All-cons (λ x. x ≢ 10) 92 (escaped ∷ []) (eqb-false 92 10 refl) (one_no_line_end escaped (escape_no_line_end escaped byte means)))

pieces_no_line_end : (quote : ℕ) (text bytes : List ℕ) → ArePieces quote text bytes → NoLineEnd text
pieces_no_line_end quote text [] are = subst NoLineEnd (sym are) (All-nil (λ x. x ≢ 10))
pieces_no_line_end quote text (byte ∷ bytes) (piece, rest, is, is_piece, more) =
    subst NoLineEnd (sym is) (All-append (λ x. x ≢ 10) piece rest (piece_no_line_end quote piece byte is_piece) (pieces_no_line_end quote rest bytes more))

quoted_no_line_end : (quote : ℕ) (text : List ℕ) → quote ≢ 10 → NoLineEnd text → NoLineEnd (quote ∷ text ++ quote ∷ [])
quoted_no_line_end quote text ne none = All-cons (λ x. x ≢ 10) quote (text ++ quote ∷ []) ne (All-append (λ x. x ≢ 10) text (quote ∷ []) none (one_no_line_end quote ne))

form_no_line_end : {kind : Kind} {text : List ℕ} → Form kind text → NoLineEnd text
form_no_line_end (character value e (piece, is, is_piece)) = subst NoLineEnd (sym is) (quoted_no_line_end 39 piece (eqb-false 39 10 refl) (piece_no_line_end 39 piece value is_piece))
form_no_line_end (string bytes e (pieces, is, are)) = subst NoLineEnd (sym is) (quoted_no_line_end 34 pieces (eqb-false 34 10 refl) (pieces_no_line_end 34 pieces bytes are))
form_no_line_end (mark m e is) = subst NoLineEnd (sym is) (All-weaker (λ b. IsTrue (not (is_other_byte b))) (λ b. b ≢ 10) other_no_line_end (mark_text m) (mark_all m))
form_no_line_end {text} f = All-weaker (λ b. IsTrue (is_word_byte b)) (λ b. b ≢ 10) word_no_line_end text (form_word f refl)

-- ---- one round: blanks, then a token, the end or a refusal

pub line_counted : (bytes : List ℕ) (at len : ℕ) → line_at bytes (at + len) ≡ line_at bytes at + count_by (λ b. nat_eq b 10) (slice_range bytes at (at + len))
line_counted bytes at len = line_more bytes at (at + len) (omega arith)

module _ (bytes : List ℕ) (tokens : List Token) (at len : ℕ) (before : Chain bytes 0 tokens at) (inside : at + len ≤ length bytes)
    (gap : IsBlank (take len (drop at bytes)) (drop len (drop at bytes))) where
  lexed : LexesTo bytes 0 tokens (at + len)
  lexed = LexesTo-chain bytes 0 at (at + len) tokens before (omega arith) (part_at IsBlank bytes at len gap)

  pub end_lexed : at + len ≡ length bytes → Lexes bytes tokens
  end_lexed all = subst (λ (n : ℕ). LexesTo bytes 0 tokens n) all lexed

  pub refusal_lexed : (refusal : LexRefusal) → IsBad refusal (drop (at + len) bytes) → refused_line refusal ≡ line_at bytes (at + len) → IsRefused bytes refusal
  refusal_lexed refusal bad line = record { tokens = tokens; place = at + len; inside = inside; before = lexed; bad = bad; line = line }

  pub token_lexed : (t : Token) (size : ℕ) → t.from ≡ at + len → t.to ≡ t.from + size → t.line ≡ line_at bytes t.from → BeginsWithToken (drop t.from bytes) t.kind size → StandsAt bytes at t
  token_lexed t size from to line token =
      let some = token.some in let within = token.inside in
      record {
        behind = omega arith;
        some = omega arith;
        inside = omega (arith, length-drop t.from bytes);
        gap = subst (λ (n : ℕ). IsBlank (slice_range bytes at n) (drop n bytes)) (sym from) (part_at IsBlank bytes at len gap);
        token = subst (λ (n : ℕ). IsToken t.kind (slice_range bytes t.from n) (drop n bytes)) (sym to) (part_at (IsToken t.kind) bytes t.from size token.token);
        line = line;
      }

-- a token has no line end, so the line behind it is its own
pub line_behind : (bytes : List ℕ) (at : ℕ) (t : Token) → StandsAt bytes at t → line_at bytes t.to ≡ t.line
line_behind bytes at t stands =
    let some = stands.some in
    let none = no_line_ends (slice_range bytes t.from t.to) (form_no_line_end (form t.kind (slice_range bytes t.from t.to) stands.token.spelled)) in
    omega (arith, line_more bytes t.from t.to (omega arith), none, stands.line)

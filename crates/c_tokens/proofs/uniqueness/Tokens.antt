-- One place has at most one token: each form ends where it must, and where a token begins no blank does.
use Rattle.std.proofs.Common.{◌≡◌, ◌≢◌, ℕ, pos, ◌<◌, ◌≤◌, inl, inr, true, false, ◌||◌, List, [], ◌∷◌, ◌++◌, length, refl, sym, ap, ◌∙◌, subst, arith}
use Rattle.std.specs.List.{prefix_len}
use Rattle.std.proofs.lemmas.Bool.{false≢true, or_from, and_left, false_from_ne_true, cond-true}
use Rattle.c_tokens.specs.declared.token.Kind.{Kind}
use Rattle.c_tokens.specs.declared.token.Kind.TheVariants.{Number, Text, Mark}
use Rattle.c_tokens.specs.declared.token.Mark.{Mark as AMark}
use Rattle.c_tokens.specs.Bytes.{is_white, is_word_byte, begins, begins_with_two}
use Rattle.c_tokens.specs.Words.{mark_text}
use Rattle.c_tokens.specs.Spell.{IsCharacter, IsString, Spells, OpensComment, IsLongest, IsToken}
use Rattle.c_tokens.specs.inner.Scan.{begins_blank}
use Rattle.c_tokens.proofs.ListLemmas.{prefixes_same, prefix_len-append, prefix_len-at_least}
use Rattle.c_tokens.proofs.BlankLemmas.{two_bytes}
use Rattle.c_tokens.proofs.uniqueness.Pieces.{IsCharacter-same, IsString-same}
use Rattle.c_tokens.proofs.uniqueness.Kinds.{white, punctuation, class_of, class_of-append, digit_class, Form, keyword, character, string, mark, form, class_of_form, form_class, Form-some, Spells-same, is_word_class, form_word}

-- the class of bytes that a form begins
pub form_begins : {kind : Kind} {text : List ℕ} (f : Form kind text) (rest : List ℕ) → class_of (text ++ rest) ≡ class_of_form f
form_begins {text} f rest = class_of-append text rest (Form-some f) ∙ form_class f

-- ---- the longest

-- a run that no letter, digit or `_` follows
pub longest_word : {kind : Kind} {text : List ℕ} (f : Form kind text) (rest : List ℕ) → is_word_class (class_of_form f) ≡ true → begins is_word_byte rest ≡ false → IsLongest text rest
longest_word {text} f rest word stops kind found behind e spelled =
    let g = form kind found spelled in
    let classes : class_of_form f ≡ class_of_form g = sym (form_begins f rest) ∙ ap class_of e ∙ form_begins g behind in
    let all = form_word g (ap is_word_class (sym classes) ∙ word) in
    let long = prefix_len-append is_word_byte text rest (form_word f word) stops in
    omega (arith, prefix_len-at_least is_word_byte found behind all, ap (prefix_len is_word_byte) e, long)

-- a character, a string or a mark
character_longest : {kind : Kind} (text rest behind : List ℕ) {found : List ℕ} (byte : ℕ) → IsCharacter text byte → Form kind found → text ++ rest ≡ found ++ behind → length found ≤ length text
character_longest text rest behind {found} byte is (character second e also) same = omega (arith, ap length (IsCharacter-same text found rest behind byte second same is also).0)
character_longest text rest behind byte is g same =
    let f : Form (Number (pos byte)) text = character byte refl is in
    let one = form_begins f rest in
    let two = form_begins g behind in
    absurd cc

pub longest_character : (text rest : List ℕ) (byte : ℕ) → IsCharacter text byte → IsLongest text rest
longest_character text rest byte is kind found behind e spelled = character_longest text rest behind byte is (form kind found spelled) e

string_longest : {kind : Kind} (text rest behind : List ℕ) {found : List ℕ} (bytes : List ℕ) → IsString text bytes → Form kind found → text ++ rest ≡ found ++ behind → length found ≤ length text
string_longest text rest behind {found} bytes is (string seconds e also) same = omega (arith, ap length (IsString-same text found rest behind bytes seconds same is also).0)
string_longest text rest behind bytes is g same =
    let f : Form (Text bytes) text = string bytes refl is in
    let one = form_begins f rest in
    let two = form_begins g behind in
    absurd cc

pub longest_string : (text rest bytes : List ℕ) → IsString text bytes → IsLongest text rest
longest_string text rest bytes is kind found behind e spelled = string_longest text rest behind bytes is (form kind found spelled) e

-- no longer mark begins the bytes
abbrev pub IsLongestMark : AMark → List ℕ → Type 0
IsLongestMark m bytes = (o : AMark) (behind : List ℕ) → bytes ≡ mark_text o ++ behind → length (mark_text o) ≤ length (mark_text m)

mark_longest_form : {kind : Kind} (m : AMark) (rest behind : List ℕ) {found : List ℕ} → IsLongestMark m (mark_text m ++ rest) → Form kind found → mark_text m ++ rest ≡ found ++ behind → length found ≤ length (mark_text m)
mark_longest_form m rest behind longest (mark o e is) same = omega (arith, ap length is, longest o behind (same ∙ ap (λ l. l ++ behind) is))
mark_longest_form m rest behind longest g same =
    let f : Form (Mark m) (mark_text m) = mark m refl refl in
    let one = form_begins f rest in
    let two = form_begins g behind in
    absurd cc

pub longest_mark : (m : AMark) (rest : List ℕ) → IsLongestMark m (mark_text m ++ rest) → IsLongest (mark_text m) rest
longest_mark m rest longest kind found behind e spelled = mark_longest_form m rest behind longest (form kind found spelled) e

-- ---- tokens and comments

comment_class : (bytes : List ℕ) → OpensComment bytes → class_of bytes ≡ punctuation
comment_class bytes (inl block) = ap class_of (two_bytes 47 42 bytes block)
comment_class bytes (inr line) = ap class_of (two_bytes 47 47 bytes line)

-- bytes that begin no mark open no comment
pub no_comment_in : (bytes : List ℕ) → class_of bytes ≢ punctuation → OpensComment bytes → ⊥
no_comment_in bytes ne opens = ne (comment_class bytes opens)

pub token_of_word : {kind : Kind} {text : List ℕ} (rest : List ℕ) → Spells kind text → (f : Form kind text) → is_word_class (class_of_form f) ≡ true → begins is_word_byte rest ≡ false → IsToken kind text rest
token_of_word {kind} {text} rest spelled f word stops = record {
  spelled = spelled;
  no_comment = no_comment_in (text ++ rest) (λ e. let is = form_begins f rest in false≢true (ap is_word_class (sym e ∙ is) ∙ word));
  longest = longest_word f rest word stops;
  whole = λ digit_first. stops;
}

pub token_of_character : (text rest : List ℕ) (byte : ℕ) → IsCharacter text byte → IsToken (Number (pos byte)) text rest
token_of_character text rest byte is =
    let f : Form (Number (pos byte)) text = character byte refl is in
    let begins_it = form_begins f rest in
    record {
      spelled = (byte, refl, inr is);
      no_comment = no_comment_in (text ++ rest) (λ e. cc);
      longest = longest_character text rest byte is;
      whole = λ digit_first. let one = digit_class text digit_first in let two = form_class f in absurd cc;
    }

pub token_of_string : (text rest bytes : List ℕ) → IsString text bytes → IsToken (Text bytes) text rest
token_of_string text rest bytes is =
    let f : Form (Text bytes) text = string bytes refl is in
    let begins_it = form_begins f rest in
    record {
      spelled = is;
      no_comment = no_comment_in (text ++ rest) (λ e. cc);
      longest = longest_string text rest bytes is;
      whole = λ digit_first. let one = digit_class text digit_first in let two = form_class f in absurd cc;
    }

pub token_of_mark : (m : AMark) (rest : List ℕ) → IsLongestMark m (mark_text m ++ rest) → (OpensComment (mark_text m ++ rest) → ⊥) → IsToken (Mark m) (mark_text m) rest
token_of_mark m rest longest no_comment =
    let f : Form (Mark m) (mark_text m) = mark m refl refl in
    record {
      spelled = refl;
      no_comment = no_comment;
      longest = longest_mark m rest longest;
      whole = λ digit_first. let one = digit_class (mark_text m) digit_first in let two = form_class f in absurd cc;
    }

-- one place has at most one token
pub IsToken-same : (kind second : Kind) (text found rest behind : List ℕ) → text ++ rest ≡ found ++ behind
    → IsToken kind text rest → IsToken second found behind → (text ≡ found) × (kind ≡ second)
IsToken-same kind second text found rest behind e one two =
    let cut = prefixes_same text found rest behind e (omega (arith, one.longest second found behind e two.spelled, two.longest kind text rest (sym e) one.spelled)) in
    (cut.0, Spells-same kind second found (subst (Spells kind) cut.0 one.spelled) two.spelled)

-- ---- blanks

white_class : (bytes : List ℕ) → begins is_white bytes ≡ true → class_of bytes ≡ white
white_class [] e = absurd (false≢true e)
white_class (b ∷ bs) e = cond-true (is_white b) white _ e

pub no_white : (bytes : List ℕ) → class_of bytes ≢ white → begins is_white bytes ≡ false
no_white bytes ne = false_from_ne_true (begins is_white bytes) (λ e. ne (white_class bytes e))

pub no_blank : (bytes : List ℕ) → begins is_white bytes ≡ false → (OpensComment bytes → ⊥) → begins_blank bytes ≡ false
no_blank bytes dark closed =
    or_from (begins is_white bytes || begins_with_two 47 47 bytes) _
    (or_from (begins is_white bytes) (begins_with_two 47 47 bytes) dark (false_from_ne_true (begins_with_two 47 47 bytes) (λ e. closed (inr e))))
    (and_left (begins_with_two 47 42 bytes) _ (false_from_ne_true (begins_with_two 47 42 bytes) (λ e. closed (inl e))))

form_no_white : {kind : Kind} {text : List ℕ} (f : Form kind text) → class_of_form f ≢ white
form_no_white (keyword k e is) = λ h. cc
form_no_white f = λ h. cc

pub token_begins_no_blank : (kind : Kind) (text rest : List ℕ) → IsToken kind text rest → begins_blank (text ++ rest) ≡ false
token_begins_no_blank kind text rest token =
    let f = form kind text token.spelled in
    no_blank (text ++ rest) (no_white (text ++ rest) (λ e. form_no_white f (sym (form_begins f rest) ∙ e))) token.no_comment

pub token_some : (kind : Kind) (text rest : List ℕ) → IsToken kind text rest → 0 < length text
token_some kind text rest token = Form-some (form kind text token.spelled)

-- A text has one kind: the forms of a text, told apart by its first byte.
use Rattle.std.proofs.Common.{◌≡◌, ◌≢◌, ℕ, pos, ◌<◌, inl, inr, Bool, true, false, not, cond, nat_eq, IsTrue, Some, List, [], ◌∷◌, ◌++◌, length, refl, sym, ap, ◌∙◌, subst, arith}
use Rattle.std.specs.List.{All}
use Rattle.std.specs.Str.{bytes_eq}
use Rattle.std.specs.List.{find}
use Rattle.std.proofs.lemmas.Bool.{false≢true}
use Rattle.std.proofs.lemmas.Bool.Decides.{nat_tests}
use Rattle.c_tokens.specs.declared.token.Keyword.{Keyword}
use Rattle.c_tokens.specs.declared.token.Mark.{Mark as AMark}
use Rattle.c_tokens.specs.declared.token.Kind.{Kind}
use Rattle.c_tokens.specs.declared.token.Kind.TheVariants.{Word, Name, Number, Text, Mark}
use Rattle.c_tokens.specs.declared.word.TheConstants.{KEYWORDS}
use Rattle.c_tokens.specs.declared.mark.TheConstants.{MARKS}
use Rattle.c_tokens.specs.Bytes.{is_white, is_digit, is_name_start, is_word_byte, begins}
use Rattle.c_tokens.specs.Words.{keyword_text, mark_text}
use Rattle.c_tokens.specs.Spell.{IsIdentifier, IsNoKeyword, IsNumber, IsCharacter, IsString, Spells}
use Rattle.c_tokens.proofs.WordsLemmas.{keyword_of_text, mark_of_text, IsIdentifier-keyword, is_other_byte, mark_begins}
use Rattle.c_tokens.proofs.uniqueness.Pieces.{IsCharacter-same, IsString-same}
use Rattle.c_tokens.proofs.uniqueness.Numbers.{IsDigitRun-of, IsNumber-same}

-- what the first byte says of the token that it begins
pub data Class : Type 0 where
  nothing : Class
  white : Class
  letter : Class
  digit : Class
  apostrophe : Class
  quotation : Class
  punctuation : Class

abbrev pub class_of_byte : ℕ → Class
class_of_byte b =
    cond (is_white b) white (cond (is_name_start b) letter (cond (is_digit b) digit
    (cond (nat_eq b 39) apostrophe (cond (nat_eq b 34) quotation punctuation))))

abbrev pub class_of : List ℕ → Class
class_of [] = nothing
class_of (b ∷ bs) = class_of_byte b

pub letter_class : (bytes : List ℕ) → begins is_name_start bytes ≡ true → class_of bytes ≡ letter
letter_class [] e = absurd (false≢true e)
letter_class (b ∷ bs) e = grind (arith, nat_tests)

pub digit_class : (bytes : List ℕ) → begins is_digit bytes ≡ true → class_of bytes ≡ digit
digit_class [] e = absurd (false≢true e)
digit_class (b ∷ bs) e = grind (arith, nat_tests)

pub other_class : (bytes : List ℕ) → begins (λ b. not (is_other_byte b)) bytes ≡ true → class_of bytes ≡ punctuation
other_class [] e = absurd (false≢true e)
other_class (b ∷ bs) e = grind (arith, nat_tests)

pub class_of-append : (xs ys : List ℕ) → 0 < length xs → class_of (xs ++ ys) ≡ class_of xs
class_of-append [] ys some = absurd (omega arith)
class_of-append (x ∷ xs) ys some = refl

-- the six forms
pub data Form (kind : Kind) (text : List ℕ) : Type 0 where
  keyword : (k : Keyword) → kind ≡ Word k → text ≡ keyword_text k → Form kind text
  name : kind ≡ Name text → IsIdentifier text → IsNoKeyword text → Form kind text
  number : (value : ℕ) → kind ≡ Number (pos value) → IsNumber text value → Form kind text
  character : (value : ℕ) → kind ≡ Number (pos value) → IsCharacter text value → Form kind text
  string : (bytes : List ℕ) → kind ≡ Text bytes → IsString text bytes → Form kind text
  mark : (m : AMark) → kind ≡ Mark m → text ≡ mark_text m → Form kind text

pub form : (kind : Kind) (text : List ℕ) → Spells kind text → Form kind text
form (Word k) text spelled = keyword k refl spelled
form (Name s) text (same, identifier, free) = name (ap Name same) identifier free
form (Number n) text (value, e, inl is) = number value (ap Number e) is
form (Number n) text (value, e, inr is) = character value (ap Number e) is
form (Text s) text spelled = string s refl spelled
form (Mark m) text spelled = mark m refl spelled

abbrev pub class_of_form : {kind : Kind} {text : List ℕ} → Form kind text → Class
class_of_form (keyword k e is) = letter
class_of_form (name e is free) = letter
class_of_form (number value e is) = digit
class_of_form (character value e is) = apostrophe
class_of_form (string bytes e is) = quotation
class_of_form (mark m e is) = punctuation

pub form_class : {kind : Kind} {text : List ℕ} (f : Form kind text) → class_of text ≡ class_of_form f
form_class (keyword k e is) = ap class_of is ∙ letter_class (keyword_text k) (IsIdentifier-keyword k).0
form_class {text} (name e is free) = letter_class text is.0
form_class {text} (number value e is) = digit_class text (IsDigitRun-of text value is).first
form_class (character value e (piece, is, is_piece)) = ap class_of is
form_class (string bytes e (pieces, is, are)) = ap class_of is
form_class (mark m e is) = ap class_of is ∙ other_class (mark_text m) (mark_begins m)

form_some : {kind : Kind} (text : List ℕ) (f : Form kind text) → nothing ≢ class_of_form f → 0 < length text
form_some [] f ne = absurd (ne (form_class f))
form_some (b ∷ bs) f ne = omega arith

no_form_of_nothing : {kind : Kind} {text : List ℕ} (f : Form kind text) → nothing ≢ class_of_form f
no_form_of_nothing (keyword k e is) = λ h. cc
no_form_of_nothing f = λ h. cc

pub Form-some : {kind : Kind} {text : List ℕ} → Form kind text → 0 < length text
Form-some {text} f = form_some text f (no_form_of_nothing f)

-- a text has one kind
form_same : {kind other : Kind} {text : List ℕ} → Form kind text → Form other text → kind ≡ other
form_same (keyword k e is) (keyword l d also) =
    let found : Some k ≡ Some l = sym (keyword_of_text k) ∙ ap (λ t. find (λ o. bytes_eq (keyword_text o) t) KEYWORDS) (sym is ∙ also) ∙ keyword_of_text l in
    let same : k ≡ l = cc in
    e ∙ ap Word same ∙ sym d
form_same (keyword k e is) (name d also free) = absurd (free k is)
form_same (name e is free) (keyword l d also) = absurd (free l also)
form_same (name e is free) (name d also also_free) = e ∙ sym d
form_same {text} (number value e is) (number second d also) = e ∙ ap (λ n. Number (pos n)) (IsNumber-same text value second is also) ∙ sym d
form_same {text} (character value e is) (character second d also) = e ∙ ap (λ n. Number (pos n)) (IsCharacter-same text text [] [] value second refl is also).1 ∙ sym d
form_same {text} (string bytes e is) (string seconds d also) = e ∙ ap Text (IsString-same text text [] [] bytes seconds refl is also).1 ∙ sym d
form_same (mark m e is) (mark o d also) =
    let found : Some m ≡ Some o = sym (mark_of_text m) ∙ ap (λ t. find (λ a. bytes_eq (mark_text a) t) MARKS) (sym is ∙ also) ∙ mark_of_text o in
    let same : m ≡ o = cc in
    e ∙ ap Mark same ∙ sym d
form_same f g = let one = form_class f in let two = form_class g in absurd cc

pub Spells-same : (kind other : Kind) (text : List ℕ) → Spells kind text → Spells other text → kind ≡ other
Spells-same kind other text p q = form_same (form kind text p) (form other text q)

-- words are made of letters, digits and `_`
abbrev pub is_word_class : Class → Bool
is_word_class letter = true
is_word_class digit = true
is_word_class c = false

pub form_word : {kind : Kind} {text : List ℕ} (f : Form kind text) → is_word_class (class_of_form f) ≡ true → All (λ b. IsTrue (is_word_byte b)) text
form_word {text} (keyword k e is) word = subst (λ (t : List ℕ). All (λ b. IsTrue (is_word_byte b)) t) (sym is) (IsIdentifier-keyword k).1
form_word (name e is free) word = is.1
form_word {text} (number value e is) word = (IsDigitRun-of text value is).all
form_word f word = absurd (false≢true word)

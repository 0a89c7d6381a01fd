-- The keywords and marks: lemmas that the checker computes over a whole table.
use Rattle.std.proofs.Common.{◌≡◌, ℕ, ◌≤◌, Bool, true, not, ◌&&◌, ◌||◌, leb, Some, None, List, [], ◌∷◌, ◌++◌, length, drop, refl, sym, ap, ◌∙◌, nat_eq, IsTrue, arith, zero, suc, ⊎_elim}
use Rattle.std.specs.Str.{bytes_eq}
use Rattle.std.specs.List.{All, Contains, list_all, find, position_or_len, starts_with}
use Rattle.std.proofs.lemmas.Bool.{ltb-true, leb-true, cases_Bool, cond-true, cond-false, and_parts}
use Rattle.std.proofs.lemmas.Bool.Decides.{Decides-eqb}
use Rattle.std.proofs.lemmas.List.Elements.{All-contains}
use Rattle.std.proofs.lemmas.List.Sums.{AllPass-from_list_all}
use Rattle.std.proofs.lemmas.Slice.Eq.{starts_is, bytes_eq-Decides}
use Rattle.c_tokens.specs.declared.token.Keyword.{Keyword}
use Rattle.c_tokens.specs.declared.token.Keyword.TheVariants as word
use Rattle.c_tokens.specs.declared.token.Mark.{Mark}
use Rattle.c_tokens.specs.declared.token.Mark.TheVariants as mark
use Rattle.c_tokens.specs.declared.word.TheConstants.{KEYWORDS}
use Rattle.c_tokens.specs.declared.mark.TheConstants.{MARKS}
use Rattle.c_tokens.specs.Bytes.{is_white, is_quote, is_name_start, is_word_byte, begins}
use Rattle.c_tokens.specs.Words.{keyword_text, mark_text}
use Rattle.c_tokens.specs.Spell.{IsIdentifier, IsNoKeyword}
use Rattle.c_tokens.proofs.ListLemmas.{find_passes, find_misses}

-- no two keywords and no two marks have one text
pub keyword_of_text : (k : Keyword) → find (λ o. bytes_eq (keyword_text o) (keyword_text k)) KEYWORDS ≡ Some k
keyword_of_text word.Int = refl
keyword_of_text k = refl

pub mark_of_text : (m : Mark) → find (λ o. bytes_eq (mark_text o) (mark_text m)) MARKS ≡ Some m
mark_of_text mark.LeftParenthesis = refl
mark_of_text m = refl

mark_place : Mark → ℕ
mark_place m = position_or_len (λ o. bytes_eq (mark_text o) (mark_text m)) MARKS

pub Contains-MARKS : (m : Mark) → Contains MARKS m
unfolding mark_place
Contains-MARKS mark.LeftParenthesis = (mark_place mark.LeftParenthesis, ltb-true (mark_place mark.LeftParenthesis) 45 refl, refl)
Contains-MARKS m = (mark_place m, ltb-true (mark_place m) 45 refl, refl)

-- a keyword is spelled as a name is
keyword_bytes : (k : Keyword) → (begins is_name_start (keyword_text k) && list_all is_word_byte (keyword_text k)) ≡ true
keyword_bytes word.Int = refl
keyword_bytes k = refl

pub IsIdentifier-keyword : (k : Keyword) → IsIdentifier (keyword_text k)
IsIdentifier-keyword k =
    let parts = and_parts (begins is_name_start (keyword_text k)) (list_all is_word_byte (keyword_text k)) (keyword_bytes k) in
    (parts.0, AllPass-from_list_all is_word_byte (keyword_text k) parts.1)

-- none of the bytes that a mark is made of
abbrev pub is_other_byte : ℕ → Bool
is_other_byte b = is_white b || is_word_byte b || is_quote b

-- a mark begins with no such byte, and has none
mark_bytes : (m : Mark) → (begins (λ b. not (is_other_byte b)) (mark_text m) && list_all (λ b. not (is_other_byte b)) (mark_text m)) ≡ true
mark_bytes mark.LeftParenthesis = refl
mark_bytes m = refl

pub mark_begins : (m : Mark) → begins (λ b. not (is_other_byte b)) (mark_text m) ≡ true
mark_begins m = (and_parts _ _ (mark_bytes m)).0

pub mark_all : (m : Mark) → All (λ b. IsTrue (not (is_other_byte b))) (mark_text m)
mark_all m = AllPass-from_list_all (λ b. not (is_other_byte b)) (mark_text m) (and_parts _ _ (mark_bytes m)).1

-- the longest mark comes first in the table
falling : List Mark → Bool
falling [] = true
falling (m ∷ ms) = list_all (λ o. leb (length (mark_text o)) (length (mark_text m))) ms && falling ms

first_longest : (p : Mark → Bool) (ms : List Mark) (m o : Mark) → falling ms ≡ true → find p ms ≡ Some m → Contains ms o → p o ≡ true → length (mark_text o) ≤ length (mark_text m)
unfolding falling
first_longest p [] m o falls found inside passes = absurd (omega (arith, inside.1))
first_longest p (x ∷ xs) m o falls found (zero, below, is) passes =
    let here : p x ≡ true = ap p is ∙ passes in
    let first : Some x ≡ Some m = sym (cond-true (p x) (Some x) (find p xs) here) ∙ found in
    let same : o ≡ m = cc in
    omega (arith, ap (λ a. length (mark_text a)) same)
first_longest p (x ∷ xs) m o falls found (suc k, below, is) passes =
    let parts = and_parts (list_all (λ a. leb (length (mark_text a)) (length (mark_text x))) xs) (falling xs) falls in
    let inside : Contains xs o = (k, omega arith, is) in
    ⊎_elim
    (λ here.
    let first : Some x ≡ Some m = sym (cond-true (p x) (Some x) (find p xs) here) ∙ found in
    let same : x ≡ m = cc in
    let shorter = leb-true (length (mark_text o)) (length (mark_text x)) (All-contains (λ a. leb (length (mark_text a)) (length (mark_text x)) ≡ true) xs o (AllPass-from_list_all (λ a. leb (length (mark_text a)) (length (mark_text x))) xs parts.0) inside) in
    omega (arith, shorter, ap (λ a. length (mark_text a)) same))
    (λ past. first_longest p xs m o parts.1 (sym (cond-false (p x) (Some x) (find p xs) past) ∙ found) inside passes)
    (cases_Bool (p x))

-- the text is a prefix of the bytes
begins_with : (bytes text rest : List ℕ) → bytes ≡ text ++ rest → starts_with nat_eq bytes text ≡ true
begins_with bytes text rest e = (starts_is Decides-eqb bytes text (starts_with nat_eq bytes text) refl).1 rest e

pub mark_found : (bytes : List ℕ) (m : Mark) → find (λ o. starts_with nat_eq bytes (mark_text o)) MARKS ≡ Some m
    → bytes ≡ mark_text m ++ drop (length (mark_text m)) bytes
mark_found bytes m found =
    (starts_is Decides-eqb bytes (mark_text m) (starts_with nat_eq bytes (mark_text m)) refl).0 (find_passes (λ o. starts_with nat_eq bytes (mark_text o)) MARKS m found)

pub mark_longest : (bytes rest : List ℕ) (m o : Mark) → find (λ a. starts_with nat_eq bytes (mark_text a)) MARKS ≡ Some m
    → bytes ≡ mark_text o ++ rest → length (mark_text o) ≤ length (mark_text m)
unfolding falling
mark_longest bytes rest m o found e = first_longest (λ a. starts_with nat_eq bytes (mark_text a)) MARKS m o refl found (Contains-MARKS o) (begins_with bytes (mark_text o) rest e)

pub no_mark : (bytes rest : List ℕ) (o : Mark) → find (λ a. starts_with nat_eq bytes (mark_text a)) MARKS ≡ None → bytes ≡ mark_text o ++ rest → ⊥
no_mark bytes rest o none e = find_misses (λ a. starts_with nat_eq bytes (mark_text a)) MARKS o none (Contains-MARKS o) (begins_with bytes (mark_text o) rest e)

-- what the look-up of a word says
pub keyword_found : (word : List ℕ) (k : Keyword) → find (λ o. bytes_eq (keyword_text o) word) KEYWORDS ≡ Some k → word ≡ keyword_text k
keyword_found word k found = sym ((bytes_eq-Decides (keyword_text k) word).0 (find_passes (λ o. bytes_eq (keyword_text o) word) KEYWORDS k found))

pub no_keyword : (word : List ℕ) → find (λ o. bytes_eq (keyword_text o) word) KEYWORDS ≡ None → IsNoKeyword word
no_keyword word none k e =
    let found : Some k ≡ None = sym (keyword_of_text k) ∙ ap (λ t. find (λ o. bytes_eq (keyword_text o) t) KEYWORDS) (sym e) ∙ none in
    cc

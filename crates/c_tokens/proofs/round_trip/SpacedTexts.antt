-- Texts of tokens with a space behind each have just these tokens.
use Rattle.std.proofs.Common.{◌≡◌, ℕ, ◌+◌, inl, inr, Bool, false, not, ◌||◌, List, [], ◌∷◌, ◌++◌, map, length, drop, refl, sym, ap, ◌∙◌, subst, arith, append_assoc, length-append, slice_range}
use Rattle.std.specs.List.{prefix_len}
use Rattle.std.proofs.lemmas.Bool.{or_parts, both_ways}
use Rattle.std.proofs.lemmas.List.{drop_at}
use Rattle.c_tokens.specs.declared.token.Kind.{Kind}
use Rattle.c_tokens.specs.declared.token.Kind.TheVariants.{Mark}
use Rattle.c_tokens.specs.declared.token.Mark.{Mark as AMark}
use Rattle.c_tokens.specs.declared.token.Token.{Token}
use Rattle.c_tokens.specs.Bytes.{begins_with_two}
use Rattle.c_tokens.specs.Words.{mark_text}
use Rattle.c_tokens.specs.Spell.{Spells, IsToken, OpensComment}
use Rattle.c_tokens.specs.Blank.{IsBlank}
use Rattle.c_tokens.specs.Lex.{line_at, StandsAt, LexesTo, spaced, SpellEach}
use Rattle.c_tokens.specs.Theorems.{SpacedTextLexes}
use Rattle.c_tokens.proofs.ListLemmas.{prefix_len-append, prefix_len-at_least, split_at_length, part_at}
use Rattle.c_tokens.proofs.BlankLemmas.{IsBlank-nil}
use Rattle.c_tokens.proofs.WordsLemmas.{is_other_byte, mark_all}
use Rattle.c_tokens.proofs.uniqueness.Kinds.{Form, character, string, mark, form}
use Rattle.c_tokens.proofs.uniqueness.Tokens.{IsLongestMark, token_some, token_of_word, token_of_character, token_of_string, token_of_mark}
use Rattle.c_tokens.specs.declared.token.Mark.TheVariants as marks

-- ---- a space ends each token

no_comment_before_space : (m : AMark) (rest : List ℕ) → (begins_with_two 47 42 (mark_text m ++ 32 ∷ rest) || begins_with_two 47 47 (mark_text m ++ 32 ∷ rest)) ≡ false
no_comment_before_space marks.LeftParenthesis rest = refl
no_comment_before_space m rest = refl

closed_before_space : (m : AMark) (rest : List ℕ) → OpensComment (mark_text m ++ 32 ∷ rest) → ⊥
closed_before_space m rest (inl block) = both_ways _ (or_parts (begins_with_two 47 42 (mark_text m ++ 32 ∷ rest)) (begins_with_two 47 47 (mark_text m ++ 32 ∷ rest)) (no_comment_before_space m rest)).0 block
closed_before_space m rest (inr line) = both_ways _ (or_parts (begins_with_two 47 42 (mark_text m ++ 32 ∷ rest)) (begins_with_two 47 47 (mark_text m ++ 32 ∷ rest)) (no_comment_before_space m rest)).1 line

longest_before_space : (m : AMark) (rest : List ℕ) → IsLongestMark m (mark_text m ++ 32 ∷ rest)
longest_before_space m rest o behind e =
    let p : ℕ → Bool = λ b. not (is_other_byte b) in
    omega (arith, prefix_len-at_least p (mark_text o) behind (mark_all o), ap (prefix_len p) e, prefix_len-append p (mark_text m) (32 ∷ rest) (mark_all m) refl)

form_before_space : {kind : Kind} {text : List ℕ} (rest : List ℕ) → Spells kind text → Form kind text → IsToken kind text (32 ∷ rest)
form_before_space {kind} {text} rest spelled (character value e is) = subst (λ (k : Kind). IsToken k text (32 ∷ rest)) (sym e) (token_of_character text (32 ∷ rest) value is)
form_before_space {kind} {text} rest spelled (string bytes e is) = subst (λ (k : Kind). IsToken k text (32 ∷ rest)) (sym e) (token_of_string text (32 ∷ rest) bytes is)
form_before_space {kind} {text} rest spelled (mark m e is) =
    let token = token_of_mark m (32 ∷ rest) (longest_before_space m rest) (closed_before_space m rest) in
    subst (λ (k : Kind). IsToken k text (32 ∷ rest)) (sym e) (subst (λ (t : List ℕ). IsToken (Mark m) t (32 ∷ rest)) (sym is) token)
form_before_space {kind} {text} rest spelled f = token_of_word (32 ∷ rest) spelled f refl refl

token_before_space : (kind : Kind) (text rest : List ℕ) → Spells kind text → IsToken kind text (32 ∷ rest)
token_before_space kind text rest spelled = form_before_space rest spelled (form kind text spelled)

-- ---- the whole text

-- a fact on the middle of some bytes and on what follows it
middle : (P : List ℕ → List ℕ → Type 0) (bytes prefix text rest : List ℕ) → bytes ≡ prefix ++ (text ++ rest) → P text rest
    → P (slice_range bytes (length prefix) (length prefix + length text)) (drop (length prefix + length text) bytes)
middle P bytes prefix text rest e p =
    part_at P bytes (length prefix) (length text) (split_at_length P (drop (length prefix) bytes) text rest (length text) (ap (drop (length prefix)) e ∙ drop_at prefix (text ++ rest) (length prefix) refl) refl p)

space_blank : (rest : List ℕ) → IsBlank (32 ∷ []) rest
space_blank rest = ((32 ∷ []) ∷ [], refl, (inl (32, refl, refl), tt))

spaced_from : (bytes prefix gap : List ℕ) (kinds : List Kind) (texts : List (List ℕ)) → bytes ≡ prefix ++ (gap ++ spaced texts) → ((rest : List ℕ) → IsBlank gap rest)
    → SpellEach kinds texts → (tokens : List Token) × (map (λ t. t.kind) tokens ≡ kinds) × LexesTo bytes (length prefix) tokens (length bytes)
spaced_from bytes prefix gap [] [] e blank spelled =
    let size : length bytes ≡ length prefix + length gap = omega (arith, ap length e, length-append prefix (gap ++ []), length-append gap []) in
    ([], refl, (omega arith, subst (λ (n : ℕ). IsBlank (slice_range bytes (length prefix) n) (drop n bytes)) (sym size) (middle IsBlank bytes prefix gap [] e (blank []))))
spaced_from bytes prefix gap [] (text ∷ texts) e blank spelled = absurd spelled
spaced_from bytes prefix gap (kind ∷ kinds) [] e blank spelled = absurd spelled
spaced_from bytes prefix gap (kind ∷ kinds) (text ∷ texts) e blank spelled =
    let rest = 32 ∷ spaced texts in
    let token = token_before_space kind text (spaced texts) spelled.0 in
    let some = token_some kind text rest token in
    let all = text ++ rest in
    let before = prefix ++ gap in
    let behind : bytes ≡ before ++ (text ++ rest) = e ∙ sym (append_assoc prefix gap all) in
    let onward : bytes ≡ (before ++ text) ++ (32 ∷ [] ++ spaced texts) = behind ∙ sym (append_assoc before text rest) in
    let later = spaced_from bytes (before ++ text) (32 ∷ []) kinds texts onward space_blank spelled.1 in
    let from : length before ≡ length prefix + length gap = length-append prefix gap in
    let to : length (before ++ text) ≡ length before + length text = length-append before text in
    let t : Token = record { kind = kind; from = length before; to = length (before ++ text); line = line_at bytes (length before) } in
    let stands : StandsAt bytes (length prefix) t = record {
      behind = omega arith;
      some = omega arith;
      inside = omega (arith, ap length onward, length-append (before ++ text) rest);
      gap = subst (λ (n : ℕ). IsBlank (slice_range bytes (length prefix) n) (drop n bytes)) (sym from) (middle IsBlank bytes prefix gap all e (blank all));
      token = subst (λ (n : ℕ). IsToken kind (slice_range bytes (length before) n) (drop n bytes)) (sym to) (middle (IsToken kind) bytes before text rest behind token);
      line = refl;
    } in
    (t ∷ later.0, ap (λ ks. kind ∷ ks) later.1, (stands, later.2))

pub spaced_lexes : SpacedTextLexes
spaced_lexes kinds texts spelled = spaced_from (spaced texts) [] [] kinds texts refl IsBlank-nil spelled

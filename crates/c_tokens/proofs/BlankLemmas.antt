-- White space and comments: one part ends in one place, and so do the blanks before what is none.
use Rattle.std.proofs.Common.{◌≡◌, ◌≢◌, ℕ, ◌+◌, ◌<◌, ◌⊎◌, inl, inr, Bool, true, false, not, cond, ◌||◌, nat_eq, IsTrue, List, [], ◌∷◌, ◌++◌, length, drop, refl, sym, ap, ◌∙◌, subst, arith, append_assoc, length-append}
use Rattle.std.specs.List.{All, prefix_len, concat}
use Rattle.std.proofs.lemmas.Bool.{cond-true, cond-false, or_parts, false≢true, both_ways, eqb-true, ne_eqb, or_left, or_right, not_from_false, and_parts}
use Rattle.std.proofs.lemmas.List.{append-nil}
use Rattle.std.proofs.lemmas.List.Folds.{concat-append}
use Rattle.std.proofs.lemmas.List.Elements.{All-weaker}
use Rattle.c_tokens.specs.Bytes.{is_white, begins, begins_with_two}
use Rattle.c_tokens.specs.Blank.{has_close, IsBlankPart, AreBlankParts, IsBlank}
use Rattle.c_tokens.specs.inner.Scan.{begins_blank}
use Rattle.c_tokens.proofs.ListLemmas.{prefixes_same, prefix_len-append}

-- the bytes before the first `*/`
abbrev pub close_place : List ℕ → ℕ
close_place [] = 0
close_place (b ∷ bs) = cond (begins_with_two 42 47 (b ∷ bs)) 0 (1 + close_place bs)

-- what stands behind a `*` doesn't change whether the bytes before it begin with `*/`
begins_close_before : (b : ℕ) (bs rest : List ℕ) → begins_with_two 42 47 (b ∷ bs ++ 42 ∷ rest) ≡ begins_with_two 42 47 (b ∷ bs ++ 42 ∷ [])
begins_close_before b [] rest = refl
begins_close_before b (c ∷ bs) rest = refl

pub close_place-body : (body rest : List ℕ) → has_close (body ++ 42 ∷ []) ≡ false → close_place (body ++ 42 ∷ 47 ∷ rest) ≡ length body
close_place-body [] rest none = refl
close_place-body (b ∷ bs) rest none =
    let parts = or_parts (begins_with_two 42 47 (b ∷ bs ++ 42 ∷ [])) (has_close (bs ++ 42 ∷ [])) none in
    let later = close_place-body bs rest parts.1 in
    cond-false (begins_with_two 42 47 (b ∷ bs ++ 42 ∷ 47 ∷ rest)) 0 (1 + close_place (bs ++ 42 ∷ 47 ∷ rest)) (begins_close_before b bs (47 ∷ rest) ∙ parts.0) ∙ omega (arith, later)

pub has_close-body : (body rest : List ℕ) → has_close (body ++ 42 ∷ 47 ∷ rest) ≡ true
has_close-body [] rest = refl
has_close-body (b ∷ bs) rest = or_right (begins_with_two 42 47 (b ∷ bs ++ 42 ∷ 47 ∷ rest)) (has_close (bs ++ 42 ∷ 47 ∷ rest)) (has_close-body bs rest)

abbrev is_no_line_end : ℕ → Bool
is_no_line_end b = not (nat_eq b 10)

-- the length of the white byte or comment that the bytes begin with
abbrev pub part_len : List ℕ → ℕ
part_len bytes = cond (begins is_white bytes) 1 (cond (begins_with_two 47 47 bytes) (prefix_len is_no_line_end bytes) (4 + close_place (drop 2 bytes)))

no_line_end_follows : (rest : List ℕ) → (rest ≡ []) ⊎ IsTrue (begins (λ b. nat_eq b 10) rest) → begins is_no_line_end rest ≡ false
no_line_end_follows [] h = refl
no_line_end_follows (b ∷ bs) (inl e) = absurd (cc)
no_line_end_follows (b ∷ bs) (inr e) = rw e

-- what a blank part begins is blank, and has one length
pub record BeginsWithBlank (part rest : List ℕ) : Type 0 where
  pub blank : begins_blank (part ++ rest) ≡ true
  pub long : part_len (part ++ rest) ≡ length part
  pub some : 0 < length part

white_begins : (b : ℕ) (rest : List ℕ) → IsTrue (is_white b) → BeginsWithBlank (b ∷ []) rest
white_begins b rest white = record {
  blank = or_left (is_white b || begins_with_two 47 47 (b ∷ rest)) _ (or_left (is_white b) _ white);
  long = cond-true (is_white b) _ _ white;
  some = omega arith;
}

block_begins : (body rest : List ℕ) → has_close (body ++ 42 ∷ []) ≡ false → BeginsWithBlank (47 ∷ 42 ∷ body ++ 42 ∷ 47 ∷ []) rest
block_begins body rest first =
    let regrouped : (body ++ 42 ∷ 47 ∷ []) ++ rest ≡ body ++ 42 ∷ 47 ∷ rest = append_assoc body (42 ∷ 47 ∷ []) rest in
    let place : close_place ((body ++ 42 ∷ 47 ∷ []) ++ rest) ≡ length body = ap close_place regrouped ∙ close_place-body body rest first in
    record {
      blank = ap has_close regrouped ∙ has_close-body body rest;
      long = omega (arith, place, length-append body (42 ∷ 47 ∷ []));
      some = omega arith;
    }

line_begins : (body rest : List ℕ) → All (λ b. b ≢ 10) body → (rest ≡ []) ⊎ IsTrue (begins (λ b. nat_eq b 10) rest) → BeginsWithBlank (47 ∷ 47 ∷ body) rest
line_begins body rest none follows =
    let length_is = prefix_len-append is_no_line_end body rest (All-weaker (λ b. b ≢ 10) (λ b. IsTrue (is_no_line_end b)) (λ b ne. not_from_false (nat_eq b 10) (ne_eqb b 10 ne)) body none) (no_line_end_follows rest follows) in
    record {
      blank = refl;
      long = omega (arith, length_is);
      some = omega arith;
    }

pub BeginsWithBlank-of : (part rest : List ℕ) → IsBlankPart part rest → BeginsWithBlank part rest
BeginsWithBlank-of part rest (inl (b, e, white)) = subst (λ (t : List ℕ). BeginsWithBlank t rest) (sym e) (white_begins b rest white)
BeginsWithBlank-of part rest (inr (inl (body, e, first))) = subst (λ (t : List ℕ). BeginsWithBlank t rest) (sym e) (block_begins body rest first)
BeginsWithBlank-of part rest (inr (inr (body, e, none, follows))) = subst (λ (t : List ℕ). BeginsWithBlank t rest) (sym e) (line_begins body rest none follows)

-- blanks before bytes that begin with none are forced
pub blanks_same : (parts others : List (List ℕ)) (x y : List ℕ) → AreBlankParts parts x → AreBlankParts others y
    → concat parts ++ x ≡ concat others ++ y → begins_blank x ≡ false → begins_blank y ≡ false → concat parts ≡ concat others
blanks_same [] [] x y p q e no_x no_y = refl
blanks_same [] (other ∷ others) x y p q e no_x no_y =
    let prefix = BeginsWithBlank-of other (concat others ++ y) q.0 in
    absurd (both_ways (begins_blank x) no_x (ap begins_blank (e ∙ append_assoc other (concat others) y) ∙ prefix.blank))
blanks_same (part ∷ parts) [] x y p q e no_x no_y =
    let prefix = BeginsWithBlank-of part (concat parts ++ x) p.0 in
    absurd (both_ways (begins_blank y) no_y (ap begins_blank (sym e ∙ append_assoc part (concat parts) x) ∙ prefix.blank))
blanks_same (part ∷ parts) (other ∷ others) x y p q e no_x no_y =
    let one = BeginsWithBlank-of part (concat parts ++ x) p.0 in
    let two = BeginsWithBlank-of other (concat others ++ y) q.0 in
    let same = sym (append_assoc part (concat parts) x) ∙ e ∙ append_assoc other (concat others) y in
    let cut = prefixes_same part other _ _ same (sym one.long ∙ ap part_len same ∙ two.long) in
    let later = blanks_same parts others x y p.1 q.1 cut.1 no_x no_y in
    (λ i. cut.0 i ++ later i)

concat_push : (parts : List (List ℕ)) (part : List ℕ) → concat (parts ++ part ∷ []) ≡ concat parts ++ part
concat_push parts part = concat-append parts (part ∷ []) ∙ ap (λ l. concat parts ++ l) (append-nil part)

-- one more part behind blanks
AreBlankParts-push : (parts : List (List ℕ)) (part rest : List ℕ) → AreBlankParts parts (part ++ rest) → IsBlankPart part rest → AreBlankParts (parts ++ part ∷ []) rest
AreBlankParts-push [] part rest before last = (last, tt)
AreBlankParts-push (p ∷ ps) part rest before last =
    let behind : concat ps ++ (part ++ rest) ≡ concat (ps ++ part ∷ []) ++ rest = sym (ap (λ l. l ++ rest) (concat_push ps part) ∙ append_assoc (concat ps) part rest) in
    (subst (IsBlankPart p) behind before.0, AreBlankParts-push ps part rest before.1 last)

pub IsBlank-nil : (rest : List ℕ) → IsBlank [] rest
IsBlank-nil rest = ([], refl, tt)

pub IsBlank-push : (text part rest : List ℕ) → IsBlank text (part ++ rest) → IsBlankPart part rest → IsBlank (text ++ part) rest
IsBlank-push text part rest (parts, e, each) last =
    (parts ++ part ∷ [], ap (λ l. l ++ part) e ∙ sym (concat_push parts part), AreBlankParts-push parts part rest each last)

pub IsBlank-same : (text other x y : List ℕ) → IsBlank text x → IsBlank other y → text ++ x ≡ other ++ y
    → begins_blank x ≡ false → begins_blank y ≡ false → text ≡ other
IsBlank-same text other x y (parts, e, each) (others, d, all) same no_x no_y =
    e ∙ blanks_same parts others x y each all (ap (λ l. l ++ x) (sym e) ∙ same ∙ ap (λ l. l ++ y) d) no_x no_y ∙ sym d

-- an open comment begins no blank
pub two_bytes : (a b : ℕ) (bytes : List ℕ) → begins_with_two a b bytes ≡ true → bytes ≡ a ∷ b ∷ drop 2 bytes
two_bytes a b [] e = absurd (false≢true e)
two_bytes a b (x ∷ []) e = absurd (false≢true e)
two_bytes a b (x ∷ y ∷ bs) e =
    let parts = and_parts (nat_eq x a) (nat_eq y b) e in
    let first = eqb-true x a parts.0 in
    let second = eqb-true y b parts.1 in
    (λ i. first i ∷ second i ∷ bs)

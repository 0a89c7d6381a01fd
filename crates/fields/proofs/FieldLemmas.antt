-- The fields of a text, one after another, and the lines that are written of fields.
use Rattle.std.proofs.Common.{◌≡◌, ◌≢◌, ℕ, ◌+◌, ◌<◌, ◌≤◌, true, false, List, [], ◌∷◌, ◌++◌, length, take, drop, get_or, refl, sym, ap, ◌∙◌, arith, Option, None, Some, MatchOption, append_assoc, Bor, ⊎_elim}
use Rattle.std.specs.Prelude.{nat_eq, not, ◌||◌}
use Rattle.std.specs.List.{AllByRecursion, position_or_len, flat_map}
use Rattle.std.specs.Str.{all_ascii_digits}
use Rattle.std.proofs.lemmas.Bool.{cond_both, cond-true, cond-false, ne_eqb, eqb-true, and_from, and_parts, or_from, or_parts, not-true, not_from_false, cases_lt}
use Rattle.std.proofs.lemmas.List.{append-nil, drop_more, get_or-take, length-take-le, take_all, take-append-drop}
use Rattle.std.proofs.lemmas.List.Elements.{recursion_from_All}
use Rattle.std.proofs.lemmas.List.Sums.{prefix_len-le-length, fails_before_first, passes_at_first}
use Rattle.std.proofs.lemmas.Str.Parse.{tells_all_ascii_digits}
use Rattle.job.specs.Lines.{lines_of, onto_first}
use Rattle.fields.specs.Fields.{fields_of, spaced, line, is_plain, IsPlain, ArePlain}
use Rattle.fields.specs.inner.Rest.{left}

-- no byte is this one
abbrev Lacks : ℕ → List ℕ → Type 0
Lacks c text = AllByRecursion (λ b. nat_eq b c ≡ false) text

-- the bytes before the first space have none
none_before : (text : List ℕ) → Lacks 32 (take (position_or_len (λ b. nat_eq b 32) text) text)
none_before text =
    let n = position_or_len (λ b. nat_eq b 32) text in
    let le = prefix_len-le-length (λ b. not (nat_eq b 32)) text in
    recursion_from_All (λ b. nat_eq b 32 ≡ false) (take n text) (λ k d below.
    let within : k < n = omega (arith, length-take-le n text le) in
    rw get_or-take (fails_before_first (λ b. nat_eq b 32) text k d within))

-- bytes without a space are one field
only_field : (text : List ℕ) → Lacks 32 text → fields_of text ≡ text ∷ []
only_field [] none = refl
only_field (b ∷ bs) none = cond-false (nat_eq b 32) _ _ none.0 ∙ ap (onto_first b) (only_field bs none.1)

-- and the first field, where a space stands behind them
field_then : (text rest : List ℕ) → Lacks 32 text → fields_of (text ++ 32 ∷ rest) ≡ text ∷ fields_of rest
field_then [] rest none = refl
field_then (b ∷ bs) rest none = cond-false (nat_eq b 32) _ _ none.0 ∙ ap (onto_first b) (field_then bs rest none.1)

-- the first field and what is left behind it
pub first_field : (text : List ℕ) (n : ℕ) (r : Option (Bor (List ℕ))) → n ≡ position_or_len (λ b. nat_eq b 32) text → MatchOption r ((rest : List ℕ) → drop n text ≢ 32 ∷ rest) (λ x. drop n text ≡ 32 ∷ x.now) → fields_of text ≡ take n text ∷ left r
first_field text n (Some x) at is =
    let none : Lacks 32 (take n text) = rw at (none_before text) in
    ap fields_of (sym (take-append-drop n text) ∙ ap (λ t. take n text ++ t) is) ∙ field_then (take n text) x.now none
first_field text n None at none =
    let space = λ (b : ℕ). nat_eq b 32 in
    ⊎_elim {A = n < length text}
    (λ below.
    let here : position_or_len space text < length text = omega arith in
    let is : get_or text n 0 ≡ 32 = rw at (eqb-true _ 32 (passes_at_first space text 0 here)) in
    absurd (none (drop (n + 1) text) (drop_more text n 0 below ∙ ap (λ b. b ∷ drop (n + 1) text) is)))
    (λ above.
    let whole : take n text ≡ text = take_all n text above in
    let lacks : Lacks 32 (take n text) = rw at (none_before text) in
    ap fields_of (sym whole) ∙ only_field (take n text) lacks)
    (cases_lt n (length text))

-- ---- what is written of plain fields

plain_parts : (b : ℕ) (bs : List ℕ) → IsPlain (b ∷ bs) → (nat_eq b 32 ≡ false) × (nat_eq b 10 ≡ false) × IsPlain bs
plain_parts b bs plain =
    let p = and_parts (not (nat_eq b 32 || nat_eq b 10)) (is_plain bs) plain in
    let q = or_parts (nat_eq b 32) (nat_eq b 10) (not-true _ p.0) in
    (q.0, q.1, p.1)

no_space : (text : List ℕ) → IsPlain text → Lacks 32 text
no_space [] plain = tt
no_space (b ∷ bs) plain = let p = plain_parts b bs plain in (p.0, no_space bs p.2)

no_lf : (text : List ℕ) → IsPlain text → Lacks 10 text
no_lf [] plain = tt
no_lf (b ∷ bs) plain = let p = plain_parts b bs plain in (p.1, no_lf bs p.2)

pub plain_digits : (ds : List ℕ) → all_ascii_digits ds ≡ true → IsPlain ds
plain_digits [] digits = refl
plain_digits (c ∷ cs) digits =
    let parts = tells_all_ascii_digits.parts c cs digits in
    and_from _ _ (not_from_false _ (or_from _ _ (ne_eqb c 32 (λ e. omega (arith, parts.0))) (ne_eqb c 10 (λ e. omega (arith, parts.0))))) (plain_digits cs parts.1)

pub fields_are_found : (first : List ℕ) (others : List (List ℕ)) → IsPlain first → ArePlain others → fields_of (first ++ spaced others) ≡ first ∷ others
fields_are_found first [] plain each = ap fields_of (append-nil first) ∙ only_field first (no_space first plain)
fields_are_found first (x ∷ xs) plain each =
    field_then first (x ++ spaced xs) (no_space first plain) ∙ ap (λ t. first ∷ t) (fields_are_found x xs each.0 each.1)

-- ---- a text is its fields

joined : List (List ℕ) → List ℕ
joined [] = []
joined (f ∷ fs) = f ++ spaced fs

joined-onto : (b : ℕ) (fs : List (List ℕ)) → joined (onto_first b fs) ≡ b ∷ joined fs
unfolding joined
joined-onto b [] = refl
joined-onto b (f ∷ fs) = refl

spaced-onto : (b : ℕ) (fs : List (List ℕ)) → spaced (onto_first b fs) ≡ 32 ∷ joined (onto_first b fs)
unfolding joined
spaced-onto b [] = refl
spaced-onto b (f ∷ fs) = refl

spaced_some : (text : List ℕ) → spaced (fields_of text) ≡ 32 ∷ joined (fields_of text)
unfolding joined
spaced_some [] = refl
spaced_some (b ∷ bs) =
    cond_both (nat_eq b 32) ([] ∷ fields_of bs) (onto_first b (fields_of bs)) (λ fs. spaced fs ≡ 32 ∷ joined fs)
    (λ yes. refl) (λ no. spaced-onto b (fields_of bs))

joined_is : (text : List ℕ) → joined (fields_of text) ≡ text
unfolding joined
joined_is [] = refl
joined_is (b ∷ bs) =
    cond_both (nat_eq b 32) ([] ∷ fields_of bs) (onto_first b (fields_of bs)) (λ fs. joined fs ≡ b ∷ bs)
    (λ yes. spaced_some bs ∙ ap (λ t. 32 ∷ t) (joined_is bs) ∙ ap (λ x. x ∷ bs) (sym (eqb-true b 32 yes)))
    (λ no. joined-onto b (fields_of bs) ∙ ap (λ t. b ∷ t) (joined_is bs))

pub fields_are_the_text : (text first : List ℕ) (others : List (List ℕ)) → fields_of text ≡ first ∷ others → text ≡ first ++ spaced others
unfolding joined
fields_are_the_text text first others is = sym (joined_is text) ∙ ap joined is

-- ---- lines

line_then : (text rest : List ℕ) → Lacks 10 text → lines_of (text ++ 10 ∷ rest) ≡ (text ++ 10 ∷ []) ∷ lines_of rest
line_then [] rest none = refl
line_then (b ∷ bs) rest none = cond-false (nat_eq b 10) _ _ none.0 ∙ ap (onto_first b) (line_then bs rest none.1)

lacks-append : (c : ℕ) (xs ys : List ℕ) → Lacks c xs → Lacks c ys → Lacks c (xs ++ ys)
lacks-append c [] ys a b = b
lacks-append c (x ∷ xs) ys a b = (a.0, lacks-append c xs ys a.1 b)

no_lf_spaced : (fields : List (List ℕ)) → ArePlain fields → Lacks 10 (spaced fields)
no_lf_spaced [] each = tt
no_lf_spaced (x ∷ xs) each = (refl, lacks-append 10 x (spaced xs) (no_lf x each.0) (no_lf_spaced xs each.1))

pub line_is_found : (first : List ℕ) (others : List (List ℕ)) (rest : List ℕ) → IsPlain first → ArePlain others → lines_of (line first others ++ rest) ≡ line first others ∷ lines_of rest
line_is_found first others rest plain each =
    let text = first ++ spaced others in
    ap lines_of (append_assoc text (10 ∷ []) rest)
    ∙ line_then text rest (lacks-append 10 first (spaced others) (no_lf first plain) (no_lf_spaced others each))

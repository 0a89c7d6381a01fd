-- The first line of a text, what a line says, and that the lines are the text.
use Rattle.std.proofs.Common.{◌≡◌, ◌≢◌, ℕ, ◌+◌, ◌<◌, ◌≤◌, true, false, List, [], ◌∷◌, ◌++◌, length, take, drop, get_or, refl, sym, ap, ◌∙◌, arith, Option, None, Some, MatchOption, append_assoc, subst, Bor}
use Rattle.std.specs.Prelude.{nat_eq, not}
use Rattle.std.specs.Option.{unwrap_or}
use Rattle.std.specs.List.{AllByRecursion, concat, position_or_len}
use Rattle.std.proofs.lemmas.Bool.{cond_both, cond-false, ne_eqb, eqb-true, and_left, and_right}
use Rattle.std.proofs.lemmas.List.{take_more, drop_more, get_or-take, length-take-le, take_all, drop_all, take-append-drop}
use Rattle.std.proofs.lemmas.List.Elements.{recursion_from_All}
use Rattle.std.proofs.lemmas.List.Sums.{prefix_len-le-length, fails_before_first, passes_at_first}
use Rattle.job.specs.Lines.{lines_of, onto_first, content}

-- the bytes up to an LF are a line
first_line : (before rest : List ℕ) → AllByRecursion (λ b. nat_eq b 10 ≡ false) before → lines_of (before ++ 10 ∷ rest) ≡ (before ++ 10 ∷ []) ∷ lines_of rest
first_line [] rest none = refl
first_line (b ∷ bs) rest none = cond-false (nat_eq b 10) _ _ none.0 ∙ ap (onto_first b) (first_line bs rest none.1)

-- bytes without an LF are a line
only_line : (b : ℕ) (bs : List ℕ) → AllByRecursion (λ b. nat_eq b 10 ≡ false) (b ∷ bs) → lines_of (b ∷ bs) ≡ (b ∷ bs) ∷ []
only_line b [] none = cond-false (nat_eq b 10) _ _ none.0
only_line b (c ∷ bs) none = cond-false (nat_eq b 10) _ _ none.0 ∙ ap (onto_first b) (only_line c bs none.1)

-- the bytes before the first LF have none
none_before : (text : List ℕ) → AllByRecursion (λ b. nat_eq b 10 ≡ false) (take (position_or_len (λ b. nat_eq b 10) text) text)
none_before text =
    let n = position_or_len (λ b. nat_eq b 10) text in
    let le = prefix_len-le-length (λ b. not (nat_eq b 10)) text in
    recursion_from_All (λ b. nat_eq b 10 ≡ false) (take n text) (λ k d below.
    let within : k < n = omega (arith, length-take-le n text le) in
    rw get_or-take (fails_before_first (λ b. nat_eq b 10) text k d within))

-- the first line of a text that has an LF
pub lines_of-lf : (text : List ℕ) (n : ℕ) → n ≡ position_or_len (λ b. nat_eq b 10) text → n < length text → lines_of text ≡ take (n + 1) text ∷ lines_of (drop (n + 1) text)
lines_of-lf text n is below =
    let lf = λ (b : ℕ). nat_eq b 10 in
    let at : position_or_len lf text < length text = omega arith in
    let ten : get_or text n 0 ≡ 10 = rw is (eqb-true _ 10 (passes_at_first lf text 0 at)) in
    let none : AllByRecursion (λ b. nat_eq b 10 ≡ false) (take n text) = rw is (none_before text) in
    let split : text ≡ take n text ++ 10 ∷ drop (n + 1) text = sym (take-append-drop n text) ∙ ap (λ t. take n text ++ t) (drop_more text n 0 below ∙ ap (λ b. b ∷ drop (n + 1) text) ten) in
    ap lines_of split ∙ first_line (take n text) (drop (n + 1) text) none
    ∙ ap (λ t. t ∷ lines_of (drop (n + 1) text)) (sym (take_more text n 0 below ∙ ap (λ b. take n text ++ b ∷ []) ten))

-- a text without an LF is one line
pub lines_of-end : (text : List ℕ) → 0 < length text → length text ≤ position_or_len (λ b. nat_eq b 10) text → lines_of text ≡ take (length text) text ∷ lines_of (drop (length text) text)
lines_of-end [] some none = absurd (omega arith)
lines_of-end (b ∷ bs) some none =
    let text = b ∷ bs in
    let n = position_or_len (λ b. nat_eq b 10) text in
    let whole : take n text ≡ text = take_all n text none in
    let each : AllByRecursion (λ b. nat_eq b 10 ≡ false) text = subst (AllByRecursion (λ b. nat_eq b 10 ≡ false)) whole (none_before text) in
    rw (take_all (length text) text (omega arith), drop_all (length text) text (omega arith)) (only_line b bs each)

pub content-crlf : (text : List ℕ) → content (text ++ 13 ∷ 10 ∷ []) ≡ text
content-crlf [] = refl
content-crlf (b ∷ []) = refl
content-crlf (b ∷ c ∷ []) = ap (λ t. b ∷ t) (content-crlf (c ∷ []))
content-crlf (b ∷ c ∷ d ∷ bs) = ap (λ t. b ∷ t) (content-crlf (c ∷ d ∷ bs))

pub content-lf : (text : List ℕ) → ((prefix : List ℕ) → text ≢ prefix ++ 13 ∷ []) → content (text ++ 10 ∷ []) ≡ text
content-lf [] none = refl
content-lf (b ∷ []) none = cond-false _ _ _ (and_left (nat_eq b 13) true (ne_eqb b 13 (λ e. none [] (ap (λ x. x ∷ []) e))))
content-lf (b ∷ c ∷ []) none = ap (λ t. b ∷ t) (content-lf (c ∷ []) (λ prefix e. none (b ∷ prefix) (ap (λ t. b ∷ t) e)))
content-lf (b ∷ c ∷ d ∷ bs) none = ap (λ t. b ∷ t) (content-lf (c ∷ d ∷ bs) (λ prefix e. none (b ∷ prefix) (ap (λ t. b ∷ t) e)))

pub content-no_lf : (text : List ℕ) → ((prefix : List ℕ) → text ≢ prefix ++ 10 ∷ []) → content text ≡ text
content-no_lf [] none = refl
content-no_lf (b ∷ []) none = cond-false _ _ _ (ne_eqb b 10 (λ e. none [] (ap (λ x. x ∷ []) e)))
content-no_lf (b ∷ c ∷ []) none =
    let no : nat_eq c 10 ≡ false = ne_eqb c 10 (λ e. none (b ∷ []) (ap (λ x. b ∷ x ∷ []) e)) in
    cond-false _ _ _ (and_right (nat_eq b 13) (nat_eq c 10) no) ∙ ap (λ t. b ∷ t) (content-no_lf (c ∷ []) (λ prefix e. none (b ∷ prefix) (ap (λ t. b ∷ t) e)))
content-no_lf (b ∷ c ∷ d ∷ bs) none = ap (λ t. b ∷ t) (content-no_lf (c ∷ d ∷ bs) (λ prefix e. none (b ∷ prefix) (ap (λ t. b ∷ t) e)))

-- what a line with an LF says, by what is left of it without a CR
pub content-unwrap : (line text : List ℕ) (r : Option (Bor (List ℕ))) (whole : Bor (List ℕ)) → line ≡ text ++ 10 ∷ [] → whole.now ≡ text → MatchOption r ((prefix : List ℕ) → text ≢ prefix ++ 13 ∷ []) (λ x. text ≡ x.now ++ 13 ∷ []) → (unwrap_or r whole).now ≡ content line
content-unwrap line text None whole e same none = same ∙ sym (ap content e ∙ content-lf text none)
content-unwrap line text (Some x) whole e same cr =
    sym (ap content (e ∙ ap (λ t. t ++ 10 ∷ []) cr ∙ append_assoc x.now (13 ∷ []) (10 ∷ [])) ∙ content-crlf x.now)

concat-onto_first : (b : ℕ) (lines : List (List ℕ)) → concat (onto_first b lines) ≡ b ∷ concat lines
concat-onto_first b [] = refl
concat-onto_first b (line ∷ lines) = refl

-- the lines are the text
pub concat-lines_of : (text : List ℕ) → concat (lines_of text) ≡ text
concat-lines_of [] = refl
concat-lines_of (b ∷ bs) =
    let onto : (lines : List (List ℕ)) → concat (onto_first b lines) ≡ b ∷ concat lines = concat-onto_first b in
    cond_both (nat_eq b 10) ((10 ∷ []) ∷ lines_of bs) (onto_first b (lines_of bs)) (λ lines. concat lines ≡ b ∷ bs)
    (λ yes. let ten : b ≡ 10 = eqb-true b 10 yes in ap (λ t. 10 ∷ t) (concat-lines_of bs) ∙ ap (λ x. x ∷ bs) (sym ten))
    (λ no. onto (lines_of bs) ∙ ap (λ t. b ∷ t) (concat-lines_of bs))

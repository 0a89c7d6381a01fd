-- What the lexer takes for white space and comments is that, and what it leaves begins with none.
use Rattle.std.proofs.Common.{◌≡◌, ◌≢◌, ℕ, suc, ◌+◌, ◌<◌, ◌≤◌, ◌⊎◌, inl, inr, Bool, false, not, nat_eq, IsTrue, List, [], ◌∷◌, ◌++◌, length, get_or, take, drop, refl, sym, ap, ◌∙◌, subst, ⊎_elim, arith, append_assoc, length-append, take-append-drop}
use Rattle.std.proofs.Math.Seq.{take-add}
use Rattle.std.specs.List.{All, prefix_len}
use Rattle.std.proofs.lemmas.Bool.{or_from, and_parts, eqb-true, eqb-false, false_from_ne_true, cases_lt, not-true, not-false}
use Rattle.std.proofs.lemmas.List.{length-take-le, length-drop, drop_more, drop-drop, get_or-take, get_or_append_left, get_or_at}
use Rattle.std.proofs.lemmas.List.Elements.{All-weaker}
use Rattle.std.proofs.lemmas.List.Sums.{prefix_len-le-length}
use Rattle.c_tokens.specs.Bytes.{begins, begins_with_two}
use Rattle.c_tokens.specs.Blank.{has_close, IsBlank, IsBlankPart}
use Rattle.c_tokens.specs.inner.Scan.{begins_blank, IsCloseAt}
use Rattle.c_tokens.proofs.ListLemmas.{All-prefix, begins_after_prefix, split_at_length}
use Rattle.c_tokens.proofs.BlankLemmas.{IsBlank-push}

no_close : (bytes : List ℕ) → ((k : ℕ) → k + 1 < length bytes → IsCloseAt bytes k → ⊥) → has_close bytes ≡ false
no_close [] none = refl
no_close (b ∷ []) none = refl
no_close (b ∷ c ∷ bs) none =
    or_from (begins_with_two 42 47 (b ∷ c ∷ bs)) (has_close (c ∷ bs))
    (false_from_ne_true (begins_with_two 42 47 (b ∷ c ∷ bs)) (λ e.
    let parts = and_parts (nat_eq b 42) (nat_eq c 47) e in
    none 0 (omega arith) (eqb-true b 42 parts.0, eqb-true c 47 parts.1)))
    (no_close (c ∷ bs) (λ k below (one, two).
    let next : suc k + 1 ≡ suc (k + 1) = omega arith in
    none (suc k) (omega arith) (one, ap (λ n. get_or (b ∷ c ∷ bs) n 0) next ∙ two)))

-- before the first `*/` no other stands, also not with the `*` that begins it
first_close : (bytes : List ℕ) (place : ℕ) → place + 1 < length bytes → ((k : ℕ) → k < place → IsCloseAt bytes k → ⊥) → has_close (take place bytes ++ 42 ∷ []) ≡ false
first_close bytes place inside first =
    let prefix = take place bytes in
    let long : length prefix ≡ place = length-take-le place bytes (omega arith) in
    no_close (prefix ++ 42 ∷ []) (λ k below close.
    let within : k < place = omega (arith, length-append prefix (42 ∷ [])) in
    let here : get_or (prefix ++ 42 ∷ []) k 0 ≡ get_or bytes k 0 = get_or_append_left prefix (42 ∷ []) 0 k (omega arith) ∙ get_or-take place bytes k 0 within in
    ⊎_elim
    (λ more.
    let next : get_or (prefix ++ 42 ∷ []) (k + 1) 0 ≡ get_or bytes (k + 1) 0 = get_or_append_left prefix (42 ∷ []) 0 (k + 1) (omega arith) ∙ get_or-take place bytes (k + 1) 0 more in
    first k within (sym here ∙ close.0, sym next ∙ close.1))
    (λ last.
    let star : get_or (prefix ++ 42 ∷ []) (k + 1) 0 ≡ 42 = get_or_at prefix 42 [] 0 (k + 1) (omega arith) in
    omega (arith, star, close.1))
    (cases_lt (k + 1) place))

-- a block comment begins the bytes
pub block_part : (bytes : List ℕ) (place : ℕ) → bytes ≡ 47 ∷ 42 ∷ drop 2 bytes → place + 1 < length (drop 2 bytes) → IsCloseAt (drop 2 bytes) place
    → ((k : ℕ) → k < place → IsCloseAt (drop 2 bytes) k → ⊥) → IsBlankPart (take (4 + place) bytes) (drop (4 + place) bytes)
block_part bytes place opens inside here first =
    let body = drop 2 bytes in
    let long : length (take place body) ≡ place = length-take-le place body (omega arith) in
    let rest : drop place body ≡ 42 ∷ 47 ∷ drop (place + 1 + 1) body =
    drop_more body place 0 (omega arith) ∙ (λ i. here.0 i ∷ drop_more body (place + 1) 0 inside i) ∙ ap (λ b. 42 ∷ b ∷ drop (place + 1 + 1) body) here.1 in
    let cut : body ≡ (take place body ++ 42 ∷ 47 ∷ []) ++ drop (place + 1 + 1) body =
    sym (take-append-drop place body) ∙ ap (λ l. take place body ++ l) rest ∙ sym (append_assoc (take place body) (42 ∷ 47 ∷ []) (drop (place + 1 + 1) body)) in
    split_at_length IsBlankPart bytes (47 ∷ 42 ∷ take place body ++ 42 ∷ 47 ∷ []) (drop (place + 1 + 1) body) (4 + place)
    (opens ∙ ap (λ l. 47 ∷ 42 ∷ l) cut) (omega (arith, length-append (take place body) (42 ∷ 47 ∷ []), long))
    (inr (inl (take place body, refl, first_close body place inside first)))

line_end_or_end : (rest : List ℕ) → begins (λ b. not (nat_eq b 10)) rest ≡ false → (rest ≡ []) ⊎ IsTrue (begins (λ b. nat_eq b 10) rest)
line_end_or_end [] e = inl refl
line_end_or_end (b ∷ bs) e = inr (not-false (nat_eq b 10) e)

-- a line comment begins the bytes
pub line_part : (bytes : List ℕ) (len : ℕ) → bytes ≡ 47 ∷ 47 ∷ drop 2 bytes → len ≡ prefix_len (λ b. not (nat_eq b 10)) (drop 2 bytes)
    → IsBlankPart (take (2 + len) bytes) (drop (2 + len) bytes)
line_part bytes len opens is =
    let p : ℕ → Bool = λ b. not (nat_eq b 10) in
    let body = drop 2 bytes in
    let fits = prefix_len-le-length p body in
    let long : length (take len body) ≡ len = length-take-le len body (omega arith) in
    let none : All (λ b. b ≢ 10) (take len body) =
    subst (λ (n : ℕ). All (λ b. b ≢ 10) (take n body)) (sym is) (All-weaker (λ b. IsTrue (p b)) (λ b. b ≢ 10) (λ b e. eqb-false b 10 (not-true (nat_eq b 10) e)) (take (prefix_len p body) body) (All-prefix p body)) in
    let follows = line_end_or_end (drop len body) (ap (λ n. begins p (drop n body)) is ∙ begins_after_prefix p body) in
    split_at_length IsBlankPart bytes (47 ∷ 47 ∷ take len body) (drop len body) (2 + len)
    (opens ∙ ap (λ l. 47 ∷ 47 ∷ l) (sym (take-append-drop len body))) (omega (arith, long))
    (inr (inr (take len body, refl, none, follows)))

pub line_part_inside : (bytes : List ℕ) (len : ℕ) → 2 ≤ length bytes → len ≡ prefix_len (λ b. not (nat_eq b 10)) (drop 2 bytes) → 2 + len ≤ length bytes
line_part_inside bytes len long is = omega (arith, prefix_len-le-length (λ b. not (nat_eq b 10)) (drop 2 bytes), length-drop 2 bytes)

-- a comment that nothing closes is none
pub open_comment : (bytes : List ℕ) → bytes ≡ 47 ∷ 42 ∷ drop 2 bytes → ((k : ℕ) → k + 1 < length (drop 2 bytes) → IsCloseAt (drop 2 bytes) k → ⊥) → begins_blank bytes ≡ false
open_comment bytes opens none = ap begins_blank opens ∙ no_close (drop 2 bytes) none

-- ---- one more part behind those so far

pub blank_more : (bytes : List ℕ) (len part : ℕ) → IsBlank (take len bytes) (drop len bytes) → IsBlankPart (take part (drop len bytes)) (drop part (drop len bytes))
    → IsBlank (take (len + part) bytes) (drop (len + part) bytes)
blank_more bytes len part before last =
    let P : List ℕ → List ℕ → Type 0 = λ text rest. IsBlank text rest in
    let behind = sym (take-append-drop part (drop len bytes)) in
    let all = IsBlank-push (take len bytes) (take part (drop len bytes)) (drop part (drop len bytes)) (subst (P (take len bytes)) behind before) last in
    rw (take-add, ← drop-drop) all

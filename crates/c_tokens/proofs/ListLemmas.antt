-- Lists cut in two, prefixes that pass a test, and searches.
use Rattle.std.proofs.Common.{◌≡◌, ℕ, ◌+◌, ◌<◌, ◌≤◌, Bool, true, false, IsTrue, List, [], ◌∷◌, ◌++◌, length, take, drop, refl, sym, ap, ◌∙◌, arith, one-add, Some, None, zero, suc, ⊎_elim, get_or, subst, ◌-◌, slice_range}
use Rattle.std.specs.List.{All, Contains, find, prefix_len}
use Rattle.std.proofs.lemmas.Bool.{cond-true, cond-false, cond_both, false≢true, cases_Bool}
use Rattle.std.proofs.lemmas.List.{take_at, drop_at, get_or-take, length-take-le, drop-drop}
use Rattle.std.proofs.lemmas.List.Elements.{All-head, All-tail}
use Rattle.std.proofs.lemmas.List.Sums.{prefix_len_passes, prefix_len-le-length}
use Rattle.c_tokens.specs.Bytes.{begins}

-- one list cut in two ways, with prefixes of one length
pub prefixes_same : {X : Type 0} (a b x y : List X) → a ++ x ≡ b ++ y → length a ≡ length b → (a ≡ b) × (x ≡ y)
prefixes_same a b x y e l = (
  sym (take_at a x (length a) refl) ∙ ap (take (length a)) e ∙ take_at b y (length a) (sym l),
  sym (drop_at a x (length a) refl) ∙ ap (drop (length a)) e ∙ drop_at b y (length a) (sym l),
)

-- a fact on the two parts of a list, read at their length
pub split_at_length : (P : List ℕ → List ℕ → Type 0) (bytes text rest : List ℕ) (len : ℕ) → bytes ≡ text ++ rest → length text ≡ len → P text rest → P (take len bytes) (drop len bytes)
split_at_length P bytes text rest len e l p =
    let prefix : take len bytes ≡ text = ap (take len) e ∙ take_at text rest len l in
    let back : drop len bytes ≡ rest = ap (drop len) e ∙ drop_at text rest len l in
    subst (λ (t : List ℕ). P t (drop len bytes)) (sym prefix) (subst (λ (r : List ℕ). P text r) (sym back) p)

pub split_two : (bytes : List ℕ) (a b : ℕ) → 2 ≤ length bytes → get_or bytes 0 0 ≡ a → get_or bytes 1 0 ≡ b → bytes ≡ a ∷ b ∷ drop 2 bytes
split_two [] a b long e d = absurd (omega arith)
split_two (x ∷ []) a b long e d = absurd (omega arith)
split_two (x ∷ y ∷ bs) a b long e d = (λ i. e i ∷ d i ∷ bs)

-- a part of the bytes, and what follows it
pub part_at : (P : List ℕ → List ℕ → Type 0) (bytes : List ℕ) (at len : ℕ) → P (take len (drop at bytes)) (drop len (drop at bytes)) → P (slice_range bytes at (at + len)) (drop (at + len) bytes)
part_at P bytes at len p =
    let size : len ≡ at + len - at = omega arith in
    subst (λ (n : ℕ). P (take n (drop at bytes)) (drop (at + len) bytes)) size (subst (λ (l : List ℕ). P (take len (drop at bytes)) l) (drop-drop len at bytes) p)

-- a prefix that passes, before bytes that begin with none that passes, is the longest that does
pub prefix_len-append : (p : ℕ → Bool) (xs ys : List ℕ) → All (λ b. IsTrue (p b)) xs → begins p ys ≡ false → prefix_len p (xs ++ ys) ≡ length xs
prefix_len-append p [] [] all stops = refl
prefix_len-append p [] (y ∷ ys) all stops = cond-false (p y) _ _ stops
prefix_len-append p (x ∷ xs) ys all stops =
    let here = All-head (λ b. IsTrue (p b)) x xs all in
    let rest = prefix_len-append p xs ys (All-tail (λ b. IsTrue (p b)) x xs all) stops in
    cond-true (p x) _ _ here ∙ omega (arith, rest)

pub prefix_len-at_least : (p : ℕ → Bool) (xs ys : List ℕ) → All (λ b. IsTrue (p b)) xs → length xs ≤ prefix_len p (xs ++ ys)
prefix_len-at_least p [] ys all = omega arith
prefix_len-at_least p (x ∷ xs) ys all =
    let here = All-head (λ b. IsTrue (p b)) x xs all in
    let rest = prefix_len-at_least p xs ys (All-tail (λ b. IsTrue (p b)) x xs all) in
    omega (arith, rest, cond-true (p x) (1 + prefix_len p (xs ++ ys)) 0 here)

-- the longest prefix that passes does, and what follows it begins with none that passes
pub All-prefix : (p : ℕ → Bool) (xs : List ℕ) → All (λ b. IsTrue (p b)) (take (prefix_len p xs) xs)
All-prefix p xs k d below =
    let fits = prefix_len-le-length p xs in
    let within : k < prefix_len p xs = omega (arith, length-take-le (prefix_len p xs) xs fits) in
    rw get_or-take (prefix_len_passes p xs k d within)

pub begins_after_prefix : (p : ℕ → Bool) (xs : List ℕ) → begins p (drop (prefix_len p xs) xs) ≡ false
begins_after_prefix p [] = refl
begins_after_prefix p (x ∷ xs) =
    cond_both (p x) (1 + prefix_len p xs) 0 (λ n. begins p (drop n (x ∷ xs)) ≡ false)
    (λ yes. rw one-add (begins_after_prefix p xs))
    (λ no. no)

pub begins_from_all : (p : ℕ → Bool) (xs : List ℕ) → 0 < length xs → All (λ b. IsTrue (p b)) xs → begins p xs ≡ true
begins_from_all p [] some all = absurd (omega arith)
begins_from_all p (x ∷ xs) some all = All-head (λ b. IsTrue (p b)) x xs all

pub begins-append : (p : ℕ → Bool) (xs ys : List ℕ) → begins p xs ≡ true → begins p (xs ++ ys) ≡ true
begins-append p [] ys e = absurd (false≢true e)
begins-append p (x ∷ xs) ys e = e

-- what a search finds passes, and where it finds nothing no element does
pub find_passes : {X : Type 0} (p : X → Bool) (xs : List X) (x : X) → find p xs ≡ Some x → p x ≡ true
find_passes p [] x found = cc
find_passes p (y ∷ ys) x found =
    ⊎_elim
    (λ here. let first : Some y ≡ Some x = sym (cond-true (p y) (Some y) (find p ys) here) ∙ found in let same : y ≡ x = cc in ap p (sym same) ∙ here)
    (λ past. find_passes p ys x (sym (cond-false (p y) (Some y) (find p ys) past) ∙ found))
    (cases_Bool (p y))

pub find_misses : {X : Type 0} (p : X → Bool) (xs : List X) (x : X) → find p xs ≡ None → Contains xs x → p x ≡ true → ⊥
find_misses p [] x none inside passes = omega (arith, inside.1)
find_misses p (y ∷ ys) x none (zero, below, is) passes =
    let e : Some y ≡ None = sym (cond-true (p y) (Some y) (find p ys) (ap p is ∙ passes)) ∙ none in
    cc
find_misses p (y ∷ ys) x none (suc k, below, is) passes =
    ⊎_elim
    (λ here. let e : Some y ≡ None = sym (cond-true (p y) (Some y) (find p ys) here) ∙ none in cc)
    (λ past. find_misses p ys x (sym (cond-false (p y) (Some y) (find p ys) past) ∙ none) (k, omega arith, is) passes)
    (cases_Bool (p y))

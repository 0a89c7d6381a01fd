-- The parsers step by step: what an answer of a chain says of each of its links, and what lists come to.
use Rattle.std.proofs.Common.{◌≡◌, ℕ, suc, ◌+◌, ◌-◌, ◌<◌, ◌≤◌, max, Bool, true, false, if◌then◌else◌, List, [], ◌∷◌, ◌++◌, Some, None, refl, sym, ap, subst, ◌∙◌, arith, append_assoc}
use Rattle.std.proofs.Math.Nat.{zero-max}
use denote.Enum.Bare.{same_true, true_same}
use Rattle.c_tokens.specs.contracts.token.Keyword.{the_type as the_keywords}
use Rattle.c_tokens.specs.contracts.token.Mark.{the_type as the_marks}
use Rattle.c_tokens.specs.declared.token.Keyword.{Keyword}
use Rattle.c_tokens.specs.declared.token.Kind.TheVariants.{Word, Name, Number, Text, Mark}
use Rattle.c_tokens.specs.declared.token.Mark.{Mark as MarkName}
use Rattle.c_tree.specs.Marks.{Kinds}
use Rattle.c_readers.specs.inner.Parser.{Parser, Outcome, WithHeight, and_then, pure, same_mark, same_word, sees, after, expect}

-- ---- marks and words

pub same_mark_is : (m : MarkName) → same_mark m m ≡ true
unfolding same_mark
same_mark_is m = true_same the_marks m m refl

pub same_mark_true : (m n : MarkName) → same_mark m n ≡ true → m ≡ n
unfolding same_mark
same_mark_true m n is = same_true the_marks tt m n is

pub same_word_is : (w : Keyword) → same_word w w ≡ true
unfolding same_word
same_word_is w = true_same the_keywords w w refl

pub same_word_true : (v w : Keyword) → same_word v w ≡ true → v ≡ w
unfolding same_word
same_word_true v w is = same_true the_keywords tt v w is

pub sees_is : (m : MarkName) (ks : Kinds) → sees m (Mark m ∷ ks) ≡ true
sees_is m ks = same_mark_is m

pub sees_true : (m : MarkName) (ts : Kinds) → sees m ts ≡ true → (ks : Kinds) × (ts ≡ Mark m ∷ ks)
sees_true m [] is = cc
sees_true m (Word w ∷ ks) is = cc
sees_true m (Name x ∷ ks) is = cc
sees_true m (Number n ∷ ks) is = cc
sees_true m (Text b ∷ ks) is = cc
sees_true m (Mark n ∷ ks) is = let same : n ≡ m = same_mark_true n m is in (ks, ap (λ x. Mark x ∷ ks) same)

pub expect_is : (m : MarkName) (ks : Kinds) → expect m (Mark m ∷ ks) ≡ Some (tt, ks)
unfolding expect
expect_is m ks = rw (same_mark_is m)

pub after_is : (m : MarkName) (ks : Kinds) → after m (Mark m ∷ ks) ≡ ks
unfolding after
after_is m ks = rw (same_mark_is m)

pub after_other : (m : MarkName) (ts : Kinds) → sees m ts ≡ false → after m ts ≡ ts
unfolding after
after_other m ts not = rw not

pub expect_other : (m : MarkName) (ts : Kinds) → sees m ts ≡ false → expect m ts ≡ None
unfolding expect
expect_other m ts not = rw not

-- ---- answers

-- an outcome says what was found and what is left
pub found_both : {A : Type 0} {p q : A × Kinds} → Some p ≡ Some q → (p.0 ≡ q.0) × (p.1 ≡ q.1)
found_both {A} {p} {q} is = let same : p ≡ q = cc in (ap (λ r. r.0) same, ap (λ r. r.1) same)

-- so what holds of what a reader with no more to read answers holds of the answer
pub plain_holds : {A : Type 0} {p y : A} {ts rest : Kinds} (P : A → Kinds → Type 0) → pure p ts ≡ Some (y, rest) → P p ts → P y rest
plain_holds {A} {p} {y} {ts} {rest} P is holds = let b = found_both is in subst (λ z. P z rest) b.0 (subst (λ us. P p us) b.1 holds)

expect_by : (m : MarkName) (ts : Kinds) (b : Bool) (rest : Kinds) (u : Unit {0}) → sees m ts ≡ b → expect m ts ≡ Some (u, rest) → ts ≡ Mark m ∷ rest
expect_by m ts true rest u seen is =
    let found = sees_true m ts seen in
    let e : expect m (Mark m ∷ found.0) ≡ Some (u, rest) = sym (ap (λ ks. expect m ks) found.1) ∙ is in
    let same : found.0 ≡ rest = (found_both (sym (expect_is m found.0) ∙ e)).1 in
    found.1 ∙ ap (λ ks. Mark m ∷ ks) same
expect_by m ts false rest u seen is = cc (expect_other m ts seen)

pub expect_some : (m : MarkName) (ts : Kinds) (u : Unit {0}) (rest : Kinds) → expect m ts ≡ Some (u, rest) → ts ≡ Mark m ∷ rest
expect_some m ts u rest is = expect_by m ts (sees m ts) rest u refl is

-- ---- chains

-- an answer of two readers is one of the first, and of the second behind it
pub both_answer : {A B C : Type 0} (o : Outcome A) (f : A → Parser B) (q : B × Kinds) → and_then o f ≡ Some q → ((x : A) (ks : Kinds) → o ≡ Some (x, ks) → f x ks ≡ Some q → C) → C
both_answer (Some p) f q is on = on p.0 p.1 refl is
both_answer None f q is on = cc

-- the same where the first takes a mark
pub mark_answer : {B C : Type 0} (m : MarkName) (ts : Kinds) (f : Unit {0} → Parser B) (q : B × Kinds) → and_then (expect m ts) f ≡ Some q → ((ks : Kinds) → ts ≡ Mark m ∷ ks → f tt ks ≡ Some q → C) → C
mark_answer m ts f q is on = both_answer (expect m ts) f q is (λ u ks here more. on ks (expect_some m ts u ks here) more)

-- a test is true, or it is false
pub tested : {A C : Type 0} (b : Bool) (x y z : A) → if b then x else y ≡ z → (b ≡ true → x ≡ z → C) → (b ≡ false → y ≡ z → C) → C
tested true x y z is on off = on refl is
tested false x y z is on off = off refl is

pub tested_at : {A C : Type 0} (b : Bool) (p q : Parser A) (ts : Kinds) (z : Outcome A) → (if b then p else q) ts ≡ z → (b ≡ true → p ts ≡ z → C) → (b ≡ false → q ts ≡ z → C) → C
tested_at true p q ts z is on off = on refl is
tested_at false p q ts z is on off = off refl is

eaten_by : {A C : Type 0} (m : MarkName) (ts : Kinds) (b : Bool) (p q : Parser A) (z : Outcome A) → sees m ts ≡ b → (if b then p else q) (after m ts) ≡ z
    → ((ks : Kinds) → ts ≡ Mark m ∷ ks → p ks ≡ z → C) → (sees m ts ≡ false → q ts ≡ z → C) → C
eaten_by m ts true p q z seen is on off = let found = sees_true m ts seen in on found.0 found.1 (subst (λ ks. p ks ≡ z) (ap (λ ks. after m ks) found.1 ∙ after_is m found.0) is)
eaten_by m ts false p q z seen is on off = off seen (subst (λ ks. q ks ≡ z) (after_other m ts seen) is)

-- the mark comes and is taken, or it doesn't come and nothing is
pub eaten : {A C : Type 0} (m : MarkName) (ts : Kinds) (p q : Parser A) (z : Outcome A) → (if sees m ts then p else q) (after m ts) ≡ z
    → ((ks : Kinds) → ts ≡ Mark m ∷ ks → p ks ≡ z → C) → (sees m ts ≡ false → q ts ≡ z → C) → C
eaten m ts p q z is on off = eaten_by m ts (sees m ts) p q z refl is on off

-- ---- what was read

-- tokens in parts, each with what stands behind it
pub join : {ts ks : Kinds} (prefix more rest : Kinds) → ts ≡ prefix ++ ks → ks ≡ more ++ rest → ts ≡ (prefix ++ more) ++ rest
join prefix more rest split on = split ∙ ap (λ us. prefix ++ us) on ∙ sym (append_assoc prefix more rest)

-- a prefix of the tokens is read so, and no deeper than this
abbrev pub ReadsPrefix : {A : Type 0} → (ℕ → Kinds → A → Type 0) → ℕ → Kinds → A → ℕ → Kinds → Type 0
ReadsPrefix R depth ts x h rest = (prefix : Kinds) × (ts ≡ prefix ++ rest) × (h ≤ depth) × R h prefix x

-- items that are read so, found behind some of this height
abbrev pub Found : {A : Type 0} → (ℕ → Kinds → List A → Type 0) → ℕ → List A → ℕ → Kinds → List A → ℕ → Kinds → Type 0
Found {A} R depth found h ts all H rest = (others : List A) × (ho : ℕ) × (prefix : Kinds) × (all ≡ found ++ others) × (H ≡ max h ho) × (ts ≡ prefix ++ rest) × (ho ≤ depth) × R ho prefix others

-- found behind none
pub found_all : {A : Type 0} {R : ℕ → Kinds → List A → Type 0} {depth : ℕ} {ts : Kinds} {all : List A} {H : ℕ} {rest : Kinds} → Found R depth [] 0 ts all H rest → ReadsPrefix R depth ts all H rest
found_all {R = R} {all = all} {H} o =
    let same : o.1 ≡ H = sym (o.4 ∙ zero-max o.1) in
    (o.2, o.5, rw same at o.6, subst (λ xs. R H o.2 xs) (sym o.3) (subst (λ h. R h o.2 o.0) same o.7))

-- one more before what was found
pub found_more : {A : Type 0} {depth : ℕ} {R S : ℕ → Kinds → List A → Type 0} (found : List A) (h : ℕ) {ts : Kinds} {all : List A} {H : ℕ} {rest : Kinds} (x : A) (hx : ℕ) (prefix ks : Kinds) → ts ≡ prefix ++ ks → hx ≤ depth
    → ((ho : ℕ) (os : Kinds) (others : List A) → R ho os others → S (max hx ho) (prefix ++ os) (x ∷ others))
    → Found R depth (found ++ x ∷ []) (max h hx) ks all H rest → Found S depth found h ts all H rest
found_more found h {rest = rest} x hx prefix ks split deep more o =
    (x ∷ o.0, max hx o.1, prefix ++ o.2, o.3 ∙ append_assoc found (x ∷ []) o.0, omega (arith, o.4), join prefix o.2 rest split o.5, omega (arith, o.6), more o.1 o.2 o.0 o.7)

-- what was found before, and the greatest height of all
pub found_then : {A : Type 0} (found others : List A) (x : A) (a b c : ℕ) (rest : Kinds)
    → ◌≡◌ {A = Outcome (WithHeight (List A))} (Some (((found ++ x ∷ []) ++ others, max (max a b) c), rest)) (Some ((found ++ (x ∷ others), max a (max b c)), rest))
found_then found others x a b c rest = let high : max (max a b) c ≡ max a (max b c) = omega arith in rw (append_assoc found (x ∷ []) others, high)

-- ---- loops that count up, beside readers that count down

-- a turn is left
pub next_turn : {X : Type 0} {x : X} (f : ℕ → X) (turns at : ℕ) → at < turns → x ≡ f (turns - at) → x ≡ f (suc (turns - (at + 1)))
next_turn f turns at below is = let e : turns - at ≡ suc (turns - (at + 1)) = omega arith in is ∙ ap f e

-- no turn is left
pub last_turn : {X : Type 0} {x : X} (f : ℕ → X) (turns at : ℕ) → turns ≤ at → x ≡ f (turns - at) → x ≡ f 0
last_turn f turns at done is = let e : turns - at ≡ 0 = omega arith in is ∙ ap f e

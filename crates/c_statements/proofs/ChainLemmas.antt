-- What answers of the links of a chain come to, and the words that come in a chain.
use Rattle.std.proofs.Common.{◌≡◌, ℕ, Bool, true, false, if◌then◌else◌, [], ◌∷◌, Some, None, refl, ap, subst, ◌∙◌}
use Rattle.c_tokens.specs.declared.token.Keyword.{Keyword}
use Rattle.c_tokens.specs.declared.token.Kind.TheVariants.{Word, Name, Number, Text, Mark}
use Rattle.c_tokens.specs.declared.token.Mark.{Mark as MarkName}
use Rattle.c_tree.specs.Marks.{Kinds}
use Rattle.c_readers.specs.inner.Parser.{Parser, Outcome, WithHeight, and_then, sees, behind, after, expect}
use Rattle.c_readers.specs.inner.ParserLemmas.{same_word_true, sees_is, after_is, after_other, expect_is, both_answer, same_word_is}
use Rattle.c_statements.specs.inner.Readers.{sees_word, after_word, expect_word}

-- an answer of two readers, of which the first reads trees, is one of the first, and of the second behind it
pub tree_answered : {A B C : Type 0} (o : Outcome (WithHeight A)) (f : WithHeight A → Parser B) (q : B × Kinds) → and_then o f ≡ Some q → ((x : A) (h : ℕ) (ks : Kinds) → o ≡ Some ((x, h), ks) → f (x, h) ks ≡ Some q → C) → C
tree_answered o f q is go = both_answer o f q is (λ x ks. go x.0 x.1 ks)

-- ---- what answers come to

pub then_takes : {A B : Type 0} (o : Outcome A) (f : A → Parser B) (x : A) (ks : Kinds) (z : Outcome B) → o ≡ Some (x, ks) → f x ks ≡ z → and_then o f ≡ z
then_takes o f x ks z is here = rw is here

pub if_yes : {A : Type 0} (b : Bool) (x y z : A) → b ≡ true → x ≡ z → (if b then x else y) ≡ z
if_yes b x y z is here = rw is here

pub if_no : {A : Type 0} (b : Bool) (x y z : A) → b ≡ false → y ≡ z → (if b then x else y) ≡ z
if_no b x y z is here = rw is here

pub eats : {A : Type 0} (m : MarkName) (ks : Kinds) (p q : Parser A) (z : Outcome A) → p ks ≡ z → (if sees m (Mark m ∷ ks) then p else q) (after m (Mark m ∷ ks)) ≡ z
eats m ks p q z here = rw (after_is m ks, sees_is m ks) here

pub leaves : {A : Type 0} (m : MarkName) (ts : Kinds) (p q : Parser A) (z : Outcome A) → sees m ts ≡ false → q ts ≡ z → (if sees m ts then p else q) (after m ts) ≡ z
leaves m ts p q z not here = rw (after_other m ts not, not) here

pub expects : {A : Type 0} (m : MarkName) (ks : Kinds) (f : Unit {0} → Parser A) (z : Outcome A) → f tt ks ≡ z → and_then (expect m (Mark m ∷ ks)) f ≡ z
expects m ks f z here = rw (expect_is m ks) here

-- ---- words

sees_word_true : (w : Keyword) (ts : Kinds) → sees_word w ts ≡ true → (ks : Kinds) × (ts ≡ Word w ∷ ks)
sees_word_true w [] is = cc
sees_word_true w (Word v ∷ ks) is = (ks, ap (λ x. Word x ∷ ks) (same_word_true v w is))
sees_word_true w (Name x ∷ ks) is = cc
sees_word_true w (Number n ∷ ks) is = cc
sees_word_true w (Text b ∷ ks) is = cc
sees_word_true w (Mark n ∷ ks) is = cc

after_word_is : (w : Keyword) (ks : Kinds) → after_word w (Word w ∷ ks) ≡ ks
unfolding after_word
after_word_is w ks = rw (same_word_is w)

after_word_other : (w : Keyword) (ts : Kinds) → sees_word w ts ≡ false → after_word w ts ≡ ts
unfolding after_word
after_word_other w ts not = rw not

word_eaten_by : {A C : Type 0} (w : Keyword) (ts : Kinds) (b : Bool) (p q : Parser A) (z : Outcome A) → sees_word w ts ≡ b → (if b then p else q) (after_word w ts) ≡ z
    → ((ks : Kinds) → ts ≡ Word w ∷ ks → p ks ≡ z → C) → (sees_word w ts ≡ false → q ts ≡ z → C) → C
word_eaten_by w ts true p q z seen is came lacks = let found = sees_word_true w ts seen in came found.0 found.1 (subst (λ ks. p ks ≡ z) (ap (λ ks. after_word w ks) found.1 ∙ after_word_is w found.0) is)
word_eaten_by w ts false p q z seen is came lacks = lacks seen (subst (λ ks. q ks ≡ z) (after_word_other w ts seen) is)

pub word_eaten : {A C : Type 0} (w : Keyword) (ts : Kinds) (p q : Parser A) (z : Outcome A) → (if sees_word w ts then p else q) (after_word w ts) ≡ z
    → ((ks : Kinds) → ts ≡ Word w ∷ ks → p ks ≡ z → C) → (sees_word w ts ≡ false → q ts ≡ z → C) → C
word_eaten w ts p q z is came lacks = word_eaten_by w ts (sees_word w ts) p q z refl is came lacks

word_expected_by : {A C : Type 0} (w : Keyword) (ts : Kinds) (b : Bool) (f : Unit {0} → Parser A) (q : A × Kinds) → sees_word w ts ≡ b → and_then (expect_word w ts) f ≡ Some q → ((ks : Kinds) → ts ≡ Word w ∷ ks → f tt ks ≡ Some q → C) → C
unfolding expect_word
word_expected_by w ts true f q seen is go = let found = sees_word_true w ts seen in let here : f tt (behind ts) ≡ Some q = rw seen at is in go found.0 found.1 (subst (λ ks. f tt ks ≡ Some q) (ap behind found.1) here)
word_expected_by w ts false f q seen is go = let here : None ≡ Some q = rw seen at is in absurd (cc)

pub word_expected : {A C : Type 0} (w : Keyword) (ts : Kinds) (f : Unit {0} → Parser A) (q : A × Kinds) → and_then (expect_word w ts) f ≡ Some q → ((ks : Kinds) → ts ≡ Word w ∷ ks → f tt ks ≡ Some q → C) → C
word_expected w ts f q is go = word_expected_by w ts (sees_word w ts) f q refl is go

pub eats_word : {A : Type 0} (w : Keyword) (ks : Kinds) (p q : Parser A) (z : Outcome A) → p ks ≡ z → (if sees_word w (Word w ∷ ks) then p else q) (after_word w (Word w ∷ ks)) ≡ z
eats_word w ks p q z here = rw (after_word_is w ks, same_word_is w) here

pub leaves_word : {A : Type 0} (w : Keyword) (ts : Kinds) (p q : Parser A) (z : Outcome A) → sees_word w ts ≡ false → q ts ≡ z → (if sees_word w ts then p else q) (after_word w ts) ≡ z
leaves_word w ts p q z not here = rw (after_word_other w ts not, not) here

pub expects_word : {A : Type 0} (w : Keyword) (ks : Kinds) (f : Unit {0} → Parser A) (z : Outcome A) → f tt ks ≡ z → and_then (expect_word w (Word w ∷ ks)) f ≡ z
unfolding expect_word
expects_word w ks f z here = rw (same_word_is w) here

-- What is written of tokens one after another, and of lists of them.
use Rattle.std.proofs.Common.{◌≡◌, ◌∙◌, ℕ, zero, suc, ◌+◌, ◌<◌, ◌≤◌, length, map, drop, get_or, drop-cons, add-one}
use Rattle.std.proofs.Common.{List, [], ◌∷◌, ◌++◌, refl, ap, sym, append_assoc, append-nil}
use Rattle.std.proofs.lemmas.List.{drop_all}
use Rattle.c_tokens.specs.declared.token.Kind.TheVariants.{Mark}
use Rattle.c_tokens.specs.declared.token.Mark.TheVariants as mark
use Rattle.c_tree.specs.Marks.{Kinds}
use Rattle.c_tree.specs.Printed.{joined, with_commas, after_commas}
use Rattle.c_tree.specs.Written.{text_of, written}
use Rattle.c_tree.specs.inner.PrintedParts.{separator}

pub written-append : (ks ls : Kinds) → written (ks ++ ls) ≡ written ks ++ written ls
unfolding written
written-append [] ls = refl
written-append (k ∷ ks) ls = ap (λ ts. text_of k ++ 32 ∷ ts) (written-append ks ls) ∙ sym (append_assoc (text_of k) (32 ∷ written ks) (written ls))

-- one list of tokens behind another
pub written_behind : (o : List ℕ) (ks ls : Kinds) → (o ++ written ks) ++ written ls ≡ o ++ written (ks ++ ls)
written_behind o ks ls = append_assoc o (written ks) (written ls) ∙ ap (λ b. o ++ b) (sym (written-append ks ls))

pub written_none : (o : List ℕ) → o ++ written [] ≡ o
unfolding written
written_none o = append-nil o

-- what is left of a list with commas from this place on
abbrev pub commas_from : ℕ → List Kinds → Kinds
commas_from zero kss = with_commas kss
commas_from (suc n) kss = after_commas kss

commas-one : (i : ℕ) (ks : Kinds) (kss : List Kinds) → commas_from i (ks ∷ kss) ≡ (separator i ++ ks) ++ commas_from (i + 1) kss
commas-one zero ks kss = refl
commas-one (suc n) ks kss = ap (λ m. (Mark mark.Comma ∷ ks) ++ commas_from m kss) (sym (add-one (suc n)))

-- what is left of a list from a place inside it
here : {X : Type 0} (xs : List X) (i : ℕ) (x : X) → i < length xs → x ≡ get_or xs i x → drop i xs ≡ x ∷ drop (i + 1) xs
here xs i x inside is = drop-cons xs i x inside ∙ (λ k. sym is k ∷ drop (sym (add-one i) k) xs)

-- the part at a place of a list, and what is behind it
pub commas-more : {X : Type 0} (f : X → Kinds) (xs : List X) (i : ℕ) (x : X) → i < length xs → x ≡ get_or xs i x
    → commas_from i (map f (drop i xs)) ≡ (separator i ++ f x) ++ commas_from (i + 1) (map f (drop (i + 1) xs))
commas-more f xs i x inside is = ap (λ l. commas_from i (map f l)) (here xs i x inside is) ∙ commas-one i (f x) (map f (drop (i + 1) xs))

pub joined-more : {X : Type 0} (f : X → Kinds) (xs : List X) (i : ℕ) (x : X) → i < length xs → x ≡ get_or xs i x
    → joined (map f (drop i xs)) ≡ f x ++ joined (map f (drop (i + 1) xs))
joined-more f xs i x inside is = ap (λ l. joined (map f l)) (here xs i x inside is)

commas-none : (i : ℕ) → commas_from i [] ≡ []
commas-none zero = refl
commas-none (suc n) = refl

-- a list without what is left
pub commas-end : {X : Type 0} (f : X → Kinds) (xs : List X) (i : ℕ) → length xs ≤ i → commas_from i (map f (drop i xs)) ≡ []
commas-end f xs i over = ap (λ l. commas_from i (map f l)) (drop_all i xs over) ∙ commas-none i

pub joined-end : {X : Type 0} (f : X → Kinds) (xs : List X) (i : ℕ) → length xs ≤ i → joined (map f (drop i xs)) ≡ []
joined-end f xs i over = ap (λ l. joined (map f l)) (drop_all i xs over)

-- Items with commas between: what the reader of such a list answers, and that it answers each such list.
use Rattle.std.proofs.Common.{◌≡◌, ◌≢◌, ℕ, zero, suc, ◌<◌, ◌≤◌, max, List, [], ◌∷◌, ◌++◌, length, Some, refl, sym, ap, ◌∙◌, arith, append_assoc, length-append}
use Rattle.c_tokens.specs.declared.token.Kind.TheVariants.{Mark}
use Rattle.c_tokens.specs.declared.token.Mark.TheVariants as mark
use Rattle.c_tree.specs.Marks.{Kinds}
use Rattle.c_readers.specs.inner.Parser.{Parser, WithHeight, separated_from, separated}
use Rattle.c_expr.specs.Theorems.{ReadsOnly, Takes, Lacks}
use Rattle.c_readers.specs.inner.ParserLemmas.{sees_is, after_is, after_other, Found, eaten, found_all, found_more, found_then, join}
use Rattle.c_expr.proofs.soundness.Chains.{pure_parts, tree_answer}

-- at least one item, with commas between; the height is the greatest of theirs
pub data SeparatedRead {A : Type 0} (R : ℕ → Kinds → A → Type 0) : ℕ → Kinds → List A → Type 0 where
  one_item : (h : ℕ) (ts : Kinds) (xs : List A) (x : A) → xs ≡ x ∷ [] → R h ts x → SeparatedRead R h ts xs
  more_items : (h : ℕ) (ts : Kinds) (xs : List A) (x : A) (others : List A) (hx ho : ℕ) (xts os : Kinds)
      → h ≡ max hx ho → ts ≡ xts ++ Mark mark.Comma ∷ os → xs ≡ x ∷ others → R hx xts x → SeparatedRead R ho os others → SeparatedRead R h ts xs

-- the parser takes each item of at most this height before a comma and before what this test lets stand, and no item is empty
pub record TakesItems {A : Type 0} (R : ℕ → Kinds → A → Type 0) (p : Parser (WithHeight A)) (Stop : Kinds → Type 0) (depth : ℕ) : Type 0 where
  pub takes : (h : ℕ) (ts : Kinds) (x : A) → h ≤ depth → R h ts x → Takes p Stop h ts x
  pub some : (h : ℕ) (ts : Kinds) (x : A) → R h ts x → 0 < length ts
  pub comma : (ks : Kinds) → Stop (Mark mark.Comma ∷ ks)

pub length_some : (ts : Kinds) → ts ≢ [] → 0 < length ts
length_some [] not = absurd (not refl)
length_some (k ∷ ks) not = omega arith

item_last : {A : Type 0} (p : Parser (WithHeight A)) (fuel : ℕ) (found : List A) (height h : ℕ) (ts rest : Kinds) (x : A) → 0 < fuel → p (ts ++ rest) ≡ Some ((x, h), rest) → Lacks mark.Comma rest
    → separated_from p fuel found height (ts ++ rest) ≡ Some ((found ++ x ∷ [], max height h), rest)
unfolding separated_from
item_last p zero found height h ts rest x some is lacks = absurd (omega arith)
item_last p (suc n) found height h ts rest x some is lacks = rw is (rw lacks (rw (after_other mark.Comma rest lacks)))

item_before : {A : Type 0} (p : Parser (WithHeight A)) (n : ℕ) (found : List A) (height h : ℕ) (ts rest : Kinds) (x : A) → p ts ≡ Some ((x, h), Mark mark.Comma ∷ rest)
    → separated_from p (suc n) found height ts ≡ separated_from p n (found ++ x ∷ []) (max height h) rest
unfolding separated_from
item_before p n found height h ts rest x is = rw is (rw (sees_is mark.Comma rest) (rw (after_is mark.Comma rest)))

separated_from_takes : {A : Type 0} {R : ℕ → Kinds → A → Type 0} {p : Parser (WithHeight A)} {Stop : Kinds → Type 0} {depth : ℕ} → TakesItems R p Stop depth → {h : ℕ} {ts : Kinds} {xs : List A} → SeparatedRead R h ts xs → h ≤ depth
    → (rest : Kinds) → Stop rest → Lacks mark.Comma rest → (fuel : ℕ) → length ts ≤ fuel → (found : List A) (height : ℕ) → separated_from p fuel found height (ts ++ rest) ≡ Some ((found ++ xs, max height h), rest)
separated_from_takes {p = p} items (SeparatedRead.one_item h ts xs x xi read) deep rest stop lacks fuel enough found height =
    let some = items.some h ts x read in rw xi (item_last p fuel found height h ts rest x (omega arith) (items.takes h ts x deep read rest stop) lacks)
separated_from_takes items (SeparatedRead.more_items h ts xs x others hx ho xts os hi is xi read more) deep rest stop lacks zero enough found height =
    let some = items.some hx xts x read in let long = ap (λ ks. length ks) is in let both = length-append xts (Mark mark.Comma ∷ os) in absurd (omega arith)
separated_from_takes {p = p} items (SeparatedRead.more_items h ts xs x others hx ho xts os hi is xi read more) deep rest stop lacks (suc n) enough found height =
    let long = ap (λ ks. length ks) is in
    let both = length-append xts (Mark mark.Comma ∷ os) in
    let taken = items.takes hx xts x (omega arith) read (Mark mark.Comma ∷ (os ++ rest)) (items.comma (os ++ rest)) in
    rw (is, xi, hi, append_assoc xts (Mark mark.Comma ∷ os) rest) (item_before p n found height hx (xts ++ Mark mark.Comma ∷ (os ++ rest)) (os ++ rest) x taken
    ∙ (separated_from_takes items more (omega arith) rest stop lacks n (omega arith) (found ++ x ∷ []) (max height hx) ∙ found_then found others x height hx ho rest))

pub separated_takes : {A : Type 0} {R : ℕ → Kinds → A → Type 0} {p : Parser (WithHeight A)} {Stop : Kinds → Type 0} {depth : ℕ} → TakesItems R p Stop depth → {h : ℕ} {ts : Kinds} {xs : List A} → SeparatedRead R h ts xs → h ≤ depth
    → (rest : Kinds) → Stop rest → Lacks mark.Comma rest → separated p (ts ++ rest) ≡ Some ((xs, h), rest)
unfolding separated
separated_takes {p = p} items {h} {ts} {xs} read deep rest stop lacks =
    let all = separated_from_takes items read deep rest stop lacks (length (ts ++ rest)) (let l = length-append ts rest in omega arith) [] 0 in
    let high : max 0 h ≡ h = omega arith in
    all ∙ ap (λ k. Some ((xs, k), rest)) high

-- ---- what the reader answers

module _ {A : Type 0} (R : ℕ → Kinds → A → Type 0) (item : Parser (WithHeight A)) (depth : ℕ) (reads : ReadsOnly item depth R) where
  pub separated_from_found : (n : ℕ) (found : List A) (h : ℕ) (ts : Kinds) (all : List A) (H : ℕ) (rest : Kinds) → separated_from item n found h ts ≡ Some ((all, H), rest) → Found (λ h ts xs. SeparatedRead R h ts xs) depth found h ts all H rest
  unfolding separated_from
  separated_from_found zero found h ts all H rest is = cc
  separated_from_found (suc n) found h ts all H rest is =
      tree_answer item reads ts _ _ is (λ x hx ks prefix split low here more.
      eaten mark.Comma ks _ _ _ more
      (λ ls comma on. found_more found h x hx (prefix ++ Mark mark.Comma ∷ []) ls (join prefix (Mark mark.Comma ∷ []) ls split comma) low
      (λ ho os others read. SeparatedRead.more_items _ _ _ x others hx ho prefix os refl (append_assoc prefix (Mark mark.Comma ∷ []) os) refl here read)
      (separated_from_found n (found ++ x ∷ []) (max h hx) ls all H rest on))
      (λ none last. let l = pure_parts _ _ _ _ _ last in
      (x ∷ [], hx, prefix, l.0, l.1, split ∙ ap (λ us. prefix ++ us) (sym l.2), low, SeparatedRead.one_item _ _ _ x refl here)))

  pub separated_found : ReadsOnly (separated item) depth (λ h ts xs. SeparatedRead R h ts xs)
  unfolding separated
  separated_found ts all H rest is = found_all (separated_from_found (length ts) [] 0 ts all H rest is)

-- The loop over items reads the source where the tokens are one, and else it stops where the refusal is.
use Rattle.std.proofs.Common.{◌≡◌, ◌≢◌, ℕ, zero, suc, ◌<◌, ◌≤◌, List, [], ◌∷◌, ◌++◌, Some, None, refl, sym, ap, subst, ◌∙◌, arith, length, length-append, append_assoc, append-nil}
use Rattle.std.proofs.lemmas.List.{append_cancel_right}
use Rattle.c_tree.specs.declared.statement.Decl.{Decl}
use Rattle.c_tree.specs.declared.statement.Item.{Item}
use Rattle.c_tree.specs.declared.statement.Unit.{Unit as Source}
use Rattle.c_tree.specs.Marks.{Kinds, greatest_depth}
use Rattle.c_tree.specs.Statements.{DeclReads, ItemReads, ItemsRead, SourceReads, IsSyntaxRefusal}
use Rattle.c_tree.specs.Theorems.{DeclaratorsDeclareTheirNames}
use Rattle.c_readers.specs.inner.Parser.{Outcome}
use Rattle.c_expr.specs.Theorems.{ExpressionLaws}
use Rattle.c_parser.specs.inner.Readers.{item, Found, behind_item, items_from, source_of}
use Rattle.c_parser.specs.Theorems.{ItemsAreToldApart, SourcesHaveOneTree, RefusalsAreCertain}
use Rattle.c_statements.proofs.completeness.StatementsBegin.{begins_some}
use Rattle.c_readers.specs.inner.ParserLemmas.{join}
use Rattle.c_parser.proofs.soundness.Items.{ItemRead, item_sound}
use Rattle.c_parser.proofs.completeness.Items.{item_takes}

-- tokens with a prefix that is not empty are not empty
some_prefix : (prefix behind ts : Kinds) → ts ≡ prefix ++ behind → 0 < length prefix → 0 < length ts
some_prefix prefix behind ts is some = let l = length-append prefix behind in let e = ap (λ k. length k) is in omega arith

-- one answer of two
pub one_answer : {A : Type 0} {x y : A × Kinds} → Some x ≡ Some y → (x.0 ≡ y.0) × (x.1 ≡ y.1)
one_answer {x = x} {y} is = let same : x ≡ y = cc in (ap (λ p. p.0) same, ap (λ p. p.1) same)

module _ (laws : ExpressionLaws) (named : DeclaratorsDeclareTheirNames) where
  -- ---- nothing is empty

  decl_some : {names : List (List ℕ)} {h : ℕ} {ts : Kinds} {d : Decl} → DeclReads names h ts d → 0 < length ts
  decl_some (DeclReads.decl h ts d s declarators hs hd ss ds hh is di sread dread) = some_prefix (ss ++ ds) _ ts is (some_prefix ss ds (ss ++ ds) refl (begins_some _ ss ((laws.first_tokens _).spec sread)))

  pub item_some : {names : List (List ℕ)} {h : ℕ} {new : List (List ℕ)} {ts : Kinds} {i : Item} → ItemReads names h new ts i → 0 < length ts
  item_some (ItemReads.declaration h new ts i d ni ii read) = decl_some read
  item_some (ItemReads.type_definition h new ts i s ds hs hd ss dts hh is ii sread dread) = let e = ap (λ k. length k) is in omega arith
  item_some (ItemReads.definition h new ts i s d b x hs hd hb ss ds bs ni hh is ii sread dread bread) = some_prefix (ss ++ ds) bs ts is (some_prefix ss ds (ss ++ ds) refl (begins_some _ ss ((laws.first_tokens _).spec sread)))

  -- ---- items

  pub items_are_told_apart : ItemsAreToldApart
  items_are_told_apart names g h new more ts us rest others i j low high first second is =
      let a = item_takes laws named names greatest_depth low first rest in
      let b = item_takes laws named names greatest_depth high second others in
      let e = one_answer (sym a ∙ ap (λ k. item names greatest_depth k) is ∙ b) in
      (ap (λ p. p.0) e.0, ap (λ p. p.1) e.0, append_cancel_right ts us others (ap (λ k. ts ++ k) (sym e.1) ∙ is))

  -- where the reader of items answers nothing, no item begins the tokens, and the other way round
  abbrev BeginsNoItem : List (List ℕ) → Kinds → Type 0
  BeginsNoItem names ts = (h : ℕ) (new : List (List ℕ)) (its os : Kinds) (i : Item) → h ≤ greatest_depth → ts ≡ its ++ os → ItemReads names h new its i → ⊥

  no_item : (names : List (List ℕ)) (ts : Kinds) → item names greatest_depth ts ≡ None → BeginsNoItem names ts
  no_item names ts none h new its os i low is read = let taken = item_takes laws named names greatest_depth low read os in let same = ap (λ k. item names greatest_depth k) is in cc

  no_answer_by : (names : List (List ℕ)) (ts : Kinds) (o : Outcome (Item × List (List ℕ))) → item names greatest_depth ts ≡ o → BeginsNoItem names ts → o ≡ None
  no_answer_by names ts None is none = refl
  no_answer_by names ts (Some q) is none = let x = item_sound laws named names greatest_depth ts q.0 q.1 is in absurd (none x.2 q.0.1 x.0 q.1 q.0.0 x.3 x.1 x.4)

  no_answer : (names : List (List ℕ)) (ts : Kinds) → BeginsNoItem names ts → item names greatest_depth ts ≡ None
  no_answer names ts none = no_answer_by names ts (item names greatest_depth ts) refl none

  no_tokens : (names : List (List ℕ)) → item names greatest_depth [] ≡ None
  no_tokens names = no_answer names [] (λ h new its os i low is read. let few : 0 < 0 = some_prefix its os [] is (item_some read) in absurd (omega arith))

  -- ---- the loop reads what is of the grammar

  items_taken : {names : List (List ℕ)} {ts : Kinds} {items : List Item} {after : List (List ℕ)} → ItemsRead names ts items after → (rest : Kinds) → item after greatest_depth rest ≡ None → (n : ℕ) → length ts ≤ n → (found : List Item)
      → items_from n found names (ts ++ rest) ≡ (found ++ items, rest)
  unfolding items_from
  items_taken (ItemsRead.none names ts items after is ii ai) rest ends zero enough found = rw (is, ii, append-nil found) refl
  items_taken (ItemsRead.none names ts items after is ii ai) rest ends (suc n) enough found = let same : item names greatest_depth rest ≡ None = ap (λ k. item k greatest_depth rest) (sym ai) ∙ ends in rw (is, ii, append-nil found, same) refl
  items_taken (ItemsRead.more names ts items after i others h new its os low is ii read behind) rest ends zero enough found = let some = some_prefix its os ts is (item_some read) in absurd (omega arith)
  items_taken (ItemsRead.more names ts items after i others h new its os low is ii read behind) rest ends (suc n) enough found =
      let some = item_some read in
      let long = ap (λ k. length k) is in
      let both = length-append its os in
      rw (is, ii, append_assoc its os rest, item_takes laws named names greatest_depth low read (os ++ rest)) (items_taken behind rest ends n (omega arith) (found ++ i ∷ []) ∙ rw (append_assoc found (i ∷ []) others) refl)

  source_taken : {ts : Kinds} {items : List Item} {after : List (List ℕ)} → ItemsRead [] ts items after → (rest : Kinds) → item after greatest_depth rest ≡ None → source_of (ts ++ rest) ≡ (items, rest)
  unfolding source_of
  source_taken {ts} read rest ends = items_taken read rest ends (length (ts ++ rest)) (let l = length-append ts rest in omega arith) []

  -- the loop answers a source whole
  pub source_is : (ts : Kinds) (source : Source) → SourceReads ts source → source_of ts ≡ (source.items, [])
  source_is ts source read = ap source_of (sym (append-nil ts)) ∙ source_taken read.1 [] (no_tokens read.0)

  -- the loop stops behind the items of a refusal, with the tokens that it leaves
  pub refusal_is : (ts : Kinds) (count : ℕ) (r : IsSyntaxRefusal ts count) → source_of ts ≡ (r.items, r.rest)
  refusal_is ts count r = ap source_of r.split ∙ source_taken r.read r.rest (no_answer r.names r.rest r.none)

  -- ---- what the loop reads is of the grammar

  -- what the loop found behind these, and that no item begins what is left
  record Looped (names : List (List ℕ)) (found : List Item) (ts : Kinds) (f : Found) : Type 0 where
    others : List Item
    after : List (List ℕ)
    prefix : Kinds
    all : f.0 ≡ found ++ others
    split : ts ≡ prefix ++ f.1
    read : ItemsRead names prefix others after
    ended : item after greatest_depth f.1 ≡ None

  looped_more : {names : List (List ℕ)} {found : List Item} {ts : Kinds} (i : Item) (new : List (List ℕ)) (ks : Kinds) (f : Found) → ItemRead names greatest_depth ts (i, new) ks → Looped (names ++ new) (found ++ i ∷ []) ks f → Looped names found ts f
  looped_more {names} {found} {ts} i new ks f x l = record {
    others = i ∷ l.others;
    after = l.after;
    prefix = x.0 ++ l.prefix;
    all = l.all ∙ append_assoc found (i ∷ []) l.others;
    split = join x.0 l.prefix f.1 x.1 l.split;
    read = ItemsRead.more _ _ _ _ i l.others x.2 new x.0 l.prefix x.3 refl refl x.4 l.read;
    ended = l.ended;
  }

  looped_none : {names : List (List ℕ)} (found : List Item) (ts : Kinds) → item names greatest_depth ts ≡ None → Looped names found ts (found, ts)
  looped_none {names} found ts none = record { others = []; after = names; prefix = []; all = sym (append-nil found); split = refl; read = ItemsRead.none _ _ _ _ refl refl refl; ended = none }

  looped_by : (n : ℕ) → ((found : List Item) (names : List (List ℕ)) (ts : Kinds) → length ts ≤ n → Looped names found ts (items_from n found names ts)) → (found : List Item) (names : List (List ℕ)) (ts : Kinds) → length ts ≤ suc n
      → (o : Outcome (Item × List (List ℕ))) → item names greatest_depth ts ≡ o → Looped names found ts (behind_item found names ts (items_from n) o)
  looped_by n next found names ts few None is = looped_none found ts is
  looped_by n next found names ts few (Some q) is =
      let x = item_sound laws named names greatest_depth ts q.0 q.1 is in
      let some = item_some x.4 in
      let long = ap (λ k. length k) x.1 in
      let both = length-append x.0 q.1 in
      looped_more q.0.0 q.0.1 q.1 (items_from n (found ++ q.0.0 ∷ []) (names ++ q.0.1) q.1) x (next (found ++ q.0.0 ∷ []) (names ++ q.0.1) q.1 (omega arith))

  looped : (n : ℕ) (found : List Item) (names : List (List ℕ)) (ts : Kinds) → length ts ≤ n → Looped names found ts (items_from n found names ts)
  unfolding items_from
  looped zero found names [] few = looped_none found [] (no_tokens names)
  looped zero found names (k ∷ ks) few = absurd (omega arith)
  looped (suc n) found names ts few = looped_by n (looped n) found names ts few (item names greatest_depth ts) refl

  source_looped : (ts : Kinds) → Looped [] [] ts (source_of ts)
  unfolding source_of
  source_looped ts = looped (length ts) [] [] ts (omega arith)

  -- where no token is left, the items are a source of the tokens
  pub source_found : (ts : Kinds) → (source_of ts).1 ≡ [] → SourceReads ts (record { items = (source_of ts).0 })
  source_found ts none = let l = source_looped ts in
      let same : ts ≡ l.prefix = l.split ∙ ap (λ k. l.prefix ++ k) none ∙ append-nil l.prefix in
      (l.after, subst (λ xs. ItemsRead [] ts xs l.after) (sym l.all) (subst (λ k. ItemsRead [] k l.others l.after) (sym same) l.read))

  -- where tokens are left, the source is refused behind the items
  pub source_refused : (ts : Kinds) → (source_of ts).1 ≢ [] → IsSyntaxRefusal ts (length (source_of ts).0)
  source_refused ts some = let l = source_looped ts in record {
    items = l.others;
    names = l.after;
    before = l.prefix;
    rest = (source_of ts).1;
    split = l.split;
    read = l.read;
    count_is = ap (λ xs. length xs) l.all;
    some = some;
    none = no_item l.after (source_of ts).1 l.ended;
  }

  -- ---- what one text can be

  pub sources_have_one_tree : SourcesHaveOneTree
  sources_have_one_tree ts a b first second = ap (λ xs. record { items = xs }) (ap (λ f. f.0) (sym (source_is ts a first) ∙ source_is ts b second))

  pub refusals_are_certain : RefusalsAreCertain
  refusals_are_certain ts count r = (
    (λ other q. let same = sym (refusal_is ts other q) ∙ refusal_is ts count r in q.count_is ∙ ap (λ f. length f.0) same ∙ sym r.count_is),
    (λ source read. r.some (ap (λ f. f.1) (sym (refusal_is ts count r) ∙ source_is ts source read))),
  )

  -- ---- what the loop answers, by its items and how many tokens it leaves

  none_of : (ks : Kinds) → length ks ≡ 0 → ks ≡ []
  none_of [] is = refl
  none_of (k ∷ ks) is = absurd (omega arith)

  none_left : (ts : Kinds) (left : ℕ) → left ≡ length (source_of ts).1 → left ≡ 0 → (source_of ts).1 ≡ []
  none_left ts left is none = none_of (source_of ts).1 (sym is ∙ none)

  some_left : (ts : Kinds) (left : ℕ) → left ≡ length (source_of ts).1 → left ≢ 0 → (source_of ts).1 ≢ []
  some_left ts left is some none = some (is ∙ ap (λ k. length k) none)

  pub answer_found : (ts : Kinds) (items : List Item) (left : ℕ) → items ≡ (source_of ts).0 → left ≡ length (source_of ts).1 → left ≡ 0 → SourceReads ts (record { items = items })
  answer_found ts items left all is none = subst (λ xs. SourceReads ts (record { items = xs })) (sym all) (source_found ts (none_left ts left is none))

  pub answer_only : (ts : Kinds) (items : List Item) → items ≡ (source_of ts).0 → (source : Source) → SourceReads ts source → record { items = items } ≡ source
  answer_only ts items all source read = ap (λ xs. record { items = xs }) (all ∙ ap (λ f. f.0) (source_is ts source read))

  pub answer_whole : (ts : Kinds) (left : ℕ) → left ≡ length (source_of ts).1 → left ≡ 0 → (count : ℕ) → IsSyntaxRefusal ts count → ⊥
  answer_whole ts left is none count r = r.some (ap (λ f. f.1) (sym (refusal_is ts count r)) ∙ none_left ts left is none)

  pub answer_refused : (ts : Kinds) (items : List Item) (left : ℕ) → items ≡ (source_of ts).0 → left ≡ length (source_of ts).1 → left ≢ 0 → IsSyntaxRefusal ts (length items)
  answer_refused ts items left all is some = subst (λ xs. IsSyntaxRefusal ts (length xs)) (sym all) (source_refused ts (some_left ts left is some))

  pub answer_no_source : (ts : Kinds) (left : ℕ) → left ≡ length (source_of ts).1 → left ≢ 0 → (source : Source) → SourceReads ts source → ⊥
  answer_no_source ts left is some source read = some_left ts left is some (ap (λ f. f.1) (source_is ts source read))

  pub answer_count : (ts : Kinds) (items : List Item) → items ≡ (source_of ts).0 → (count : ℕ) → IsSyntaxRefusal ts count → length items ≡ count
  answer_count ts items all count r = ap (λ xs. length xs) (all ∙ ap (λ f. f.0) (refusal_is ts count r)) ∙ sym r.count_is

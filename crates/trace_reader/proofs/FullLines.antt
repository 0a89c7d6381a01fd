-- The lines of full texts: the last one and those before it, and that a text has one trace or one first bad line.
use Rattle.std.proofs.Common.{◌≡◌, ℕ, zero, suc, ℤ, ◌+◌, ◌<◌, true, false, List, [], ◌∷◌, ◌++◌, length, map, get_or, refl, sym, ap, subst, ◌∙◌, arith, inl, inr, ◌⊎◌, ⊎_elim, append_assoc}
use Rattle.std.specs.List.{All, AllByRecursion, concat, flat_map}
use Rattle.std.proofs.lemmas.Bool.{cases_order, cases_eq}
use Rattle.std.proofs.lemmas.List.{append-nil, get_or_append_left, get_or_push, length_push, map_push, same_from_push, nil_from_length}
use Rattle.std.proofs.lemmas.List.Elements.{All-nil, All-push, recursion_from_All}
use Rattle.meaning.specs.declared.record.Record.{Record}
use Rattle.job.specs.Lines.{lines_of}
use Rattle.fields.specs.Numbers.{IsWord}
use Rattle.fields.specs.Theorems.{FieldLaws}
use Rattle.trace.specs.Text.{input_text, record_text, run_text, trace_text}
use Rattle.trace_reader.specs.declared.item.Item.{Item}
use Rattle.trace_reader.specs.declared.item.Item.TheVariants.{Given, Recorded}
use Rattle.trace_reader.specs.FullText.{full_lines, IsRecord, join, IsTrace, HasFullText, AreFullLines, IsFirstBad}
use Rattle.trace_reader.specs.inner.Items.{item_text, IsItem, MayFollow}
use Rattle.trace_reader.proofs.ItemTexts.{line_comes, one_item}

-- ---- lists

last_split : {X : Type 0} (xs : List X) → (xs ≡ []) ⊎ ((ys : List X) × (y : X) × (xs ≡ ys ++ y ∷ []))
last_split [] = inl refl
last_split (x ∷ xs) =
    inr (⊎_elim (λ none. ([], x, ap (λ t. x ∷ t) none)) (λ split. (x ∷ split.0, split.1, ap (λ t. x ∷ t) split.2)) (last_split xs))

all_before : {X : Type 0} (P : X → Type 0) (xs : List X) (y : X) → All P (xs ++ y ∷ []) → All P xs
all_before P xs y all = λ k d below.
    subst P (get_or_append_left xs (y ∷ []) d k below) (all k d (omega (arith, length_push xs y)))

all_last : {X : Type 0} (P : X → Type 0) (xs : List X) (y : X) → All P (xs ++ y ∷ []) → P y
all_last P xs y all = subst P (get_or_push xs y y (length xs) refl) (all (length xs) y (omega (arith, length_push xs y)))

-- ---- records one behind another

abbrev Apart : List Record → Type 0
Apart records = (k : ℕ) (d : Record) → k + 1 < length records → join (get_or records k d) (get_or records (k + 1) d) ≡ false

apart_before : (records : List Record) (r : Record) → Apart (records ++ r ∷ []) → Apart records
apart_before records r apart = λ k d below.
    let first : get_or (records ++ r ∷ []) k d ≡ get_or records k d = get_or_append_left records (r ∷ []) d k (omega arith) in
    let second : get_or (records ++ r ∷ []) (k + 1) d ≡ get_or records (k + 1) d = get_or_append_left records (r ∷ []) d (k + 1) below in
    let known = apart k d (omega (arith, length_push records r)) in
    sym (ap (λ x. join x (get_or (records ++ r ∷ []) (k + 1) d)) first ∙ ap (join (get_or records k d)) second) ∙ known

follows_last : (records : List Record) (r : Record) → Apart (records ++ r ∷ []) → MayFollow records (Recorded r)
follows_last records r apart = λ k d last.
    let first : get_or (records ++ r ∷ []) k d ≡ get_or records k d = get_or_append_left records (r ∷ []) d k (omega arith) in
    let second : get_or (records ++ r ∷ []) (k + 1) d ≡ r = get_or_push records r d (k + 1) (sym last) in
    let known = apart k d (omega (arith, length_push records r)) in
    sym (ap (λ x. join x (get_or (records ++ r ∷ []) (k + 1) d)) first ∙ ap (join (get_or records k d)) second) ∙ known

apart_push : (records : List Record) (r : Record) → Apart records → MayFollow records (Recorded r) → Apart (records ++ r ∷ [])
apart_push records r apart may = λ k d below.
    let len = length_push records r in
    let first : get_or (records ++ r ∷ []) k d ≡ get_or records k d = get_or_append_left records (r ∷ []) d k (omega arith) in
    ⊎_elim {A = k + 1 ≡ length records}
    (λ last.
    let second : get_or (records ++ r ∷ []) (k + 1) d ≡ r = get_or_push records r d (k + 1) (sym last) in
    ap (λ x. join x (get_or (records ++ r ∷ []) (k + 1) d)) first ∙ ap (join (get_or records k d)) second ∙ may k d last)
    (λ other.
    let second : get_or (records ++ r ∷ []) (k + 1) d ≡ get_or records (k + 1) d = get_or_append_left records (r ∷ []) d (k + 1) (omega arith) in
    ap (λ x. join x (get_or (records ++ r ∷ []) (k + 1) d)) first ∙ ap (join (get_or records k d)) second ∙ apart k d (omega arith))
    (cases_eq (k + 1) (length records))

pub trace_none : IsTrace [] []
trace_none = record { words = All-nil IsWord; each = All-nil IsRecord; apart = λ k d below. absurd (omega arith) }

pub trace_given : (inputs : List ℤ) (v : ℤ) → IsTrace inputs [] → IsWord v → IsTrace (inputs ++ v ∷ []) []
trace_given inputs v trace is = record { words = All-push IsWord inputs v trace.words is; each = trace.each; apart = trace.apart }

pub trace_recorded : (inputs : List ℤ) (records : List Record) (r : Record) → IsTrace inputs records → IsRecord r → MayFollow records (Recorded r) → IsTrace inputs (records ++ r ∷ [])
trace_recorded inputs records r trace is may = record {
  words = trace.words;
  each = All-push IsRecord records r trace.each is;
  apart = apart_push records r trace.apart may;
}

-- ---- lines one behind another

pub lines_given : (inputs : List ℤ) (v : ℤ) → full_lines (inputs ++ v ∷ []) [] ≡ full_lines inputs [] ++ input_text v ∷ []
lines_given inputs v =
    append-nil (map input_text (inputs ++ v ∷ [])) ∙ map_push input_text inputs v ∙ ap (λ t. t ++ input_text v ∷ []) (sym (append-nil (map input_text inputs)))

pub lines_recorded : (inputs : List ℤ) (records : List Record) (r : Record) → full_lines inputs (records ++ r ∷ []) ≡ full_lines inputs records ++ record_text r ∷ []
lines_recorded inputs records r =
    ap (λ t. map input_text inputs ++ t) (map_push record_text records r) ∙ sym (append_assoc (map input_text inputs) (map record_text records) (record_text r ∷ []))

records_text : (records : List Record) → trace_text true records ≡ concat (map record_text records)
records_text [] = refl
records_text (r ∷ rs) = ap (λ t. record_text r ++ t) (records_text rs)

-- a full text is its lines
pub text_is_lines : (inputs : List ℤ) (records : List Record) → run_text true inputs records ≡ concat (full_lines inputs records)
text_is_lines [] records = records_text records
text_is_lines (v ∷ vs) records =
    append_assoc (input_text v) (flat_map input_text vs) (trace_text true records) ∙ ap (λ t. input_text v ++ t) (text_is_lines vs records)

-- the lines before the last one, and what that is
pub record Last (before : List (List ℕ)) (bad : List ℕ) : Type 0 where
  pub inputs : List ℤ
  pub records : List Record
  pub item : Item
  pub trace : IsTrace inputs records
  pub lines : before ≡ full_lines inputs records
  pub is : IsItem item
  pub text : bad ≡ item_text item
  pub may : MayFollow records item

last_given : (before : List (List ℕ)) (bad : List ℕ) (inputs : List ℤ) → IsTrace inputs [] → before ++ bad ∷ [] ≡ full_lines inputs [] → Last before bad
last_given before bad inputs trace lines =
    ⊎_elim
    (λ none. absurd (omega (arith, ap length lines, ap (λ i. length (full_lines i [])) none, length_push before bad)))
    (λ split.
    let front = split.0 in
    let v = split.1 in
    let words : All IsWord (front ++ v ∷ []) = subst (All IsWord) split.2 trace.words in
    let parts = same_from_push before (full_lines front []) bad (input_text v) (lines ∙ ap (λ i. full_lines i []) split.2 ∙ lines_given front v) in
    record {
      inputs = front;
      records = [];
      item = Given v;
      trace = record { words = all_before IsWord front v words; each = trace.each; apart = trace.apart };
      lines = parts.0;
      is = all_last IsWord front v words;
      text = parts.1;
      may = refl;
    })
    (last_split inputs)

last_recorded : (before : List (List ℕ)) (bad : List ℕ) (inputs : List ℤ) (records : List Record) (r : Record) → IsTrace inputs (records ++ r ∷ []) → before ++ bad ∷ [] ≡ full_lines inputs (records ++ r ∷ []) → Last before bad
last_recorded before bad inputs records r trace lines =
    let parts = same_from_push before (full_lines inputs records) bad (record_text r) (lines ∙ lines_recorded inputs records r) in
    record {
      inputs = inputs;
      records = records;
      item = Recorded r;
      trace = record { words = trace.words; each = all_before IsRecord records r trace.each; apart = apart_before records r trace.apart };
      lines = parts.0;
      is = all_last IsRecord records r trace.each;
      text = parts.1;
      may = follows_last records r trace.apart;
    }

pub last_line : (before : List (List ℕ)) (bad : List ℕ) → AreFullLines (before ++ bad ∷ []) → Last before bad
last_line before bad full =
    ⊎_elim
    (λ none. last_given before bad full.inputs (subst (IsTrace full.inputs) none full.trace) (full.lines_are ∙ ap (full_lines full.inputs) none))
    (λ split. last_recorded before bad full.inputs split.0 split.1 (subst (IsTrace full.inputs) split.2 full.trace) (full.lines_are ∙ ap (full_lines full.inputs) split.2))
    (last_split full.records)

-- the first lines of a full text are a full text
full_front : (n : ℕ) (xs ys : List (List ℕ)) → length ys ≡ n → AreFullLines (xs ++ ys) → AreFullLines xs
full_front zero xs ys none full = subst AreFullLines (ap (λ t. xs ++ t) (nil_from_length ys none) ∙ append-nil xs) full
full_front (suc n) xs ys some full =
    ⊎_elim
    (λ none. absurd (omega (arith, ap length none)))
    (λ split.
    let front = split.0 in
    let y = split.1 in
    let whole : xs ++ ys ≡ (xs ++ front) ++ y ∷ [] = ap (λ t. xs ++ t) split.2 ∙ sym (append_assoc xs front (y ∷ [])) in
    let last = last_line (xs ++ front) y (subst AreFullLines whole full) in
    full_front n xs front (omega (arith, ap length split.2, length_push front y)) (record { inputs = last.inputs; records = last.records; trace = last.trace; lines_are = last.lines }))
    (last_split ys)

-- of two beginnings of one list the longer has the shorter and what stands behind it
front_more : (xs ys : List (List ℕ)) (x : List ℕ) (t u : List (List ℕ)) → xs ++ x ∷ t ≡ ys ++ u → length xs < length ys → (m : List (List ℕ)) × (ys ≡ (xs ++ x ∷ []) ++ m)
front_more [] [] x t u is below = absurd (omega arith)
front_more [] (y ∷ ys) x t u is below = let same : x ≡ y = cc in (ys, ap (λ z. z ∷ ys) (sym same))
front_more (z ∷ xs) [] x t u is below = absurd (omega arith)
front_more (z ∷ xs) (y ∷ ys) x t u is below =
    let same : z ≡ y = cc in
    let rest : xs ++ x ∷ t ≡ ys ++ u = cc in
    let more = front_more xs ys x t u rest (omega arith) in
    (more.0, ap (λ w. w ∷ ys) (sym same) ∙ ap (λ w. z ∷ w) more.1)

not_earlier : (text : List ℕ) (m n : ℕ) (a : IsFirstBad text m) (b : IsFirstBad text n) → length a.before < length b.before → ⊥
not_earlier text m n a b below =
    let more = front_more a.before b.before a.bad a.after (b.bad ∷ b.after) (sym a.split ∙ b.split) below in
    a.none (full_front (length more.0) (a.before ++ a.bad ∷ []) more.0 refl (subst AreFullLines more.1 b.begins))

pub one_bad : (text : List ℕ) (m n : ℕ) → IsFirstBad text m → IsFirstBad text n → m ≡ n
one_bad text m n a b =
    ⊎_elim (λ same. a.number ∙ ap (λ k. k + 1) same ∙ sym b.number)
    (λ apart. absurd (⊎_elim (λ below. not_earlier text m n a b below) (λ above. not_earlier text n m b a above) apart))
    (cases_order (length a.before) (length b.before))

-- ---- the items of a trace

items : List ℤ → List Record → List Item
items inputs records = map Given inputs ++ map Recorded records

recorded_lines : (records : List Record) → map record_text records ≡ map item_text (map Recorded records)
recorded_lines [] = refl
recorded_lines (r ∷ rs) = ap (λ t. record_text r ∷ t) (recorded_lines rs)

item_lines : (inputs : List ℤ) (records : List Record) → full_lines inputs records ≡ map item_text (items inputs records)
unfolding items
item_lines [] records = recorded_lines records
item_lines (v ∷ vs) records = ap (λ t. input_text v ∷ t) (item_lines vs records)

recorded_are : (records : List Record) → AllByRecursion IsRecord records → AllByRecursion IsItem (map Recorded records)
recorded_are [] each = tt
recorded_are (r ∷ rs) each = (each.0, recorded_are rs each.1)

items_are : (inputs : List ℤ) (records : List Record) → AllByRecursion IsWord inputs → AllByRecursion IsRecord records → AllByRecursion IsItem (items inputs records)
unfolding items
items_are [] records words each = recorded_are records each
items_are (v ∷ vs) records words each = (words.0, items_are vs records words.1 each)

trace_items : (inputs : List ℤ) (records : List Record) → IsTrace inputs records → AllByRecursion IsItem (items inputs records)
trace_items inputs records trace = items_are inputs records (recursion_from_All IsWord inputs trace.words) (recursion_from_All IsRecord records trace.each)

same_records : (rs ss : List Record) → map Recorded rs ≡ map Recorded ss → rs ≡ ss
same_records [] [] is = refl
same_records [] (s ∷ ss) is = cc
same_records (r ∷ rs) [] is = cc
same_records (r ∷ rs) (s ∷ ss) is =
    let head : r ≡ s = cc in
    let tail : map Recorded rs ≡ map Recorded ss = cc in
    let rest : rs ≡ ss = same_records rs ss tail in
    cc

same_trace : (vs ws : List ℤ) (rs ss : List Record) → items vs rs ≡ items ws ss → (vs ≡ ws) × (rs ≡ ss)
unfolding items
same_trace [] [] rs ss is = (refl, same_records rs ss is)
same_trace [] (w ∷ ws) [] ss is = cc
same_trace [] (w ∷ ws) (r ∷ rs) ss is = cc
same_trace (v ∷ vs) [] rs [] is = cc
same_trace (v ∷ vs) [] rs (s ∷ ss) is = cc
same_trace (v ∷ vs) (w ∷ ws) rs ss is =
    let head : v ≡ w = cc in
    let tail : map Given vs ++ map Recorded rs ≡ map Given ws ++ map Recorded ss = cc in
    let rest = same_trace vs ws rs ss tail in
    (ap (λ x. x ∷ vs) head ∙ ap (λ t. w ∷ t) rest.0, rest.1)

module _ (laws : FieldLaws) where
  same_items : (xs ys : List Item) → AllByRecursion IsItem xs → AllByRecursion IsItem ys → map item_text xs ≡ map item_text ys → xs ≡ ys
  same_items [] [] a b is = refl
  same_items [] (y ∷ ys) a b is = cc
  same_items (x ∷ xs) [] a b is = cc
  same_items (x ∷ xs) (y ∷ ys) a b is =
      let head : item_text x ≡ item_text y = cc in
      let tail : map item_text xs ≡ map item_text ys = cc in
      let first : x ≡ y = one_item laws x y a.0 b.0 head in
      let rest : xs ≡ ys = same_items xs ys a.1 b.1 tail in
      cc

  -- lines are the full text of one trace
  pub one_trace_of_lines : (vs ws : List ℤ) (rs ss : List Record) → IsTrace vs rs → IsTrace ws ss → full_lines vs rs ≡ full_lines ws ss → (vs ≡ ws) × (rs ≡ ss)
  one_trace_of_lines vs ws rs ss a b is =
      same_trace vs ws rs ss (same_items (items vs rs) (items ws ss) (trace_items vs rs a) (trace_items ws ss b) (sym (item_lines vs rs) ∙ is ∙ item_lines ws ss))

  lines_of_items : (xs : List Item) → AllByRecursion IsItem xs → lines_of (concat (map item_text xs)) ≡ map item_text xs
  lines_of_items [] each = refl
  lines_of_items (x ∷ xs) each = line_comes laws x (concat (map item_text xs)) each.0 ∙ ap (λ t. item_text x ∷ t) (lines_of_items xs each.1)

  -- a full text has the trace's lines
  pub lines_of_text : (inputs : List ℤ) (records : List Record) → IsTrace inputs records → lines_of (run_text true inputs records) ≡ full_lines inputs records
  lines_of_text inputs records trace =
      let is = item_lines inputs records in
      ap lines_of (text_is_lines inputs records) ∙ ap (λ t. lines_of (concat t)) is ∙ lines_of_items (items inputs records) (trace_items inputs records trace) ∙ sym is

  pub one_trace : (text : List ℕ) (vs ws : List ℤ) (rs ss : List Record) → HasFullText vs rs text → HasFullText ws ss text → (vs ≡ ws) × (rs ≡ ss)
  one_trace text vs ws rs ss a b =
      one_trace_of_lines vs ws rs ss a.trace b.trace (sym (lines_of_text vs rs a.trace) ∙ ap lines_of (sym a.text_is ∙ b.text_is) ∙ lines_of_text ws ss b.trace)

  pub no_bad_line : (text : List ℕ) (inputs : List ℤ) (records : List Record) (n : ℕ) → HasFullText inputs records text → IsFirstBad text n → ⊥
  no_bad_line text inputs records n has bad =
      let lines : (bad.before ++ bad.bad ∷ []) ++ bad.after ≡ full_lines inputs records =
      append_assoc bad.before (bad.bad ∷ []) bad.after ∙ sym bad.split ∙ ap lines_of has.text_is ∙ lines_of_text inputs records has.trace in
      bad.none (full_front (length bad.after) (bad.before ++ bad.bad ∷ []) bad.after refl (record { inputs = inputs; records = records; trace = has.trace; lines_are = lines }))

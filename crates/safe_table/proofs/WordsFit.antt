-- Each part of the rule on words stays, where its words stay and the history has one call more of another kind.
use Rattle.std.proofs.Common.{◌≡◌, ℕ, ◌+◌, ◌*◌, ◌<◌, ◌≤◌, ◌⊎◌, Bool, true, false, ◌||◌, cond, List, [], ◌∷◌, ◌++◌, length, get_or, min, sym, refl, ap, ◌∙◌, subst, ⊎_elim, arith}
use Rattle.std.specs.Prelude.{Option, None, Some}
use mathlib.Core.Option.{some}
use lib.ListN.{get_elem?}
use Rattle.atomic_table.proofs.Lists.{at_snoc}
use Rattle.meaning.specs.declared.value.Entry.{Entry}
use Rattle.meaning.specs.Legal.{put_at, or_else, asked, ends, is_ended, is_new_thread, threads_made}
use Rattle.safe_table.specs.declared.history.StoreCall.{StoreCall}
use Rattle.safe_table.specs.declared.history.StoreSize.{StoreSize}
use Rattle.safe_table.specs.History.{answered, calls, last_entry, last_number, number_after, calls_by, put_weight, puts}
use Rattle.safe_table.specs.Rule.{records_at, low_at, high_at, cell_at, IsMade, Known, entry_of, NumbersFit, CellsFit, RecordsFit, SlotsFit, ThreadsFit, EndsFit, WordsFit, is_late, any_late, is_crowded, any_crowded, numbers_with, next_slot}
use Rattle.safe_table.specs.Seat.{HasRecord}
use Rattle.safe_table.proofs.ListLemmas.{not_both, place_within}
use Rattle.safe_table.proofs.HistoryLemmas.{last_entry-snoc, number_behind-snoc, slots_asked-snoc, threads_made-snoc, is_ended-snoc, puts_by-grows, puts_by-same}
use Rattle.safe_table.proofs.NumbersWith.{late_by-not, crowded_by-not, numbers-same}

-- a call that is no put
pub record NoPut (c : StoreCall) : Type 0 where
  pub number : (a n : ℕ) → number_after a n c.put c.action ≡ n
  pub entry : (a : ℕ) → put_at a c.action ≡ None
  pub weight : put_weight c.action ≡ 0

module _ (z : StoreSize) where
  -- the words from the records on are the same
  abbrev pub SameAbove : List ℕ → List ℕ → Type 0
  SameAbove words words' = (i : ℕ) → records_at z ≤ i → get_or words' i 0 ≡ get_or words i 0

  -- the words of record r are the same
  abbrev pub SameRecord : List ℕ → List ℕ → ℕ → Type 0
  SameRecord words words' r = (get_or words' (low_at z r) 0 ≡ get_or words (low_at z r) 0) × (get_or words' (high_at z r) 0 ≡ get_or words (high_at z r) 0)

  pub same_record : (words words' : List ℕ) → SameAbove words words' → (r : ℕ) → SameRecord words words' r
  same_record words words' same r = (same (low_at z r) (omega arith), same (high_at z r) (omega arith))

  made_grows : (h : List StoreCall) (c : StoreCall) (r : ℕ) → IsMade z h r → IsMade z (h ++ c ∷ []) r
  made_grows h c r made = let more = puts_by-grows made.0 h c in let less = made.4 in (made.0, made.1, made.2, made.3, omega arith)

  made_within : (h : List StoreCall) (r : ℕ) → ((n : ℕ) → puts (calls_by n h) ≤ z.quota) → IsMade z h r → r < z.quota * z.threads
  made_within h r within made = let most = within made.0 in let less = made.4 in let is = made.3 in
      let room : z.quota * made.0 + made.1 < z.quota * z.threads = place_within z.quota z.threads made.0 made.1 made.2 (omega arith) in omega arith

  -- What is known of a record

  pub known_grows : (words : List ℕ) (h : List StoreCall) (c : StoreCall) (n : ℕ) (e : Option Entry) → Known z words h n e → Known z words (h ++ c ∷ []) n e
  known_grows words h c n None k = k
  known_grows words h c n (Some e) k = (k.0, k.1, made_grows h c k.0 k.2, k.3, k.4, k.5)

  pub known_kept : (words words' : List ℕ) (h : List StoreCall) (n : ℕ) (e : Option Entry) → ((r : ℕ) → IsMade z h r → SameRecord words words' r) → Known z words h n e → Known z words' h n e
  known_kept words words' h n None same k = k
  known_kept words words' h n (Some e) same k = let o = same k.0 k.2 in (k.0, k.1, k.2, o.0 ∙ k.3, o.1 ∙ k.4, k.5)

  pub known_on : (words words' : List ℕ) (h : List StoreCall) (n : ℕ) (e : Option Entry) → SameAbove words words' → Known z words h n e → Known z words' h n e
  known_on words words' h n e same = known_kept words words' h n e (λ r made. same_record words words' same r)

  pub has_record : (words : List ℕ) (h : List StoreCall) (n : ℕ) (e : Option Entry) → ((n : ℕ) → puts (calls_by n h) ≤ z.quota) → Known z words h n e → HasRecord z n e
  has_record words h n None within k = k
  has_record words h n (Some e) within k = (k.0, k.1, made_within h k.0 within k.2, k.5)

  -- The parts, where the history stays

  pub numbers_words : (words words' : List ℕ) (h : List StoreCall) → get_or words' 0 0 ≡ get_or words 0 0 → NumbersFit z words h → NumbersFit z words' h
  numbers_words words words' h same f = record {
    few = subst (λ (n : ℕ). n ≤ z.threads) (sym same) f.few;
    named = λ k c at. subst (λ (n : ℕ). c.by < n) (sym same) (f.named k c at);
  }

  pub records_words : (words words' : List ℕ) (h : List StoreCall) → ((r : ℕ) → IsMade z h r → SameRecord words words' r) → RecordsFit z words h → RecordsFit z words' h
  records_words words words' h same f = record {
    known = λ k c at. known_kept words words' h c.put (entry_of c.action c.reply) same (f.known k c at);
    last = λ a. known_kept words words' h (last_number a h) (last_entry a h) same (f.last a);
    within = f.within;
  }

  pub slots_words : (words words' : List ℕ) (h : List StoreCall) → get_or words' 1 0 ≡ get_or words 1 0 → SlotsFit z words h → SlotsFit z words' h
  slots_words words words' h same f = record {
    next = subst (λ (n : ℕ). (1026 + n ≡ next_slot h) ⊎ ((z.slots < 1026 + n) × (z.slots < next_slot h))) (sym same) f.next;
    bound = subst (λ (n : ℕ). n ≤ z.slots + 256 * numbers_with any_late z.threads h) (sym same) f.bound;
    late = f.late;
  }

  pub threads_words : (words words' : List ℕ) (h : List StoreCall) → get_or words' 2 0 ≡ get_or words 2 0 → ThreadsFit z words h → ThreadsFit z words' h
  threads_words words words' h same f = record {
    count = subst (λ (n : ℕ). 1 + threads_made (calls h) ≡ min (1 + n) z.threads) (sym same) f.count;
    bound = subst (λ (n : ℕ). n ≤ z.threads + numbers_with any_crowded z.threads h) (sym same) f.bound;
    crowded = f.crowded;
  }

  -- The parts, where the history has a call of another kind more

  numbers_grow : (words : List ℕ) (h : List StoreCall) (c : StoreCall) → c.by < get_or words 0 0 → NumbersFit z words h → NumbersFit z words (h ++ c ∷ [])
  numbers_grow words h c by f = record {
    few = f.few;
    named = λ k d at. ⊎_elim (λ (t : get_elem? h k ≡ some d). f.named k d t) (λ (t : c ≡ d). subst (λ (x : StoreCall). x.by < get_or words 0 0) t by) (at_snoc h c d k at);
  }

  cells_grow : (words : List ℕ) (h : List StoreCall) (c : StoreCall) → NoPut c → CellsFit z words h → CellsFit z words (h ++ c ∷ [])
  cells_grow words h c unput f a inside = f a inside ∙ sym (number_behind-snoc a 0 h c ∙ unput.number a (last_number a h))

  records_grow : (words : List ℕ) (h : List StoreCall) (c : StoreCall) → NoPut c → Known z words h c.put (entry_of c.action c.reply) → RecordsFit z words h → RecordsFit z words (h ++ c ∷ [])
  records_grow words h c unput known f = record {
    known = λ k d at. ⊎_elim (λ (t : get_elem? h k ≡ some d). known_grows words h c d.put (entry_of d.action d.reply) (f.known k d t))
        (λ (t : c ≡ d). subst (λ (x : StoreCall). Known z words (h ++ c ∷ []) x.put (entry_of x.action x.reply)) t (known_grows words h c c.put (entry_of c.action c.reply) known)) (at_snoc h c d k at);
    last = λ a. subst (λ (p : ℕ × Option Entry). Known z words (h ++ c ∷ []) p.0 p.1)
        (λ i. (sym (number_behind-snoc a 0 h c ∙ unput.number a (last_number a h)) i, sym (last_entry-snoc a h c ∙ ap (λ o. or_else o (last_entry a h)) (unput.entry a)) i))
        (known_grows words h c (last_number a h) (last_entry a h) (f.last a));
    within = λ m. subst (λ (n : ℕ). n ≤ z.quota) (sym (puts_by-same m h c unput.weight)) (f.within m);
  }

  pub slots_grow : (words : List ℕ) (h : List StoreCall) (c : StoreCall) → asked c.action ≡ 0 → is_late c.action c.reply ≡ false → SlotsFit z words h → SlotsFit z words (h ++ c ∷ [])
  slots_grow words h c nothing early f =
      let b = f.bound in
      let more : next_slot (h ++ c ∷ []) ≡ next_slot h = (let is = slots_asked-snoc h c in omega arith) in
      let same : numbers_with any_late z.threads (h ++ c ∷ []) ≡ numbers_with any_late z.threads h = numbers-same any_late z.threads h (h ++ c ∷ []) (λ m l. late_by-not m h c early) in
      record {
        next = subst (λ (n : ℕ). (1026 + get_or words 1 0 ≡ n) ⊎ ((z.slots < 1026 + get_or words 1 0) × (z.slots < n))) (sym more) f.next;
        bound = omega arith;
        late = λ k d at late. subst (λ (n : ℕ). z.slots < n) (sym more) (⊎_elim (λ (t : get_elem? h k ≡ some d). f.late k d t late)
            (λ (t : c ≡ d). absurd (not_both (is_late d.action d.reply) late (subst (λ (x : StoreCall). is_late x.action x.reply ≡ false) t early))) (at_snoc h c d k at));
      }

  pub threads_grow : (words : List ℕ) (h : List StoreCall) (c : StoreCall) → is_new_thread (answered c) ≡ 0 → is_crowded c.action c.reply ≡ false → ThreadsFit z words h → ThreadsFit z words (h ++ c ∷ [])
  threads_grow words h c nothing free f =
      let b = f.bound in
      let more : threads_made (calls (h ++ c ∷ [])) ≡ threads_made (calls h) = (let is = threads_made-snoc h c in omega arith) in
      let same : numbers_with any_crowded z.threads (h ++ c ∷ []) ≡ numbers_with any_crowded z.threads h = numbers-same any_crowded z.threads h (h ++ c ∷ []) (λ m l. crowded_by-not m h c free) in
      record {
        count = ap (λ (n : ℕ). 1 + n) more ∙ f.count;
        bound = omega arith;
        crowded = λ k d at full. ap (λ (n : ℕ). 1 + n) more ∙ (⊎_elim (λ (t : get_elem? h k ≡ some d). f.crowded k d t full)
            (λ (t : c ≡ d). absurd (not_both (is_crowded d.action d.reply) full (subst (λ (x : StoreCall). is_crowded x.action x.reply ≡ false) t free))) (at_snoc h c d k at));
      }

  or_false : (b : Bool) → (b || false) ≡ b
  or_false true = refl
  or_false false = refl

  pub ends_grow : (words : List ℕ) (h : List StoreCall) (c : StoreCall) → ((i : ℕ) → ends i c.action ≡ false) → EndsFit z words h → EndsFit z words (h ++ c ∷ [])
  ends_grow words h c none f i inside =
      let same : is_ended i (calls (h ++ c ∷ [])) ≡ is_ended i (calls h) = is_ended-snoc i h c ∙ (ap (λ b. is_ended i (calls h) || b) (none i) ∙ or_false (is_ended i (calls h))) in
      f i inside ∙ ap (λ b. cond b 1 0) (sym same)

  -- a call that is no put and changes no word of the numbers, cells or records
  pub words_called : (words words' : List ℕ) (h : List StoreCall) (c : StoreCall) → NoPut c → length words' ≡ length words → get_or words' 0 0 ≡ get_or words 0 0 → SameAbove words words'
      → ((a : ℕ) → a < 64 * z.slots → get_or words' (cell_at a) 0 ≡ get_or words (cell_at a) 0) → c.by < get_or words 0 0 → Known z words h c.put (entry_of c.action c.reply) → WordsFit z words h
      → SlotsFit z words' (h ++ c ∷ []) → ThreadsFit z words' (h ++ c ∷ []) → EndsFit z words' (h ++ c ∷ []) → WordsFit z words' (h ++ c ∷ [])
  words_called words words' h c unput long first above same_cells by known f slots threads ended = record {
    wide = long ∙ f.wide;
    numbers = numbers_words words words' (h ++ c ∷ []) first (numbers_grow words h c by f.numbers);
    cells = λ a inside. same_cells a inside ∙ cells_grow words h c unput f.cells a inside;
    records = records_words words words' (h ++ c ∷ []) (λ r made. same_record words words' above r) (records_grow words h c unput known f.records);
    slots = slots;
    threads = threads;
    ends = ended;
  }

-- Slots are drawn from one word.
use Rattle.std.proofs.Common.{◌≡◌, ◌≢◌, ℕ, ◌+◌, ◌*◌, ◌%◌, ◌^◌, ◌<◌, ◌≤◌, Bool, true, false, ◌||◌, cond, List, [], ◌∷◌, ◌++◌, length, get_or, set, sym, refl, ap, ◌∙◌, subst, inl, inr, ⊎_elim, arith, length-set, get_or-set_other, get_or-set_same, lt_of_not-le, le-leb}
use Rattle.std.proofs.lemmas.Bool.{lt-leb}
use Rattle.std.specs.Prelude.{Option, None, Some}
use mathlib.Core.Logic.{dite}
use mathlib.Core.Option.{none, some}
use native.Mathlib.Decide.{ℕ_discrete, dec_le}
use lib.ListN.{get_elem?}
use Rattle.atomic_table.specs.Table.{State, Me, Act, Valid, step, keeps, stepped, carried_after, Allows}
use Rattle.meaning.specs.declared.action.Action.TheVariants.{Alloc}
use Rattle.meaning.specs.declared.action.Reply.TheVariants.{Slot}
use Rattle.atomic_table.proofs.Lists.{at_snoc}
use Rattle.meaning.specs.Legal.{asked, slot_for}
use Rattle.safe_table.specs.declared.history.StoreCall.{StoreCall}
use Rattle.safe_table.specs.declared.history.StoreSize.{StoreSize}
use Rattle.safe_table.specs.declared.view.Held.{Held}
use Rattle.safe_table.specs.declared.view.View.{View}
use Rattle.safe_table.specs.History.{call, calls, calls_by}
use Rattle.safe_table.specs.Rule.{IsSize, is_late, any_late, numbers_with, next_slot, SlotsFit, WordsFit}
use Rattle.safe_table.specs.inner.Views.{called_view}
use Rattle.safe_table.specs.inner.Plays.{Calls, SlotIs, Draws}
use Rattle.safe_table.proofs.ListLemmas.{same_one}
use Rattle.safe_table.proofs.HistoryLemmas.{slots_asked-snoc, calls_by-mine, calls_by-other}
use Rattle.safe_table.proofs.NumbersWith.{late-snoc, late_one, numbers-same, numbers-more, numbers-few}
use Rattle.safe_table.proofs.WordsFit.{threads_words, threads_grow, ends_grow, words_called}
use Rattle.safe_table.proofs.ViewsFit.{Kept, held_one, called}

-- how much a seat adds that was told before that there are too few, or wasn't
abbrev pub added : Bool → ℕ → ℕ
added late k = cond late 0 k

module _ (z : StoreSize) where
  -- the slot that the history fixes, and none
  fits_slot : (h : List StoreCall) (k : ℕ) → next_slot h + k ≤ z.slots → slot_for z.slots k (calls h) ≡ Some (next_slot h)
  fits_slot h k room = ap (λ b. cond b (Some (next_slot h)) None) (le-leb (next_slot h + k) z.slots room)

  fits_none : (h : List StoreCall) (k : ℕ) → z.slots < next_slot h + k → slot_for z.slots k (calls h) ≡ None
  fits_none h k full = ap (λ b. cond b (Some (next_slot h)) None) (lt-leb (next_slot h + k) z.slots full)

  -- the slot word's part after a call that got slots
  slots_got : (words : List ℕ) (h : List StoreCall) (c : StoreCall) (k s : ℕ) → 1 < length words → c.action ≡ Alloc k → c.reply ≡ Slot (Some s) → 1026 + get_or words 1 0 ≡ next_slot h → next_slot h + k ≤ z.slots
      → SlotsFit z words h → SlotsFit z (set words 1 (get_or words 1 0 + k)) (h ++ c ∷ [])
  slots_got words h c k s inside is answer next room f =
      let n : ℕ = get_or words 1 0 + k in
      let now : get_or (set words 1 n) 1 0 ≡ n = get_or-set_same words 1 n 0 inside in
      let more : next_slot (h ++ c ∷ []) ≡ next_slot h + k = (let i = slots_asked-snoc h c in let j : asked c.action ≡ k = ap asked is in omega arith) in
      record {
        next = inl (ap (λ (m : ℕ). 1026 + m) now ∙ (let goal : 1026 + n ≡ next_slot (h ++ c ∷ []) = omega arith in goal));
        bound = subst (λ (m : ℕ). m ≤ z.slots + 256 * numbers_with any_late z.threads (h ++ c ∷ [])) (sym now) (omega arith);
        late = λ i d at late. ⊎_elim (λ (t : get_elem? h i ≡ some d). let l = f.late i d t late in absurd (omega arith))
            (λ (t : c ≡ d). let early : false ≡ true = sym (λ j. is_late (is j) (answer j)) ∙ (ap (λ (e : StoreCall). is_late e.action e.reply) t ∙ late) in absurd (cc)) (at_snoc h c d i at);
      }

  -- after a call that got none, whose caller got none for the first time
  slots_none : (words : List ℕ) (h : List StoreCall) (c : StoreCall) (k : ℕ) → 1 < length words → c.action ≡ Alloc k → c.reply ≡ Slot None → c.by < z.threads → k ≤ 256 → any_late (calls_by c.by h) ≡ false
      → z.slots < 1026 + get_or words 1 0 + k → z.slots < next_slot h + k → SlotsFit z words h → SlotsFit z (set words 1 (get_or words 1 0 + k)) (h ++ c ∷ [])
  slots_none words h c k inside is answer few small early past past' f =
      let n : ℕ = get_or words 1 0 + k in
      let b = f.bound in
      let now : get_or (set words 1 n) 1 0 ≡ n = get_or-set_same words 1 n 0 inside in
      let more : next_slot (h ++ c ∷ []) ≡ next_slot h + k = (let i = slots_asked-snoc h c in let j : asked c.action ≡ k = ap asked is in omega arith) in
      let late_now : any_late (calls_by c.by (h ++ c ∷ [])) ≡ true = ap any_late (calls_by-mine c.by h c refl) ∙ (late-snoc (calls_by c.by h) c ∙ (λ i. early i || is_late (is i) (answer i))) in
      let one : numbers_with any_late z.threads (h ++ c ∷ []) ≡ numbers_with any_late z.threads h + 1 =
      numbers-more any_late z.threads c.by h (h ++ c ∷ []) few (λ m ne. ap any_late (calls_by-other m h c (λ e. ne (sym e)))) early late_now in
      record {
        next = inr (subst (λ (m : ℕ). z.slots < 1026 + m) (sym now) (omega arith), omega arith);
        bound = subst (λ (m : ℕ). m ≤ z.slots + 256 * numbers_with any_late z.threads (h ++ c ∷ [])) (sym now) (omega arith);
        late = λ i d at late. omega arith;
      }

  -- after a call whose caller had got none before
  slots_late : (words : List ℕ) (h : List StoreCall) (c : StoreCall) (k : ℕ) → 1 < length words → c.action ≡ Alloc k → any_late (calls_by c.by h) ≡ true → z.slots < next_slot h → SlotsFit z words h
      → SlotsFit z (set words 1 (get_or words 1 0 + 0)) (h ++ c ∷ [])
  slots_late words h c k inside is late past f =
      let n : ℕ = get_or words 1 0 + 0 in
      let b = f.bound in
      let now : get_or (set words 1 n) 1 0 ≡ n = get_or-set_same words 1 n 0 inside in
      let more : next_slot (h ++ c ∷ []) ≡ next_slot h + k = (let i = slots_asked-snoc h c in let j : asked c.action ≡ k = ap asked is in omega arith) in
      let same : numbers_with any_late z.threads (h ++ c ∷ []) ≡ numbers_with any_late z.threads h = numbers-same any_late z.threads h (h ++ c ∷ []) (λ m l. dite (ℕ_discrete c.by m)
      (λ e. ap any_late (calls_by-mine m h c e) ∙ (late-snoc (calls_by m h) c ∙ (subst (λ (k : ℕ). (any_late (calls_by k h) || is_late c.action c.reply) ≡ any_late (calls_by k h)) e ((λ i. late i || is_late c.action c.reply) ∙ sym late))))
      (λ ne. ap any_late (calls_by-other m h c ne))) in
      let above : z.slots < 1026 + get_or words 1 0 = ⊎_elim (λ (t : 1026 + get_or words 1 0 ≡ next_slot h). omega arith) (λ (t : (z.slots < 1026 + get_or words 1 0) × (z.slots < next_slot h)). t.0) f.next in
      record {
        next = inr (subst (λ (m : ℕ). z.slots < 1026 + m) (sym now) (omega arith), omega arith);
        bound = subst (λ (m : ℕ). m ≤ z.slots + 256 * numbers_with any_late z.threads (h ++ c ∷ [])) (sym now) (omega arith);
        late = λ i d at l. omega arith;
      }

  -- a late caller is one, so the next slot is above
  late_past : (h : List StoreCall) (n : ℕ) {words : List ℕ} → SlotsFit z words h → any_late (calls_by n h) ≡ true → z.slots < next_slot h
  late_past h n f late = let c = late_one h n late in f.late c.0 c.1 c.2 c.3

  -- a draw, once its answer, what it added and the slot word's part are known
  drew : (s : State ℕ View) (r : Kept z s) (slots id : ℕ) (me : Me ℕ View) (k add a : ℕ) (x : Held) (t : Option ℕ) → me.0.live ≡ true → me.0.held ≡ x ∷ [] → get_elem? s.views id ≡ some me.0
      → get_or s.words 1 0 + a ≡ (get_or s.words 1 0 + add) % 2 ^ 64 → (1 ≤ k) × (k ≤ 256) → slot_for z.slots k (calls r.history) ≡ t
      → SlotsFit z (set s.words 1 (get_or s.words 1 0 + a)) (r.history ++ call x.number (Alloc k) (Slot t) 0 0 ∷ []) → SlotIs z (any_late x.mine) k (get_or s.words 1 0) t
      → get_or s.words 1 0 ≤ z.slots + 256 * z.threads
      → (w : View) × (b : Act ℕ) × Valid s.homes me.1 b × Kept z (stepped s 1 ((get_or s.words 1 0 + add) % 2 ^ 64) id me.1 w b) × Draws k (step slots 1 add 0 none) me (get_or s.words 1 0) (w, carried_after me.1 b)
  drew s r slots id me k add a x t live only at wrap amount answered part answer bound =
      let v : View = me.0 in
      let n : ℕ = get_or s.words 1 0 in
      let h : List StoreCall = r.history in
      let c : StoreCall = call x.number (Alloc k) (Slot t) 0 0 in
      let fits = r.views_fit id v at live in
      let f = r.words_fit in
      let q = held_one z s r id v x at live only in
      let words : List ℕ = set s.words 1 (n + a) in
      let other = λ (i : ℕ) (l : i ≢ 1). get_or-set_other s.words 1 i (n + a) 0 l in
      let written : WordsFit z words (h ++ c ∷ []) = words_called z s.words words h c (record { number = λ b m. refl; entry = λ b. refl; weight = refl }) (length-set s.words 1 (n + a)) (other 0 (λ e. omega arith))
      (λ i above. other i (λ e. omega arith)) (λ b inside. other (3 + b) (λ e. omega arith)) q.given refl f part
      (threads_words z s.words words (h ++ c ∷ []) (other 2 (λ e. omega arith)) (threads_grow z s.words h c refl refl f.threads))
      (λ i inside. other (3 + 64 * z.slots + i) (λ e. omega arith) ∙ ends_grow z s.words h c (λ j. refl) f.ends i inside) in
      let done = called z s r id v x c words at live only refl (sym (ap Slot answered)) (refl, refl, amount.0, amount.1) (other 0 (λ e. omega arith)) (λ i above. other i (λ e. omega arith)) written in
      let w : View = called_view v x h c in (
        w,
        keeps,
        tt,
        subst (λ (m : ℕ). Kept z record { words = set s.words 1 m; homes = s.homes; views = set s.views id w }) wrap done.0,
        (
          refl,
          λ y is. subst (λ (k' : Held). (t : Option ℕ) × Calls v w k' (call k'.number (Alloc k) (Slot t) 0 0) × SlotIs v.size (any_late k'.mine) k n t × (n ≤ v.size.slots + 256 * v.size.threads)) (same_one x y v.held only is)
              (t, done.1, subst (λ (k' : StoreSize). SlotIs k' (any_late x.mine) k n t) (sym fits.size_is) answer, subst (λ (k' : StoreSize). n ≤ k'.slots + 256 * k'.threads) (sym fits.size_is) bound),
        ),
      )

  draws_by : (b : Bool) (slots id : ℕ) (me : Me ℕ View) (k add : ℕ) (x : Held) → any_late x.mine ≡ b → me.0.live ≡ true → me.0.held ≡ x ∷ [] → (1 ≤ k) × (k ≤ 256) → add ≡ added b k → IsSize z
      → Allows (Kept z) slots id me 1 (λ n. (n + add) % 2 ^ 64) (Draws k (step slots 1 add 0 none) me)
  draws_by true slots id me k add x late live only amount adds size s r wide at below =
      let n : ℕ = get_or s.words 1 0 in
      let h : List StoreCall = r.history in
      let f = r.words_fit in
      let long = f.wide in
      let few_slots = size.most_slots in let few_threads = size.most_threads in
      let inside : 1 < length s.words = omega arith in
      let q = held_one z s r id me.0 x at live only in
      let bound : n ≤ z.slots + 256 * z.threads = (let a = f.slots.bound in let b = numbers-few any_late z.threads h in omega arith) in
      let late_by : any_late (calls_by x.number h) ≡ true = ap any_late q.mine ∙ late in
      let past : z.slots < next_slot h = late_past h x.number f.slots late_by in
      let wrap : n + 0 ≡ (n + add) % 2 ^ 64 = omega arith in
      drew s r slots id me k add 0 x None live only at wrap amount (fits_none h k (omega arith)) (slots_late s.words h (call x.number (Alloc k) (Slot None) 0 0) k inside refl late_by past f.slots)
      (subst (λ (b : Bool). SlotIs z b k n None) (sym late) refl) bound
  draws_by false slots id me k add x early live only amount adds size s r wide at below =
      let n : ℕ = get_or s.words 1 0 in
      let h : List StoreCall = r.history in
      let f = r.words_fit in
      let long = f.wide in
      let few_slots = size.most_slots in let few_threads = size.most_threads in let small = amount.1 in
      let inside : 1 < length s.words = omega arith in
      let q = held_one z s r id me.0 x at live only in
      let few : x.number < z.threads = (let a = q.given in let b = f.numbers.few in omega arith) in
      let bound : n ≤ z.slots + 256 * z.threads = (let a = f.slots.bound in let b = numbers-few any_late z.threads h in omega arith) in
      let early_by : any_late (calls_by x.number h) ≡ false = ap any_late q.mine ∙ early in
      let wrap : n + k ≡ (n + add) % 2 ^ 64 = omega arith in
      dite (dec_le (1026 + n + k) z.slots)
      (λ room.
      let next : 1026 + n ≡ next_slot h = ⊎_elim (λ (t : 1026 + n ≡ next_slot h). t) (λ (t : (z.slots < 1026 + n) × (z.slots < next_slot h)). let l = t.0 in absurd (omega arith)) f.slots.next in
      let answer : SlotIs z false k n (Some (next_slot h)) = ((λ l. ap Some (sym next)), λ l. absurd (omega arith)) in
      drew s r slots id me k add k x (Some (next_slot h)) live only at wrap amount (fits_slot h k (omega arith))
      (slots_got s.words h (call x.number (Alloc k) (Slot (Some (next_slot h))) 0 0) k (next_slot h) inside refl refl next (omega arith) f.slots)
      (subst (λ (b : Bool). SlotIs z b k n (Some (next_slot h))) (sym early) answer) bound)
      (λ full.
      let past : z.slots < 1026 + n + k = lt_of_not-le full in
      let past' : z.slots < next_slot h + k = ⊎_elim (λ (t : 1026 + n ≡ next_slot h). omega arith) (λ (t : (z.slots < 1026 + n) × (z.slots < next_slot h)). let l = t.1 in omega arith) f.slots.next in
      let answer : SlotIs z false k n None = ((λ l. absurd (omega arith)), λ l. refl) in
      drew s r slots id me k add k x None live only at wrap amount (fits_none h k past')
      (slots_none s.words h (call x.number (Alloc k) (Slot None) 0 0) k inside refl refl few small early_by past past' f.slots)
      (subst (λ (b : Bool). SlotIs z b k n None) (sym early) answer) bound)

  -- an addition to the slot word
  pub draws : (slots id : ℕ) (me : Me ℕ View) (k add : ℕ) (x : Held) → me.0.live ≡ true → me.0.held ≡ x ∷ [] → (1 ≤ k) × (k ≤ 256) → add ≡ added (any_late x.mine) k → IsSize z
      → Allows (Kept z) slots id me 1 (λ n. (n + add) % 2 ^ 64) (Draws k (step slots 1 add 0 none) me)
  draws slots id me k add x = draws_by (any_late x.mine) slots id me k add x refl

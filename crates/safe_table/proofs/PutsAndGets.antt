-- Steps on cells and records: a get, a put, and the words of a record.
use Rattle.std.proofs.Common.{◌≡◌, ◌≢◌, ℕ, ◌+◌, ◌-◌, ◌*◌, ◌<◌, ◌≤◌, true, cond, List, [], ◌∷◌, ◌++◌, length, get_or, set, sym, refl, ap, ◌∙◌, subst, ⊎_elim, arith, append_assoc, eq-eqb, ne_eqb, length-set, get_or-set_other, get_or-set_same}
use Rattle.std.specs.Prelude.{Option, None, Some}
use mathlib.Core.Logic.{dite}
use mathlib.Core.Option.{none, some}
use native.Mathlib.Decide.{ℕ_discrete}
use lib.ListN.{get_elem?}
use lib.Seq.{set-get_or}
use Rattle.atomic_table.specs.Table.{Me, step, keeps, Allows}
use Rattle.atomic_table.proofs.Lists.{at_snoc}
use Rattle.meaning.specs.declared.value.Entry.{Entry}
use Rattle.meaning.specs.declared.action.Action.{Action}
use Rattle.meaning.specs.declared.action.Action.TheVariants.{Get, Put}
use Rattle.meaning.specs.declared.action.Reply.TheVariants.{Nothing, Found}
use Rattle.meaning.specs.Legal.{or_else, put_at, asked, ends, is_new_thread}
use Rattle.safe_table.specs.declared.history.StoreCall.{StoreCall}
use Rattle.safe_table.specs.declared.history.StoreSize.{StoreSize}
use Rattle.safe_table.specs.declared.view.Draft.TheVariants.{Low, Both}
use Rattle.safe_table.specs.declared.view.Held.{Held}
use Rattle.safe_table.specs.declared.view.View.{View}
use Rattle.safe_table.specs.Entries.{IsEntry, low_word, high_word}
use Rattle.safe_table.specs.History.{call, last_entry, number_after, last_number, is_put, IsNumbered, calls_by, puts}
use Rattle.safe_table.specs.Rule.{cell_at, low_at, high_at, Known, entry_of, is_late, is_crowded, next_record, Drafted, WordsFit}
use Rattle.safe_table.specs.Seat.{HasRecord}
use Rattle.safe_table.specs.inner.Views.{with_draft, called_view}
use Rattle.safe_table.specs.inner.Plays.{Calls, Gets, Reads, WritesLow, WritesHigh, Puts}
use Rattle.safe_table.proofs.ListLemmas.{at_prefix, one_place, place_within, same_one}
use Rattle.safe_table.proofs.HistoryLemmas.{last_entry-snoc, number_behind-snoc, has_number-none, calls_by-mine, calls_by-other, puts-snoc}
use Rattle.safe_table.proofs.WordsFit.{SameAbove, known_grows, known_on, has_record, slots_words, threads_words, slots_grow, threads_grow, ends_grow, words_called}
use Rattle.safe_table.proofs.ViewsFit.{Kept, held_one, called, unmoved, drafts}

module _ (z : StoreSize) where
  -- a load of a cell
  pub gets : (slots id : ℕ) (me : Me ℕ View) (a : ℕ) (x : Held) → a < 64 * z.slots → me.0.live ≡ true → me.0.held ≡ x ∷ []
      → Allows (Kept z) slots id me (3 + a) (λ n. n) (Gets a (step slots (3 + a) 0 0 none) me)
  gets slots id me a x inside live only s r wide at small =
      let v : View = me.0 in
      let n : ℕ = get_or s.words (3 + a) 0 in
      let h : List StoreCall = r.history in
      let e : Option Entry = last_entry a h in
      let c : StoreCall = call x.number (Get a) (Found e) n 0 in
      let fits = r.views_fit id v at live in
      let f = r.words_fit in
      let q = held_one z s r id v x at live only in
      let cell : n ≡ last_number a h = f.cells a inside in
      let known : Known z s.words h n e = subst (λ (k : ℕ). Known z s.words h k e) (sym cell) (f.records.last a) in
      let w : View = called_view v x h c in
      let written : WordsFit z s.words (h ++ c ∷ []) = words_called z s.words s.words h c (record { number = λ b k. refl; entry = λ b. refl; weight = refl }) refl refl (λ i _. refl) (λ b _. refl) q.given known f
      (slots_grow z s.words h c refl refl f.slots) (threads_grow z s.words h c refl refl f.threads) (ends_grow z s.words h c (λ i. refl) f.ends) in
      let done = called z s r id v x c s.words at live only refl refl (cell, refl) refl (λ i _. refl) written in
      let has : HasRecord v.size n e = subst (λ (k : StoreSize). HasRecord k n e) (sym fits.size_is) (has_record z s.words h n e f.records.within known) in (
        w,
        keeps,
        tt,
        subst (λ (ws : List ℕ). Kept z record { words = ws; homes = s.homes; views = set s.views id w }) (sym (set-get_or s.words (3 + a) 0)) done.0,
        (
          refl,
          λ y is. subst (λ (k : Held). (o : Option Entry) × Calls v w k (call k.number (Get a) (Found o) n 0) × HasRecord v.size n o) (same_one x y v.held only is) (e, done.1, has),
        ),
      )

  -- a load of a word of the record that the last call names
  pub reads : (slots id : ℕ) (me : Me ℕ View) (i : ℕ) → me.0.live ≡ true → Allows (Kept z) slots id me i (λ n. n) (Reads (step slots i 0 0 none) me)
  reads slots id me i live s r wide at small =
      let v : View = me.0 in
      let fits = r.views_fit id v at live in (
        v,
        keeps,
        tt,
        unmoved z s id i v at r,
        (
          refl,
          λ before c e is entry.
              let p = fits.seen in
              let there : before ++ c ∷ p.0 ≡ r.history = sym (append_assoc before (c ∷ []) p.0) ∙ (ap (λ (l : List StoreCall). l ++ p.0) (sym is) ∙ p.1) in
              let known : Known z s.words r.history c.put (Some e) = subst (Known z s.words r.history c.put) entry (r.words_fit.records.known (length before) c (at_prefix before c p.0 r.history there)) in
              let number = known.1 in
              let record_is : c.put - 1 ≡ known.0 = omega arith in (
                (λ low. ap (λ (k : ℕ). get_or s.words k 0) (low ∙ (λ k. low_at (fits.size_is k) (record_is k))) ∙ known.3),
                (λ high. ap (λ (k : ℕ). get_or s.words k 0) (high ∙ (λ k. high_at (fits.size_is k) (record_is k))) ∙ known.4),
              ),
        ),
      )

  -- the next record's number is that of no put yet
  fresh : (words : List ℕ) (h : List StoreCall) (by : ℕ) (d : StoreCall) (e : Option Entry) → ((n : ℕ) → puts (calls_by n h) ≤ z.quota) → puts (calls_by by h) < z.quota → Known z words h d.put e
      → d.put ≢ (z.quota * by + puts (calls_by by h)) + 1
  fresh words h by d None within room known clash = absurd (let is : d.put ≡ 0 = known in omega arith)
  fresh words h by d (Some e) within room known clash =
      let made = known.2 in let most = within made.0 in let less = made.4 in let place = made.3 in let number = known.1 in
      let there : z.quota * made.0 + made.1 ≡ z.quota * by + puts (calls_by by h) = omega arith in
      let one = one_place z.quota made.0 made.1 by (puts (calls_by by h)) (omega arith) room there in
      let more : made.1 < puts (calls_by by h) = subst (λ (n : ℕ). made.1 < puts (calls_by n h)) one.0 less in let same = one.1 in absurd (omega arith)

  -- the words behind a put, in whose cell now stands its number
  written_put : (words : List ℕ) (h : List StoreCall) (c : StoreCall) (a r : ℕ) (e : Entry) → a < 64 * z.slots → c.action ≡ Put a e → c.reply ≡ Nothing → c.by < get_or words 0 0 → c.put ≡ r + 1
      → r ≡ z.quota * c.by + puts (calls_by c.by h) → puts (calls_by c.by h) < z.quota → get_or words (low_at z r) 0 ≡ low_word e → get_or words (high_at z r) 0 ≡ high_word e → IsEntry z e
      → WordsFit z words h → WordsFit z (set words (3 + a) (r + 1)) (h ++ c ∷ [])
  written_put words h c a r e inside is answer by number place room lo hi good f =
      let words' : List ℕ = set words (3 + a) (r + 1) in
      let h' : List StoreCall = h ++ c ∷ [] in
      let wide = f.wide in
      let few = f.numbers.few in
      let same : SameAbove z words words' = (λ i above. get_or-set_other words (3 + a) i (r + 1) 0 (λ e. omega arith)) in
      let first : get_or words' 0 0 ≡ get_or words 0 0 = get_or-set_other words (3 + a) 0 (r + 1) 0 (λ e. omega arith) in
      let old = λ (n : ℕ) (o : Option Entry) (k : Known z words h n o). known_on z words words' h' n o same (known_grows z words h c n o k) in
      let grown : puts (calls_by c.by h') ≡ puts (calls_by c.by h) + 1 = ap puts (calls_by-mine c.by h c refl) ∙ (puts-snoc (calls_by c.by h) c ∙ ap (λ (k : Action). puts (calls_by c.by h) + cond (is_put k) 1 0) is) in
      let new : Known z words' h' (r + 1) (Some e) =
      (r, refl, (c.by, puts (calls_by c.by h), omega arith, place, omega arith), same (low_at z r) (omega arith) ∙ lo, same (high_at z r) (omega arith) ∙ hi, good) in
      let new_c : Known z words' h' c.put (entry_of c.action c.reply) = subst (λ (k : ℕ × Action). Known z words' h' k.0 (entry_of k.1 c.reply)) (λ i. (sym number i, sym is i)) new in
      let after = λ (b : ℕ). number_behind-snoc b 0 h c ∙ ap (number_after b (last_number b h) c.put) is in
      let after_entry = λ (b : ℕ). last_entry-snoc b h c ∙ ap (λ (k : Action). or_else (put_at b k) (last_entry b h)) is in
      record {
        wide = length-set words (3 + a) (r + 1) ∙ wide;
        numbers = record {
          few = subst (λ (n : ℕ). n ≤ z.threads) (sym first) few;
          named = λ k d at. subst (λ (n : ℕ). d.by < n) (sym first) (⊎_elim (λ (t : get_elem? h k ≡ some d). f.numbers.named k d t) (λ (t : c ≡ d). subst (λ (k : StoreCall). k.by < get_or words 0 0) t by) (at_snoc h c d k at));
        };
        cells = λ b inb. dite (ℕ_discrete a b)
            (λ same_a. ap (λ (n : ℕ). get_or words' (3 + n) 0) (sym same_a) ∙ (get_or-set_same words (3 + a) (r + 1) 0 (omega arith) ∙ (sym number ∙ sym (after b ∙ ap (λ t. cond t c.put (last_number b h)) (eq-eqb a b same_a)))))
            (λ ne. get_or-set_other words (3 + a) (3 + b) (r + 1) 0 (λ e. ne (omega arith)) ∙ (f.cells b inb ∙ sym (after b ∙ ap (λ t. cond t c.put (last_number b h)) (ne_eqb a b ne))));
        records = record {
          known = λ k d at. ⊎_elim (λ (t : get_elem? h k ≡ some d). old d.put (entry_of d.action d.reply) (f.records.known k d t))
              (λ (t : c ≡ d). subst (λ (k : StoreCall). Known z words' h' k.put (entry_of k.action k.reply)) t new_c) (at_snoc h c d k at);
          last = λ b. dite (ℕ_discrete a b)
              (λ same_a. subst (λ (k : ℕ × Option Entry). Known z words' h' k.0 k.1)
              (λ i. (sym (after b ∙ (ap (λ t. cond t c.put (last_number b h)) (eq-eqb a b same_a) ∙ number)) i, sym (after_entry b ∙ ap (λ t. or_else (cond t (Some e) None) (last_entry b h)) (eq-eqb a b same_a)) i)) new)
              (λ ne. subst (λ (k : ℕ × Option Entry). Known z words' h' k.0 k.1)
              (λ i. (sym (after b ∙ ap (λ t. cond t c.put (last_number b h)) (ne_eqb a b ne)) i, sym (after_entry b ∙ ap (λ t. or_else (cond t (Some e) None) (last_entry b h)) (ne_eqb a b ne)) i))
              (old (last_number b h) (last_entry b h) (f.records.last b)));
          within = λ m. dite (ℕ_discrete m c.by)
              (λ e. subst (λ (n : ℕ). puts (calls_by n h') ≤ z.quota) (sym e) (omega arith))
              (λ ne. subst (λ (l : List StoreCall). puts l ≤ z.quota) (sym (calls_by-other m h c (λ e. ne (sym e)))) (f.records.within m));
        };
        slots = slots_words z words words' h' (get_or-set_other words (3 + a) 1 (r + 1) 0 (λ e. omega arith)) (slots_grow z words h c (ap asked is) (ap (λ (k : Action). is_late k c.reply) is) f.slots);
        threads = threads_words z words words' h' (get_or-set_other words (3 + a) 2 (r + 1) 0 (λ e. omega arith))
            (threads_grow z words h c ((λ i. is_new_thread (is i, answer i))) (ap (λ (k : Action). is_crowded k c.reply) is) f.threads);
        ends = λ i ini. get_or-set_other words (3 + a) (3 + 64 * z.slots + i) (r + 1) 0 (λ e. omega arith) ∙ ends_grow z words h c (λ k. ap (ends k) is) f.ends i ini;
      }

  -- a swap of a cell
  pub swaps : (slots id : ℕ) (me : Me ℕ View) (a new : ℕ) (e : Entry) (x : Held) → a < 64 * z.slots → IsEntry z e → me.0.live ≡ true → me.0.held ≡ x ∷ [] → x.draft ≡ Both (low_word e) (high_word e)
      → new ≡ next_record z x + 1 → Allows (Kept z) slots id me (3 + a) (λ _. new) (Puts a e (step slots (3 + a) new 0 none) me)
  swaps slots id me a new e x inside good live only full number s r wide at small =
      let v : View = me.0 in
      let n : ℕ = get_or s.words (3 + a) 0 in
      let h : List StoreCall = r.history in
      let c : StoreCall = call x.number (Put a e) Nothing new n in
      let f = r.words_fit in
      let q = held_one z s r id v x at live only in
      let drafted : Drafted z s.words x (Both (low_word e) (high_word e)) = subst (Drafted z s.words x) full q.drafted in
      let mine : puts (calls_by x.number h) ≡ puts x.mine = ap puts q.mine in
      let room : puts (calls_by x.number h) < z.quota = (let k = drafted.0 in omega arith) in
      let place : next_record z x ≡ z.quota * x.number + puts (calls_by x.number h) = ap (λ (k : ℕ). z.quota * x.number + k) (sym mine) in
      let numbered : IsNumbered h c (Put a e) = (
        f.cells a inside,
        (λ is. omega arith),
        has_number-none new h (λ k d is weight clash. fresh s.words h x.number d (entry_of d.action d.reply) f.records.within room (f.records.known k d is) (clash ∙ (number ∙ ap (λ (k : ℕ). k + 1) place))),
      ) in
      let written : WordsFit z (set s.words (3 + a) new) (h ++ c ∷ []) = subst (λ (k : ℕ). WordsFit z (set s.words (3 + a) k) (h ++ c ∷ [])) (sym number)
      (written_put s.words h c a (next_record z x) e inside refl refl q.given number place room drafted.1 drafted.2 good f) in
      let w : View = called_view v x h c in
      let done = called z s r id v x c (set s.words (3 + a) new) at live only refl tt numbered (get_or-set_other s.words (3 + a) 0 new 0 (λ e. omega arith)) (λ i above. get_or-set_other s.words (3 + a) i new 0 (λ e. omega arith)) written in (
        w,
        keeps,
        tt,
        done.0,
        (refl, λ y is. subst (λ (k : Held). Calls v w k (call k.number (Put a e) Nothing new n)) (same_one x y v.held only is) done.1),
      )

  -- a store of the low word of the seat's next record
  pub writes_low : (slots id : ℕ) (me : Me ℕ View) (i new : ℕ) (x : Held) → me.0.live ≡ true → me.0.held ≡ x ∷ [] → puts x.mine < me.0.size.quota → i ≡ low_at z (next_record z x)
      → Allows (Kept z) slots id me i (λ _. new) (λ _. WritesLow (step slots i new 0 none) me new)
  writes_low slots id me i new x live only room' at_low s r wide at small =
      let long = r.words_fit.wide in
      let room : puts x.mine < z.quota = subst (λ (k : StoreSize). puts x.mine < k.quota) (r.views_fit id me.0 at live).size_is room' in
      let q = held_one z s r id me.0 x at live only in
      let few : x.number < z.threads = (let l = q.given in let m = r.words_fit.numbers.few in omega arith) in
      let inside : next_record z x < z.quota * z.threads = place_within z.quota z.threads x.number (puts x.mine) few room in (
        with_draft me.0 x (Low new),
        keeps,
        tt,
        drafts z s r id me.0 x i new (Low new) at live only room (omega arith) (λ k ne. ((λ e. ne (omega arith)), (λ e. absurd (omega arith))))
            (room, ap (λ (k : ℕ). get_or (set s.words i new) k 0) (sym at_low) ∙ get_or-set_same s.words i new 0 (omega arith)),
        (refl, λ y is. ap (λ (k : Held). with_draft me.0 k (Low new)) (same_one x y me.0.held only is)),
      )

  -- a store of its high word
  pub writes_high : (slots id : ℕ) (me : Me ℕ View) (i new low : ℕ) (x : Held) → me.0.live ≡ true → me.0.held ≡ x ∷ [] → x.draft ≡ Low low → i ≡ high_at z (next_record z x)
      → Allows (Kept z) slots id me i (λ _. new) (λ _. WritesHigh (step slots i new 0 none) me new)
  writes_high slots id me i new low x live only half at_high s r wide at small =
      let q = held_one z s r id me.0 x at live only in
      let drafted : Drafted z s.words x (Low low) = subst (Drafted z s.words x) half q.drafted in
      let long = r.words_fit.wide in
      let room = drafted.0 in
      let few : x.number < z.threads = (let l = q.given in let m = r.words_fit.numbers.few in omega arith) in
      let inside : next_record z x < z.quota * z.threads = place_within z.quota z.threads x.number (puts x.mine) few room in (
        with_draft me.0 x (Both low new),
        keeps,
        tt,
        drafts z s r id me.0 x i new (Both low new) at live only room (omega arith) (λ k ne. ((λ e. absurd (omega arith)), (λ e. ne (omega arith)))) (
          room,
          get_or-set_other s.words i (low_at z (next_record z x)) new 0 (λ e. omega arith) ∙ drafted.1,
          ap (λ (k : ℕ). get_or (set s.words i new) k 0) (sym at_high) ∙ get_or-set_same s.words i new 0 (omega arith),
        ),
        (
          refl,
          λ y low' is half'.
              let one = same_one x y me.0.held only is in
              let both : Low low ≡ Low low' = sym half ∙ (ap (λ (k : Held). k.draft) one ∙ half') in
              let lows : low ≡ low' = cc in
              (λ k. with_draft me.0 (one k) (Both (lows k) new)),
        ),
      )

  -- the same at a place that is the cell's
  pub gets_at : (slots id : ℕ) (me : Me ℕ View) (a i : ℕ) (x : Held) → i ≡ cell_at a → a < 64 * z.slots → me.0.live ≡ true → me.0.held ≡ x ∷ []
      → Allows (Kept z) slots id me i (λ n. n) (Gets a (step slots i 0 0 none) me)
  gets_at slots id me a i x is inside live only = subst (λ (i : ℕ). Allows (Kept z) slots id me i (λ n. n) (Gets a (step slots i 0 0 none) me)) (sym is) (gets slots id me a x inside live only)

  pub swaps_at : (slots id : ℕ) (me : Me ℕ View) (a i new : ℕ) (e : Entry) (x : Held) → i ≡ cell_at a → a < 64 * z.slots → IsEntry z e → me.0.live ≡ true → me.0.held ≡ x ∷ [] → x.draft ≡ Both (low_word e) (high_word e)
      → new ≡ next_record z x + 1 → Allows (Kept z) slots id me i (λ _. new) (Puts a e (step slots i new 0 none) me)
  swaps_at slots id me a i new e x is inside good live only full number =
      subst (λ (i : ℕ). Allows (Kept z) slots id me i (λ _. new) (Puts a e (step slots i new 0 none) me)) (sym is) (swaps slots id me a new e x inside good live only full number)

-- Thread numbers are drawn from one word.
use Rattle.std.proofs.Common.{◌≡◌, ◌≢◌, ℕ, ◌+◌, ◌*◌, ◌%◌, ◌^◌, ◌<◌, ◌≤◌, Bool, true, false, ◌||◌, cond, List, [], ◌∷◌, ◌++◌, length, get_or, set, min, sym, refl, ap, ◌∙◌, subst, ⊎_elim, arith, eq-eqb, ne_eqb, length-set, get_or-set_other, get_or-set_same, lt_of_not-le}
use Rattle.std.proofs.Math.Nat.{min-eq_left, min-eq_right}
use Rattle.std.specs.Prelude.{Option, None, Some}
use mathlib.Core.Logic.{dite}
use mathlib.Core.Option.{none, some}
use native.Mathlib.Decide.{ℕ_discrete, dec_le}
use lib.ListN.{get_elem?}
use Rattle.atomic_table.specs.Table.{State, Me, Act, Valid, step, keeps, stepped, carried_after, Allows}
use Rattle.atomic_table.proofs.Lists.{at_snoc}
use Rattle.meaning.specs.declared.action.Action.TheVariants.{Fork}
use Rattle.meaning.specs.declared.action.Reply.TheVariants.{Thread}
use Rattle.meaning.specs.Legal.{is_new_thread, threads_made, thread_for}
use Rattle.safe_table.specs.declared.history.StoreCall.{StoreCall}
use Rattle.safe_table.specs.declared.history.StoreSize.{StoreSize}
use Rattle.safe_table.specs.declared.view.Held.{Held}
use Rattle.safe_table.specs.declared.view.View.{View}
use Rattle.safe_table.specs.History.{call, calls, calls_by}
use Rattle.safe_table.specs.Rule.{IsSize, is_crowded, any_crowded, numbers_with, ThreadsFit, WordsFit}
use Rattle.safe_table.specs.inner.Views.{called_view}
use Rattle.safe_table.specs.inner.Plays.{Calls, ThreadIs, Forks}
use Rattle.safe_table.proofs.ListLemmas.{same_one}
use Rattle.safe_table.proofs.HistoryLemmas.{threads_made-snoc, calls_by-mine, calls_by-other}
use Rattle.safe_table.proofs.NumbersWith.{crowded-snoc, crowded_one, numbers-same, numbers-more, numbers-few}
use Rattle.safe_table.proofs.WordsFit.{slots_words, slots_grow, ends_grow, words_called}
use Rattle.safe_table.proofs.ViewsFit.{Kept, held_one, called}

-- how much a seat adds that was told before that there is no number, or wasn't
abbrev pub more : Bool → ℕ
more crowded = cond crowded 0 1

module _ (z : StoreSize) where
  -- the thread word's part after a call that got a number
  threads_got : (words : List ℕ) (h : List StoreCall) (c : StoreCall) (t : ℕ) → 2 < length words → c.action ≡ Fork → c.reply ≡ Thread (Some t) → 1 + get_or words 2 0 < z.threads → 1 + threads_made (calls h) ≡ 1 + get_or words 2 0
      → ThreadsFit z words h → ThreadsFit z (set words 2 (get_or words 2 0 + 1)) (h ++ c ∷ [])
  threads_got words h c t inside is answer room count f =
      let n : ℕ = get_or words 2 0 + 1 in
      let now : get_or (set words 2 n) 2 0 ≡ n = get_or-set_same words 2 n 0 inside in
      let grown : threads_made (calls (h ++ c ∷ [])) ≡ threads_made (calls h) + 1 = threads_made-snoc h c ∙ ap (λ (k : ℕ). threads_made (calls h) + k) (λ i. is_new_thread (is i, answer i)) in
      let least : min (1 + n) z.threads ≡ 1 + n = min-eq_left (omega arith) in
      record {
        count = (let up : 1 + threads_made (calls (h ++ c ∷ [])) ≡ 1 + n = omega arith in up) ∙ (sym least ∙ ap (λ (k : ℕ). min (1 + k) z.threads) (sym now));
        bound = subst (λ (k : ℕ). k ≤ z.threads + numbers_with any_crowded z.threads (h ++ c ∷ [])) (sym now) (omega arith);
        crowded = λ i d at full. ⊎_elim (λ (e : get_elem? h i ≡ some d). let l = f.crowded i d e full in absurd (omega arith))
            (λ (e : c ≡ d). let free : false ≡ true = sym (λ j. is_crowded (is j) (answer j)) ∙ (ap (λ (k : StoreCall). is_crowded k.action k.reply) e ∙ full) in absurd (cc)) (at_snoc h c d i at);
      }

  -- after a call that got none, whose caller got none for the first time
  threads_none : (words : List ℕ) (h : List StoreCall) (c : StoreCall) → 2 < length words → c.action ≡ Fork → c.reply ≡ Thread None → c.by < z.threads → any_crowded (calls_by c.by h) ≡ false
      → z.threads ≤ 1 + get_or words 2 0 → 1 + threads_made (calls h) ≡ z.threads → ThreadsFit z words h → ThreadsFit z (set words 2 (get_or words 2 0 + 1)) (h ++ c ∷ [])
  threads_none words h c inside is answer few free past count f =
      let n : ℕ = get_or words 2 0 + 1 in
      let b = f.bound in
      let now : get_or (set words 2 n) 2 0 ≡ n = get_or-set_same words 2 n 0 inside in
      let same : threads_made (calls (h ++ c ∷ [])) ≡ threads_made (calls h) + 0 = threads_made-snoc h c ∙ ap (λ (k : ℕ). threads_made (calls h) + k) (λ i. is_new_thread (is i, answer i)) in
      let full_now : any_crowded (calls_by c.by (h ++ c ∷ [])) ≡ true = ap any_crowded (calls_by-mine c.by h c refl) ∙ (crowded-snoc (calls_by c.by h) c ∙ (λ i. free i || is_crowded (is i) (answer i))) in
      let one : numbers_with any_crowded z.threads (h ++ c ∷ []) ≡ numbers_with any_crowded z.threads h + 1 =
      numbers-more any_crowded z.threads c.by h (h ++ c ∷ []) few (λ m ne. ap any_crowded (calls_by-other m h c (λ e. ne (sym e)))) free full_now in
      let least : min (1 + n) z.threads ≡ z.threads = min-eq_right (omega arith) in
      let still : 1 + threads_made (calls (h ++ c ∷ [])) ≡ z.threads = omega arith in
      record {
        count = still ∙ (sym least ∙ ap (λ (k : ℕ). min (1 + k) z.threads) (sym now));
        bound = subst (λ (k : ℕ). k ≤ z.threads + numbers_with any_crowded z.threads (h ++ c ∷ [])) (sym now) (omega arith);
        crowded = λ i d at full. still;
      }

  -- after a call whose caller had got none before
  threads_crowded : (words : List ℕ) (h : List StoreCall) (c : StoreCall) → 2 < length words → c.action ≡ Fork → c.reply ≡ Thread None → any_crowded (calls_by c.by h) ≡ true → 1 + threads_made (calls h) ≡ z.threads
      → ThreadsFit z words h → ThreadsFit z (set words 2 (get_or words 2 0 + 0)) (h ++ c ∷ [])
  threads_crowded words h c inside is answer full count f =
      let n : ℕ = get_or words 2 0 + 0 in
      let b = f.bound in
      let now : get_or (set words 2 n) 2 0 ≡ get_or words 2 0 = get_or-set_same words 2 n 0 inside ∙ (let e : n ≡ get_or words 2 0 = omega arith in e) in
      let same : threads_made (calls (h ++ c ∷ [])) ≡ threads_made (calls h) + 0 = threads_made-snoc h c ∙ ap (λ (k : ℕ). threads_made (calls h) + k) (λ i. is_new_thread (is i, answer i)) in
      let numbers : numbers_with any_crowded z.threads (h ++ c ∷ []) ≡ numbers_with any_crowded z.threads h = numbers-same any_crowded z.threads h (h ++ c ∷ []) (λ m l. dite (ℕ_discrete c.by m)
      (λ e. ap any_crowded (calls_by-mine m h c e) ∙ (crowded-snoc (calls_by m h) c ∙ (subst (λ (k : ℕ). (any_crowded (calls_by k h) || is_crowded c.action c.reply) ≡ any_crowded (calls_by k h)) e ((λ i. full i || is_crowded c.action c.reply) ∙ sym full))))
      (λ ne. ap any_crowded (calls_by-other m h c ne))) in
      let still : 1 + threads_made (calls (h ++ c ∷ [])) ≡ z.threads = omega arith in
      record {
        count = (let e : 1 + threads_made (calls (h ++ c ∷ [])) ≡ 1 + threads_made (calls h) = omega arith in e) ∙ (f.count ∙ ap (λ (k : ℕ). min (1 + k) z.threads) (sym now));
        bound = subst (λ (k : ℕ). k ≤ z.threads + numbers_with any_crowded z.threads (h ++ c ∷ [])) (sym now) (omega arith);
        crowded = λ i d at l. still;
      }

  -- a fork, once its answer, what it added and the thread word's part are known
  forked : (s : State ℕ View) (r : Kept z s) (slots id : ℕ) (me : Me ℕ View) (add a : ℕ) (x : Held) (t : Option ℕ) → me.0.live ≡ true → me.0.held ≡ x ∷ [] → get_elem? s.views id ≡ some me.0
      → get_or s.words 2 0 + a ≡ (get_or s.words 2 0 + add) % 2 ^ 64 → thread_for z.threads (calls r.history) ≡ t
      → ThreadsFit z (set s.words 2 (get_or s.words 2 0 + a)) (r.history ++ call x.number Fork (Thread t) 0 0 ∷ []) → ThreadIs z (any_crowded x.mine) (get_or s.words 2 0) t → get_or s.words 2 0 ≤ 2 * z.threads
      → (w : View) × (b : Act ℕ) × Valid s.homes me.1 b × Kept z (stepped s 2 ((get_or s.words 2 0 + add) % 2 ^ 64) id me.1 w b) × Forks (step slots 2 add 0 none) me (get_or s.words 2 0) (w, carried_after me.1 b)
  forked s r slots id me add a x t live only at wrap fixed part answer bound =
      let v : View = me.0 in
      let n : ℕ = get_or s.words 2 0 in
      let h : List StoreCall = r.history in
      let c : StoreCall = call x.number Fork (Thread t) 0 0 in
      let fits = r.views_fit id v at live in
      let f = r.words_fit in
      let q = held_one z s r id v x at live only in
      let words : List ℕ = set s.words 2 (n + a) in
      let other = λ (i : ℕ) (l : i ≢ 2). get_or-set_other s.words 2 i (n + a) 0 l in
      let written : WordsFit z words (h ++ c ∷ []) = words_called z s.words words h c (record { number = λ b m. refl; entry = λ b. refl; weight = refl }) (length-set s.words 2 (n + a)) (other 0 (λ e. omega arith))
      (λ i above. other i (λ e. omega arith)) (λ b inside. other (3 + b) (λ e. omega arith)) q.given refl f
      (slots_words z s.words words (h ++ c ∷ []) (other 1 (λ e. omega arith)) (slots_grow z s.words h c refl refl f.slots)) part
      (λ i inside. other (3 + 64 * z.slots + i) (λ e. omega arith) ∙ ends_grow z s.words h c (λ j. refl) f.ends i inside) in
      let done = called z s r id v x c words at live only refl (sym (ap Thread fixed)) (refl, refl) (other 0 (λ e. omega arith)) (λ i above. other i (λ e. omega arith)) written in
      let w : View = called_view v x h c in (
        w,
        keeps,
        tt,
        subst (λ (m : ℕ). Kept z record { words = set s.words 2 m; homes = s.homes; views = set s.views id w }) wrap done.0,
        (
          refl,
          λ y is. subst (λ (k : Held). (t : Option ℕ) × Calls v w k (call k.number Fork (Thread t) 0 0) × ThreadIs v.size (any_crowded k.mine) n t × (n ≤ 2 * v.size.threads)) (same_one x y v.held only is)
              (t, done.1, subst (λ (k : StoreSize). ThreadIs k (any_crowded x.mine) n t) (sym fits.size_is) answer, subst (λ (k : StoreSize). n ≤ 2 * k.threads) (sym fits.size_is) bound),
        ),
      )

  forks_by : (b : Bool) (slots id : ℕ) (me : Me ℕ View) (add : ℕ) (x : Held) → any_crowded x.mine ≡ b → me.0.live ≡ true → me.0.held ≡ x ∷ [] → add ≡ more b → IsSize z
      → Allows (Kept z) slots id me 2 (λ n. (n + add) % 2 ^ 64) (Forks (step slots 2 add 0 none) me)
  forks_by true slots id me add x full live only adds size s r wide at below =
      let n : ℕ = get_or s.words 2 0 in
      let h : List StoreCall = r.history in
      let f = r.words_fit in
      let long = f.wide in
      let few_threads = size.most_threads in
      let inside : 2 < length s.words = omega arith in
      let q = held_one z s r id me.0 x at live only in
      let bound : n ≤ 2 * z.threads = (let a = f.threads.bound in let b = numbers-few any_crowded z.threads h in omega arith) in
      let full_by : any_crowded (calls_by x.number h) ≡ true = ap any_crowded q.mine ∙ full in
      let count : 1 + threads_made (calls h) ≡ z.threads = (let one = crowded_one h x.number full_by in f.threads.crowded one.0 one.1 one.2 one.3) in
      let wrap : n + 0 ≡ (n + add) % 2 ^ 64 = omega arith in
      forked s r slots id me add 0 x None live only at wrap (ap (λ b. cond b None (Some (1 + threads_made (calls h)))) (eq-eqb (1 + threads_made (calls h)) z.threads count))
      (threads_crowded s.words h (call x.number Fork (Thread None) 0 0) inside refl refl full_by count f.threads) (subst (λ (b : Bool). ThreadIs z b n None) (sym full) refl) bound
  forks_by false slots id me add x free live only adds size s r wide at below =
      let n : ℕ = get_or s.words 2 0 in
      let h : List StoreCall = r.history in
      let f = r.words_fit in
      let long = f.wide in
      let few_threads = size.most_threads in
      let inside : 2 < length s.words = omega arith in
      let q = held_one z s r id me.0 x at live only in
      let few : x.number < z.threads = (let a = q.given in let b = f.numbers.few in omega arith) in
      let bound : n ≤ 2 * z.threads = (let a = f.threads.bound in let b = numbers-few any_crowded z.threads h in omega arith) in
      let free_by : any_crowded (calls_by x.number h) ≡ false = ap any_crowded q.mine ∙ free in
      let wrap : n + 1 ≡ (n + add) % 2 ^ 64 = omega arith in
      dite (dec_le z.threads (1 + n))
      (λ past.
      let count : 1 + threads_made (calls h) ≡ z.threads = f.threads.count ∙ min-eq_right past in
      let answer : ThreadIs z false n None = ((λ l. absurd (omega arith)), λ l. refl) in
      forked s r slots id me add 1 x None live only at wrap (ap (λ b. cond b None (Some (1 + threads_made (calls h)))) (eq-eqb (1 + threads_made (calls h)) z.threads count))
      (threads_none s.words h (call x.number Fork (Thread None) 0 0) inside refl refl few free_by past count f.threads) (subst (λ (b : Bool). ThreadIs z b n None) (sym free) answer) bound)
      (λ not_past.
      let room : 1 + n < z.threads = lt_of_not-le not_past in
      let count : 1 + threads_made (calls h) ≡ 1 + n = f.threads.count ∙ min-eq_left (omega arith) in
      let answer : ThreadIs z false n (Some (1 + n)) = ((λ l. refl), λ l. absurd (omega arith)) in
      forked s r slots id me add 1 x (Some (1 + n)) live only at wrap
      (ap (λ b. cond b None (Some (1 + threads_made (calls h)))) (ne_eqb (1 + threads_made (calls h)) z.threads (λ e. omega arith)) ∙ ap Some count)
      (threads_got s.words h (call x.number Fork (Thread (Some (1 + n))) 0 0) (1 + n) inside refl refl room count f.threads) (subst (λ (b : Bool). ThreadIs z b n (Some (1 + n))) (sym free) answer) bound)

  -- an addition to the thread word
  pub forks : (slots id : ℕ) (me : Me ℕ View) (add : ℕ) (x : Held) → me.0.live ≡ true → me.0.held ≡ x ∷ [] → add ≡ more (any_crowded x.mine) → IsSize z
      → Allows (Kept z) slots id me 2 (λ n. (n + add) % 2 ^ 64) (Forks (step slots 2 add 0 none) me)
  forks slots id me add x = forks_by (any_crowded x.mine) slots id me add x refl

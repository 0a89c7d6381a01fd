-- An id ends once: an exchange and a load of its end word.
use Rattle.std.proofs.Common.{◌≡◌, ◌≢◌, ℕ, ◌+◌, ◌*◌, ◌<◌, ◌==◌, Bool, true, false, ◌||◌, not, cond, List, [], ◌∷◌, ◌++◌, length, get_or, set, sym, refl, ap, ◌∙◌, subst, arith, eq-eqb, ne_eqb, length-set, get_or-set_other, get_or-set_same}
use mathlib.Core.Logic.{dite}
use mathlib.Core.Option.{none}
use native.Mathlib.Decide.{ℕ_discrete}
use lib.Seq.{set-get_or}
use prog.Atomic.{either}
use Rattle.atomic_table.specs.Table.{Me, step, keeps, Allows}
use Rattle.meaning.specs.declared.action.Action.TheVariants.{Free, Look}
use Rattle.meaning.specs.declared.action.Reply.TheVariants.{Flag}
use Rattle.meaning.specs.Legal.{ends, is_ended}
use Rattle.safe_table.specs.declared.history.StoreCall.{StoreCall}
use Rattle.safe_table.specs.declared.history.StoreSize.{StoreSize}
use Rattle.safe_table.specs.declared.view.Held.{Held}
use Rattle.safe_table.specs.declared.view.View.{View}
use Rattle.safe_table.specs.History.{call, calls}
use Rattle.safe_table.specs.Rule.{end_at, EndsFit, WordsFit}
use Rattle.safe_table.specs.inner.Views.{called_view}
use Rattle.safe_table.specs.inner.Plays.{Calls, Ends, Looks}
use Rattle.safe_table.proofs.ListLemmas.{same_one}
use Rattle.safe_table.proofs.HistoryLemmas.{is_ended-snoc}
use Rattle.safe_table.proofs.WordsFit.{slots_words, threads_words, slots_grow, threads_grow, ends_grow, words_called}
use Rattle.safe_table.proofs.ViewsFit.{Kept, held_one, called}

-- the flag that an end word tells
told : (b : Bool) → (cond b 1 0 == 0) ≡ not b
told true = refl
told false = refl

exchanged_word : (b : Bool) → either (cond b 1 0 == 0) 1 (cond b 1 0) ≡ 1
exchanged_word true = refl
exchanged_word false = refl

or_true : (b : Bool) → (b || true) ≡ true
or_true true = refl
or_true false = refl

or_same : (b : Bool) → (b || false) ≡ b
or_same true = refl
or_same false = refl

module _ (z : StoreSize) where
  -- the ends' part behind a free
  ends_freed : (words : List ℕ) (h : List StoreCall) (c : StoreCall) (i : ℕ) → end_at z i < length words → c.action ≡ Free i → EndsFit z words h → EndsFit z (set words (3 + 64 * z.slots + i) 1) (h ++ c ∷ [])
  ends_freed words h c i within is f k inside = dite (ℕ_discrete i k)
      (λ same. ap (λ (n : ℕ). get_or (set words (3 + 64 * z.slots + i) 1) (3 + 64 * z.slots + n) 0) (sym same) ∙ (get_or-set_same words (3 + 64 * z.slots + i) 1 0 within
      ∙ ap (λ b. cond b 1 0) (sym (is_ended-snoc k h c ∙ (ap (λ a. is_ended k (calls h) || ends k a) is ∙ (ap (λ b. is_ended k (calls h) || b) (eq-eqb i k same) ∙ or_true (is_ended k (calls h))))))))
      (λ ne. get_or-set_other words (3 + 64 * z.slots + i) (3 + 64 * z.slots + k) 1 0 (λ e. ne (omega arith)) ∙ (f k inside
      ∙ ap (λ b. cond b 1 0) (sym (is_ended-snoc k h c ∙ (ap (λ a. is_ended k (calls h) || ends k a) is ∙ (ap (λ b. is_ended k (calls h) || b) (ne_eqb i k ne) ∙ or_same (is_ended k (calls h))))))))

  -- an exchange of an end word from 0 to 1
  pub frees : (slots id : ℕ) (me : Me ℕ View) (i : ℕ) (x : Held) → i < z.slots → me.0.live ≡ true → me.0.held ≡ x ∷ []
      → Allows (Kept z) slots id me (3 + 64 * z.slots + i) (λ n. either (n == 0) 1 n) (Ends i (step slots (3 + 64 * z.slots + i) 0 1 none) me)
  frees slots id me i x inside live only s r wide at small =
      let v : View = me.0 in
      let p : ℕ = 3 + 64 * z.slots + i in
      let n : ℕ = get_or s.words p 0 in
      let h : List StoreCall = r.history in
      let f = r.words_fit in
      let long = f.wide in
      let word : n ≡ cond (is_ended i (calls h)) 1 0 = f.ends i inside in
      let c : StoreCall = call x.number (Free i) (Flag (n == 0)) 0 0 in
      let q = held_one z s r id v x at live only in
      let flag : (n == 0) ≡ not (is_ended i (calls h)) = ap (λ (m : ℕ). m == 0) word ∙ told (is_ended i (calls h)) in
      let after : either (n == 0) 1 n ≡ 1 = ap (λ (m : ℕ). either (m == 0) 1 m) word ∙ exchanged_word (is_ended i (calls h)) in
      let words : List ℕ = set s.words p 1 in
      let other = λ (k : ℕ) (l : k ≢ p). get_or-set_other s.words p k 1 0 l in
      let written : WordsFit z words (h ++ c ∷ []) = words_called z s.words words h c (record { number = λ b m. refl; entry = λ b. refl; weight = refl }) (length-set s.words p 1) (other 0 (λ e. omega arith))
      (λ k above. other k (λ e. omega arith)) (λ b inb. other (3 + b) (λ e. omega arith)) q.given refl f
      (slots_words z s.words words (h ++ c ∷ []) (other 1 (λ e. omega arith)) (slots_grow z s.words h c refl refl f.slots))
      (threads_words z s.words words (h ++ c ∷ []) (other 2 (λ e. omega arith)) (threads_grow z s.words h c refl refl f.threads))
      (ends_freed s.words h c i (omega arith) refl f.ends) in
      let done = called z s r id v x c words at live only refl (ap Flag flag) (refl, refl) (other 0 (λ e. omega arith)) (λ k above. other k (λ e. omega arith)) written in
      let w : View = called_view v x h c in (
        w,
        keeps,
        tt,
        subst (λ (m : ℕ). Kept z record { words = set s.words p m; homes = s.homes; views = set s.views id w }) (sym after) done.0,
        (refl, λ y is. subst (λ (k : Held). Calls v w k (call k.number (Free i) (Flag (n == 0)) 0 0)) (same_one x y v.held only is) done.1),
      )

  -- a load of an end word
  pub looks : (slots id : ℕ) (me : Me ℕ View) (i : ℕ) (x : Held) → i < z.slots → me.0.live ≡ true → me.0.held ≡ x ∷ []
      → Allows (Kept z) slots id me (3 + 64 * z.slots + i) (λ n. n) (Looks i (step slots (3 + 64 * z.slots + i) 0 0 none) me)
  looks slots id me i x inside live only s r wide at small =
      let v : View = me.0 in
      let p : ℕ = 3 + 64 * z.slots + i in
      let n : ℕ = get_or s.words p 0 in
      let h : List StoreCall = r.history in
      let f = r.words_fit in
      let c : StoreCall = call x.number (Look i) (Flag (n == 0)) 0 0 in
      let q = held_one z s r id v x at live only in
      let flag : (n == 0) ≡ not (is_ended i (calls h)) = ap (λ (m : ℕ). m == 0) (f.ends i inside) ∙ told (is_ended i (calls h)) in
      let written : WordsFit z s.words (h ++ c ∷ []) = words_called z s.words s.words h c (record { number = λ b m. refl; entry = λ b. refl; weight = refl }) refl refl (λ k _. refl) (λ b _. refl) q.given refl f
      (slots_grow z s.words h c refl refl f.slots) (threads_grow z s.words h c refl refl f.threads) (ends_grow z s.words h c (λ k. refl) f.ends) in
      let done = called z s r id v x c s.words at live only refl (ap Flag flag) (refl, refl) refl (λ k _. refl) written in
      let w : View = called_view v x h c in (
        w,
        keeps,
        tt,
        subst (λ (ws : List ℕ). Kept z record { words = ws; homes = s.homes; views = set s.views id w }) (sym (set-get_or s.words p 0)) done.0,
        (refl, λ y is. subst (λ (k : Held). Calls v w k (call k.number (Look i) (Flag (n == 0)) 0 0)) (same_one x y v.held only is) done.1),
      )

  -- the same at a place that is the end word's
  pub frees_at : (slots id : ℕ) (me : Me ℕ View) (i p : ℕ) (x : Held) → p ≡ end_at z i → i < z.slots → me.0.live ≡ true → me.0.held ≡ x ∷ []
      → Allows (Kept z) slots id me p (λ n. either (n == 0) 1 n) (Ends i (step slots p 0 1 none) me)
  frees_at slots id me i p x is inside live only =
      subst (λ (p : ℕ). Allows (Kept z) slots id me p (λ n. either (n == 0) 1 n) (Ends i (step slots p 0 1 none) me)) (sym is) (frees slots id me i x inside live only)

  pub looks_at : (slots id : ℕ) (me : Me ℕ View) (i p : ℕ) (x : Held) → p ≡ end_at z i → i < z.slots → me.0.live ≡ true → me.0.held ≡ x ∷ []
      → Allows (Kept z) slots id me p (λ n. n) (Looks i (step slots p 0 0 none) me)
  looks_at slots id me i p x is inside live only = subst (λ (p : ℕ). Allows (Kept z) slots id me p (λ n. n) (Looks i (step slots p 0 0 none) me)) (sym is) (looks slots id me i x inside live only)

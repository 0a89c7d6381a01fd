-- Seats are numbered, cut and joined, and learn the history so far.
use Rattle.std.proofs.Common.{◌≡◌, ◌≢◌, ℕ, ◌+◌, ◌*◌, ◌%◌, ◌^◌, ◌<◌, ◌≤◌, true, cond, eqb, List, [], ◌∷◌, ◌++◌, length, get_or, set, min, sym, refl, ap, ◌∙◌, subst, inl, ⊎_elim, arith, eq-eqb, ne_eqb, length-set, get_or-set_other, get_or-set_same, lt_of_not-le}
use Rattle.std.proofs.lemmas.List.{get_or-replicate, get_or_past, length-replicate}
use Rattle.std.proofs.Math.Nat.{min-eq_left}
use Rattle.std.specs.Prelude.{replicate, Some}
use native.Mathlib.Decide.{dec_le}
use mathlib.Core.Logic.{dite}
use mathlib.Core.Option.{none, some, some-ne-none}
use lib.ListN.{get_elem?}
use lib.Seq.{set-get_or}
use Rattle.atomic_table.specs.Table.{State, Me, step, keeps, opening, Allows, Splits, Joins}
use Rattle.atomic_table.proofs.Lists.{set_again, set_else}
use Rattle.meaning.specs.Legal.{Call}
use Rattle.safe_table.specs.declared.history.StoreCall.{StoreCall}
use Rattle.safe_table.specs.declared.history.StoreSize.{StoreSize}
use Rattle.safe_table.specs.declared.view.Held.{Held}
use Rattle.safe_table.specs.declared.view.View.{View}
use Rattle.safe_table.specs.History.{calls_by, IsHistory}
use Rattle.safe_table.specs.Rule.{IsSize, word_count, any_late, any_crowded, numbers_with, next_record, HeldFits, ViewFits, WordsFit, IsKept}
use Rattle.safe_table.specs.inner.Views.{opener, note, joined, spent, newcomer, numbered, dealer, dealt, learnt}
use Rattle.safe_table.specs.inner.Plays.{Learning, Numbers}
use Rattle.safe_table.proofs.ListLemmas.{prefix_refl, at_end, at_append, only_one, set_stays}
use Rattle.safe_table.proofs.HistoryLemmas.{calls_by-none}
use Rattle.safe_table.proofs.WordsFit.{SameAbove, same_record, records_words, slots_words, threads_words}
use Rattle.safe_table.proofs.ViewsFit.{Kept, drafted_on}

module _ (z : StoreSize) where
  -- a change of the seats alone
  reseat : (s : State ℕ View) (r : Kept z s) (views : List View) (owner : ℕ → ℕ)
      → ((id : ℕ) (v : View) → get_elem? views id ≡ some v → v.live ≡ true → ViewFits z s.words r.history owner r.opener_at id v) → Kept z record { words = s.words; homes = s.homes; views = views }
  reseat s r views owner seats = record { history = r.history; owner = owner; opener_at = r.opener_at; legal = r.legal; words_fit = r.words_fit; views_fit = seats }

  -- under another owner
  owned_by : (words : List ℕ) (h : List StoreCall) (owner owner' : ℕ → ℕ) (id id' : ℕ) (x : Held) → (owner x.number ≡ id → owner' x.number ≡ id') → HeldFits z words h owner id x → HeldFits z words h owner' id' x
  owned_by words h owner owner' id id' x moves q = record { owned = moves q.owned; given = q.given; mine = q.mine; drafted = q.drafted }

  pub notes : (id : ℕ) (v : View) → v.live ≡ true → Splits (Kept z) id v v (note v)
  notes id v live s r at = reseat s r (set s.views id v ++ note v ∷ []) r.owner (λ j u e alive. ⊎_elim
      (λ (t : get_elem? (set s.views id v) j ≡ some u). r.views_fit j u (subst (λ (l : List View). get_elem? l j ≡ some u) (set_again s.views id v at) t) alive)
      (λ (t : (j ≡ length (set s.views id v)) × (note v ≡ u)).
      let fits = r.views_fit id v at live in
      subst (λ (k : View). ViewFits z s.words r.history r.owner r.opener_at j k) t.1 record {
        size_is = fits.size_is;
        opens = λ g is. absurd (cc);
        seen = fits.seen;
        told = (r.history, refl);
        held = λ k x is. absurd (some-ne-none x (sym is));
      })
      (at_end (set s.views id v) (note v) u j e))

  pub learns : (slots id : ℕ) (me : Me ℕ View) → me.0.live ≡ true → Allows (Kept z) slots id me 0 (λ n. n) (Learning (step slots 0 0 0 none) me)
  learns slots id me live s r wide at small =
      let v : View = me.0 in
      let h : List StoreCall = r.history in
      let w : View = learnt v h in
      let fits = r.views_fit id v at live in
      let few = r.words_fit.numbers.few in (
        w,
        keeps,
        tt,
        subst (λ (l : List ℕ). Kept z record { words = l; homes = s.homes; views = set s.views id w }) (sym (set-get_or s.words 0 0))
            (reseat s r (set s.views id w) r.owner (set_stays (λ j u. u.live ≡ true → ViewFits z s.words h r.owner r.opener_at j u) s.views id w
            (λ _. record { size_is = fits.size_is; opens = fits.opens; seen = prefix_refl h; told = fits.told; held = fits.held }) (λ j u other e. r.views_fit j u e))),
        (
          refl,
          record {
            is = refl;
            seen = fits.seen;
            told = fits.told;
            legal = subst (λ (k : StoreSize). IsHistory k h) (sym fits.size_is) r.legal;
            mine = λ k x is. (fits.held k x is).mine;
            named = λ k c is. let named = r.words_fit.numbers.named k c is in let same : v.size.threads ≡ z.threads = ap (λ (k : StoreSize). k.threads) fits.size_is in omega arith;
          },
        ),
      )

  pub joins : (id : ℕ) (v : View) (other : ℕ) (w : View) → v.live ≡ true → w.live ≡ true → Joins (Kept z) id v other w (joined v w) spent
  joins id v other w live alive s r at apart there =
      let h : List StoreCall = r.history in
      let owner : ℕ → ℕ = λ (n : ℕ). cond (eqb (r.owner n) other) id (r.owner n) in
      let fits = r.views_fit id v at live in
      let theirs = r.views_fit other w (sym (set_else s.views id other (joined v w) apart) ∙ there) alive in
      let taken = λ (n : ℕ) (is : r.owner n ≡ other). ap (λ b. cond b id (r.owner n)) (eq-eqb (r.owner n) other is) in
      let left = λ (n : ℕ) (is : r.owner n ≢ other). ap (λ b. cond b id (r.owner n)) (ne_eqb (r.owner n) other is) in
      reseat s r (set (set s.views id (joined v w)) other spent) owner (set_stays (λ j u. u.live ≡ true → ViewFits z s.words h owner r.opener_at j u) (set s.views id (joined v w)) other spent
      (λ dead. absurd (cc))
      (λ j u not_other e alive'. set_stays (λ j u. j ≢ other → u.live ≡ true → ViewFits z s.words h owner r.opener_at j u) s.views id (joined v w)
      (λ _ _. record {
        size_is = fits.size_is;
        opens = fits.opens;
        seen = fits.seen;
        told = theirs.seen;
        held = λ k x is. ⊎_elim
            (λ (t : get_elem? v.held k ≡ some x). owned_by s.words h r.owner owner id id x (λ own. left x.number (λ e. apart (sym e ∙ own)) ∙ own) (fits.held k x t))
            (λ (t : (k' : ℕ) × (get_elem? w.held k' ≡ some x)). owned_by s.words h r.owner owner other id x (λ own. taken x.number own) (theirs.held t.0 x t.1))
            (at_append v.held w.held x k is);
      })
      (λ i u' not_id e' not_other' alive''. let f = r.views_fit i u' e' alive'' in record {
        size_is = f.size_is;
        opens = f.opens;
        seen = f.seen;
        told = f.told;
        held = λ k x is. owned_by s.words h r.owner owner i i x (λ own. left x.number (λ e. not_other' (sym own ∙ e)) ∙ own) (f.held k x is);
      }) j u e not_other alive'))

  pub deals : (id : ℕ) (v : View) → v.live ≡ true → Splits (Kept z) id v (dealer v) (dealt v)
  deals id v live s r at =
      let h : List StoreCall = r.history in
      let new : ℕ = length (set s.views id (dealer v)) in
      let owner : ℕ → ℕ = λ (n : ℕ). cond (eqb (r.owner n) id) new (r.owner n) in
      let fits = r.views_fit id v at live in
      let taken = λ (n : ℕ) (is : r.owner n ≡ id). ap (λ b. cond b new (r.owner n)) (eq-eqb (r.owner n) id is) in
      let left = λ (n : ℕ) (is : r.owner n ≢ id). ap (λ b. cond b new (r.owner n)) (ne_eqb (r.owner n) id is) in
      reseat s r (set s.views id (dealer v) ++ dealt v ∷ []) owner (λ j u e alive. ⊎_elim
      (λ (t : get_elem? (set s.views id (dealer v)) j ≡ some u). set_stays (λ j u. u.live ≡ true → ViewFits z s.words h owner r.opener_at j u) s.views id (dealer v)
      (λ _. record { size_is = fits.size_is; opens = fits.opens; seen = fits.seen; told = fits.told; held = λ k x is. absurd (some-ne-none x (sym is)) })
      (λ i u' not_id e' alive'. let f = r.views_fit i u' e' alive' in record {
        size_is = f.size_is;
        opens = f.opens;
        seen = f.seen;
        told = f.told;
        held = λ k x is. owned_by s.words h r.owner owner i i x (λ own. left x.number (λ e. not_id (sym own ∙ e)) ∙ own) (f.held k x is);
      }) j u t alive)
      (λ (t : (j ≡ new) × (dealt v ≡ u)). subst (λ (k : ℕ × View). ViewFits z s.words h owner r.opener_at k.0 k.1) (λ i. (sym t.0 i, t.1 i)) record {
        size_is = fits.size_is;
        opens = λ g is. absurd (cc);
        seen = fits.seen;
        told = (h, refl);
        held = λ k x is. owned_by s.words h r.owner owner id new x (λ own. taken x.number own) (fits.held k x is);
      })
      (at_end (set s.views id (dealer v)) (dealt v) u j e))

  -- the words behind one number more
  words_numbered : (words : List ℕ) (h : List StoreCall) (g : ℕ) → g < z.threads → get_or words 0 0 ≡ g → WordsFit z words h → WordsFit z (set words 0 (g + 1)) h
  words_numbered words h g more is f =
      let words' : List ℕ = set words 0 (g + 1) in
      let long = f.wide in
      let first : get_or words' 0 0 ≡ g + 1 = get_or-set_same words 0 (g + 1) 0 (omega arith) in
      let other = λ (i : ℕ) (l : 0 < i). get_or-set_other words 0 i (g + 1) 0 (λ e. omega arith) in
      record {
        wide = length-set words 0 (g + 1) ∙ long;
        numbers = record {
          few = subst (λ (n : ℕ). n ≤ z.threads) (sym first) (omega arith);
          named = λ k c at. let l = f.numbers.named k c at in subst (λ (n : ℕ). c.by < n) (sym first) (omega arith);
        };
        cells = λ a inside. other (3 + a) (omega arith) ∙ f.cells a inside;
        records = records_words z words words' h (λ r made. same_record z words words' (λ i above. other i (omega arith)) r) f.records;
        slots = slots_words z words words' h (other 1 (omega arith)) f.slots;
        threads = threads_words z words words' h (other 2 (omega arith)) f.threads;
        ends = λ i inside. other (3 + 64 * z.slots + i) (omega arith) ∙ f.ends i inside;
      }

  pub numbers : (slots id : ℕ) (me : Me ℕ View) (g : ℕ) → me.0.live ≡ true → me.0.given ≡ Some g → me.0.held ≡ [] → g < z.threads → z.threads < 2 ^ 64
      → Allows (Kept z) slots id me 0 (λ n. (n + 1) % 2 ^ 64) (Numbers (step slots 0 1 0 none) me)
  numbers slots id me g live gives empty more few64 s r wide at small =
      let v : View = me.0 in
      let h : List StoreCall = r.history in
      let n : ℕ = get_or s.words 0 0 in
      let words : List ℕ = set s.words 0 (g + 1) in
      let w : View = record (numbered v g) { given = Some (g + 1) } in
      let fits = r.views_fit id v at live in
      let open_here = fits.opens g gives in
      let now : n ≡ g = open_here.1 in
      let f = r.words_fit in
      let long = f.wide in
      let first : get_or words 0 0 ≡ g + 1 = get_or-set_same s.words 0 (g + 1) 0 (omega arith) in
      let bigger = λ (m : ℕ) (l : m < n). (let big : m < get_or words 0 0 = omega arith in big) in
      let above : SameAbove z s.words words = (λ i l. get_or-set_other s.words 0 i (g + 1) 0 (λ e. omega arith)) in
      let owner : ℕ → ℕ = λ (m : ℕ). cond (eqb m g) id (r.owner m) in
      let mine : calls_by g h ≡ [] = calls_by-none g h (λ k c is e. let below = f.numbers.named k c is in absurd (omega arith)) in
      let wrap : g + 1 ≡ (n + 1) % 2 ^ 64 = omega arith in
      let kept : Kept z record { words = words; homes = s.homes; views = set s.views id w } = record {
        history = h;
        owner = owner;
        opener_at = r.opener_at;
        legal = r.legal;
        words_fit = words_numbered s.words h g more now f;
        views_fit = set_stays (λ j u. u.live ≡ true → ViewFits z words h owner r.opener_at j u) s.views id w
            (λ _. record {
              size_is = fits.size_is;
              opens = λ g' is. (open_here.0, first ∙ cc);
              seen = fits.seen;
              told = fits.told;
              held = λ k x is. let one = only_one (newcomer g) x k is in subst (λ (y : Held). HeldFits z words h owner id y) one.1 record {
                owned = ap (λ b. cond b id (r.owner g)) (eq-eqb g g refl);
                given = subst (λ (m : ℕ). g < m) (sym first) (omega arith);
                mine = mine;
                drafted = tt;
              };
            })
            (λ j u other e alive. let old = r.views_fit j u e alive in record {
              size_is = old.size_is;
              opens = λ g' is. absurd (other ((old.opens g' is).0 ∙ sym open_here.0));
              seen = old.seen;
              told = old.told;
              held = λ k x is. let q = old.held k x is in record {
                owned = ap (λ b. cond b id (r.owner x.number)) (ne_eqb x.number g (λ e'. let l = q.given in omega arith)) ∙ q.owned;
                given = bigger x.number q.given;
                mine = q.mine;
                drafted = drafted_on z s.words words x x.draft (λ room. same_record z s.words words above (next_record z x)) q.drafted;
              };
            });
      } in (
        w,
        keeps,
        tt,
        subst (λ (m : ℕ). Kept z record { words = set s.words 0 m; homes = s.homes; views = set s.views id w }) wrap kept,
        (
          refl,
          λ g' is. let both : Some g ≡ Some g' = sym gives ∙ is in let one : g ≡ g' = cc in
              (now ∙ one, λ i. record (numbered v (one i)) { given = Some (one i + 1) }),
        ),
      )

  starts_at : (words : List ℕ) → IsSize z → length words ≡ word_count z → ((i : ℕ) → get_or words i 0 ≡ 0) → IsKept z (opening words [] (opener z))
  starts_at words fit wide zeros = record {
    history = [];
    owner = λ n. 0;
    opener_at = 0;
    legal = record { replies = λ b r c e. absurd (no_calls b c r e); numbers = λ b r c e. absurd (no_store_calls b c r e) };
    words_fit = record {
      wide = wide;
      numbers = record {
        few = subst (λ (n : ℕ). n ≤ z.threads) (sym (zeros 0)) (omega arith);
        named = λ k c e. absurd (some-ne-none c (sym e));
      };
      cells = λ a inside. zeros (3 + a);
      records = record { known = λ k c e. absurd (some-ne-none c (sym e)); last = λ a. refl; within = λ n. omega arith };
      slots = record {
        next = inl (ap (λ (n : ℕ). 1026 + n) (zeros 1));
        bound = subst (λ (n : ℕ). n ≤ z.slots + 256 * numbers_with any_late z.threads []) (sym (zeros 1)) (omega arith);
        late = λ k c e. absurd (some-ne-none c (sym e));
      };
      threads = record {
        count = (let is : 1 ≡ min 1 z.threads = sym (min-eq_left fit.least_threads) in is) ∙ ap (λ (n : ℕ). min (1 + n) z.threads) (sym (zeros 2));
        bound = subst (λ (n : ℕ). n ≤ z.threads + numbers_with any_crowded z.threads []) (sym (zeros 2)) (omega arith);
        crowded = λ k c e. absurd (some-ne-none c (sym e));
      };
      ends = λ i inside. zeros (3 + 64 * z.slots + i);
    };
    views_fit = λ j v e alive. let one = only_one (opener z) v j e in subst (λ (k : ℕ × View). ViewFits z words [] (λ n. 0) 0 k.0 k.1) (λ i. (sym one.0 i, one.1 i)) record {
      size_is = refl;
      opens = λ g is. (refl, zeros 0 ∙ cc);
      seen = ([], refl);
      told = ([], refl);
      held = λ k x is. absurd (some-ne-none x (sym is));
    };
  }
    where
      no_calls : (b : List Call) (c : Call) (r : List Call) → [] ≡ b ++ c ∷ r → ⊥
      no_calls [] c r e = cc
      no_calls (x ∷ xs) c r e = cc

      no_store_calls : (b : List StoreCall) (c : StoreCall) (r : List StoreCall) → [] ≡ b ++ c ∷ r → ⊥
      no_store_calls [] c r e = cc
      no_store_calls (x ∷ xs) c r e = cc

  -- a new table, all of whose words are 0
  pub starts : (words : List ℕ) → IsSize z → words ≡ replicate (word_count z) 0 → IsKept z (opening words [] (opener z))
  starts words fit is = starts_at words fit (ap length is ∙ length-replicate (word_count z) 0) (λ i. ap (λ (l : List ℕ). get_or l i 0) is ∙ zero_at (word_count z) i)
    where
      zero_at : (n i : ℕ) → ◌≡◌ {A = ℕ} (get_or (replicate n 0) i 0) 0
      zero_at n i = dite (dec_le n i) (λ past. get_or_past (replicate n 0) i 0 (let h : length (replicate {A = ℕ} n 0) ≡ n = length-replicate n 0 in omega arith)) (λ inside. get_or-replicate n i 0 0 (lt_of_not-le inside))

-- What views know stays so under other seats' steps, and what a step that is a call makes of its own.
use Rattle.std.proofs.Common.{◌≡◌, ◌≢◌, ℕ, ◌+◌, ◌*◌, ◌<◌, ◌≤◌, true, List, [], ◌∷◌, ◌++◌, get_or, set, sym, refl, ap, ◌∙◌, subst, arith, length-set, get_or-set_other}
use mathlib.Core.Option.{some}
use mathlib.Core.List.{IsPrefix}
use lib.ListN.{get_elem?}
use lib.Seq.{set-get_or}
use Rattle.atomic_table.specs.Table.{State}
use Rattle.atomic_table.proofs.Lists.{set_again}
use Rattle.meaning.specs.Legal.{IsLegalCall}
use Rattle.safe_table.specs.declared.history.StoreCall.{StoreCall}
use Rattle.safe_table.specs.declared.history.StoreSize.{StoreSize}
use Rattle.safe_table.specs.declared.view.Draft.{Draft}
use Rattle.safe_table.specs.declared.view.Draft.TheVariants.{Blank, Low, Both}
use Rattle.safe_table.specs.declared.view.Held.{Held}
use Rattle.safe_table.specs.declared.view.View.{View}
use Rattle.safe_table.specs.History.{calls, IsNumbered, IsHistory, calls_by, puts}
use Rattle.safe_table.specs.Rule.{records_at, low_at, high_at, IsMade, next_record, Drafted, HeldFits, ViewFits, WordsFit, IsKept}
use Rattle.safe_table.specs.inner.Views.{with_draft, called_view}
use Rattle.safe_table.specs.inner.Plays.{Calls}
use Rattle.safe_table.proofs.ListLemmas.{prefix_refl, prefix_snoc, only_one, set_stays, one_place}
use Rattle.safe_table.proofs.HistoryLemmas.{history-snoc, calls_by-mine, calls_by-other}
use Rattle.safe_table.proofs.WordsFit.{SameAbove, SameRecord, same_record, numbers_words, records_words, slots_words, threads_words}

module _ (z : StoreSize) where
  abbrev pub Kept : State ℕ View → Type 0
  Kept = IsKept z

  pub drafted_on : (words words' : List ℕ) (x : Held) (d : Draft) → (puts x.mine < z.quota → SameRecord z words words' (next_record z x)) → Drafted z words x d → Drafted z words' x d
  drafted_on words words' x Blank same k = tt
  drafted_on words words' x (Low y) same k = (k.0, (same k.0).0 ∙ k.1)
  drafted_on words words' x (Both y w) same k = (k.0, (same k.0).0 ∙ k.1, (same k.0).1 ∙ k.2)

  -- what is drafted does not name the draft
  relabel : (words : List ℕ) (x : Held) (d : Draft) → Drafted z words x d → Drafted z words (record { number = x.number; mine = x.mine; draft = d }) d
  relabel words x Blank k = k
  relabel words x (Low y) k = k
  relabel words x (Both y w) k = k

  -- what a seat knows stays so, where the history only grows, by none of its own calls, and its own next record stays
  pub fits_on : (words words' : List ℕ) (h h' : List StoreCall) (owner : ℕ → ℕ) (o id : ℕ) (v : View) → get_or words' 0 0 ≡ get_or words 0 0 → ((xs : List StoreCall) → IsPrefix xs h → IsPrefix xs h')
      → ((n : ℕ) → owner n ≡ id → calls_by n h' ≡ calls_by n h)
      → ((x : Held) → HeldFits z words h owner id x → puts x.mine < z.quota → SameRecord z words words' (next_record z x))
      → ViewFits z words h owner o id v → ViewFits z words' h' owner o id v
  fits_on words words' h h' owner o id v same more mine drafts f = record {
    size_is = f.size_is;
    opens = λ g is. let k = f.opens g is in (k.0, same ∙ k.1);
    seen = more v.seen f.seen;
    told = more v.told f.told;
    held = λ k x at. let q = f.held k x at in record {
      owned = q.owned;
      given = subst (λ (n : ℕ). x.number < n) (sym same) q.given;
      mine = mine x.number q.owned ∙ q.mine;
      drafted = drafted_on words words' x x.draft (drafts x q) q.drafted;
    };
  }

  -- the one number that a seat holds
  pub held_one : (s : State ℕ View) (r : Kept s) (id : ℕ) (v : View) (x : Held) → get_elem? s.views id ≡ some v → v.live ≡ true → v.held ≡ x ∷ [] → HeldFits z s.words r.history r.owner id x
  held_one s r id v x at live only = (r.views_fit id v at live).held 0 x (ap (λ (l : List Held). get_elem? l 0) only)

  -- a step that is a call, and changes no word of a record
  pub called : (s : State ℕ View) (r : Kept s) (id : ℕ) (v : View) (x : Held) (c : StoreCall) (words : List ℕ) → get_elem? s.views id ≡ some v → v.live ≡ true → v.held ≡ x ∷ [] → c.by ≡ x.number
      → IsLegalCall z.slots z.threads (calls r.history) c.action c.reply → IsNumbered r.history c c.action → get_or words 0 0 ≡ get_or s.words 0 0 → SameAbove z s.words words → WordsFit z words (r.history ++ c ∷ [])
      → Kept record { words = words; homes = s.homes; views = set s.views id (called_view v x r.history c) } × Calls v (called_view v x r.history c) x c
  called s r id v x c words at live only by reply number same above written =
      let h : List StoreCall = r.history in
      let h' : List StoreCall = h ++ c ∷ [] in
      let w : View = called_view v x h c in
      let one : Held = record { number = x.number; mine = x.mine ++ c ∷ []; draft = Blank } in
      let fits = r.views_fit id v at live in
      let q = held_one s r id v x at live only in
      let legal : IsHistory z h' = history-snoc z h c r.legal reply number in
      let mine : calls_by x.number h' ≡ x.mine ++ c ∷ [] = calls_by-mine x.number h c by ∙ ap (λ (l : List StoreCall). l ++ c ∷ []) q.mine in (
        record {
          history = h';
          owner = r.owner;
          opener_at = r.opener_at;
          legal = legal;
          words_fit = written;
          views_fit = set_stays (λ j u. u.live ≡ true → ViewFits z words h' r.owner r.opener_at j u) s.views id w
              (λ _. record {
                size_is = fits.size_is;
                opens = λ g is. let k = fits.opens g is in (k.0, same ∙ k.1);
                seen = prefix_refl h';
                told = prefix_snoc v.told h c fits.told;
                held = λ k y e. let is = only_one one y k e in
                    subst (HeldFits z words h' r.owner id) is.1 (record { owned = q.owned; given = subst (λ (n : ℕ). x.number < n) (sym same) q.given; mine = mine; drafted = tt });
              })
              (λ j u other e alive. fits_on s.words words h h' r.owner r.opener_at j u same (λ xs p. prefix_snoc xs h c p)
              (λ m owned. calls_by-other m h c (λ is. other (sym owned ∙ (ap r.owner (sym is ∙ by) ∙ q.owned))))
              (λ y _ _. same_record z s.words words above (next_record z y)) (r.views_fit j u e alive));
        },
        record { between = h; longer = fits.seen; seen = refl; legal = subst (λ (k : StoreSize). IsHistory k h') (sym fits.size_is) legal; held = refl; mine = mine; size_is = refl; live = live },
      )

  -- a step that changes nothing
  pub unmoved : (s : State ℕ View) (id i : ℕ) (v : View) → get_elem? s.views id ≡ some v → Kept s → Kept record { words = set s.words i (get_or s.words i 0); homes = s.homes; views = set s.views id v }
  unmoved s id i v at r = subst (λ (t : List ℕ × List View). Kept record { words = t.0; homes = s.homes; views = t.1 }) (λ k. (sym (set-get_or s.words i 0) k, sym (set_again s.views id v at) k)) r

  -- two seats' next records are apart
  next_apart : (x y : Held) → x.number ≢ y.number → puts x.mine < z.quota → puts y.mine < z.quota → next_record z x ≢ next_record z y
  next_apart x y apart room room' clash = apart (one_place z.quota x.number (puts x.mine) y.number (puts y.mine) room room' clash).0

  -- a seat's next record was not made
  next_unmade : (h : List StoreCall) (x : Held) (r : ℕ) → ((n : ℕ) → puts (calls_by n h) ≤ z.quota) → calls_by x.number h ≡ x.mine → puts x.mine < z.quota → IsMade z h r → r ≢ next_record z x
  next_unmade h x r within mine room made clash =
      let most = within made.0 in let less = made.4 in let place = made.3 in
      let there : z.quota * made.0 + made.1 ≡ z.quota * x.number + puts x.mine = omega arith in
      let one = one_place z.quota made.0 made.1 x.number (puts x.mine) (omega arith) room there in
      let more : made.1 < puts x.mine = subst (λ (l : List StoreCall). made.1 < puts l) mine (subst (λ (n : ℕ). made.1 < puts (calls_by n h)) one.0 less) in let same = one.1 in absurd (omega arith)

  off_same : (words : List ℕ) (i new n : ℕ) → ((k : ℕ) → k ≢ n → (low_at z k ≢ i) × (high_at z k ≢ i)) → (k : ℕ) → k ≢ n → SameRecord z words (set words i new) k
  off_same words i new n off k ne = let o = off k ne in (get_or-set_other words i (low_at z k) new 0 o.0, get_or-set_other words i (high_at z k) new 0 o.1)

  -- a step that writes a word of the seat's next record
  pub drafts : (s : State ℕ View) (r : Kept s) (id : ℕ) (v : View) (x : Held) (i new : ℕ) (d : Draft) → get_elem? s.views id ≡ some v → v.live ≡ true → v.held ≡ x ∷ [] → puts x.mine < z.quota
      → records_at z ≤ i → ((k : ℕ) → k ≢ next_record z x → (low_at z k ≢ i) × (high_at z k ≢ i)) → Drafted z (set s.words i new) x d
      → Kept record { words = set s.words i new; homes = s.homes; views = set s.views id (with_draft v x d) }
  drafts s r id v x i new d at live only room above off drafted =
      let h : List StoreCall = r.history in
      let words : List ℕ = set s.words i new in
      let f = r.words_fit in
      let fits = r.views_fit id v at live in
      let one : Held = record { number = x.number; mine = x.mine; draft = d } in
      let q = held_one s r id v x at live only in
      let below = λ (k : ℕ) (l : k < records_at z). get_or-set_other s.words i k new 0 (λ e. omega arith) in
      let first : get_or words 0 0 ≡ get_or s.words 0 0 = below 0 (omega arith) in
      let same = off_same s.words i new (next_record z x) off in
      record {
        history = h;
        owner = r.owner;
        opener_at = r.opener_at;
        legal = r.legal;
        words_fit = record {
          wide = length-set s.words i new ∙ f.wide;
          numbers = numbers_words z s.words words h first f.numbers;
          cells = λ a inside. below (3 + a) (omega arith) ∙ f.cells a inside;
          records = records_words z s.words words h (λ m made. same m (next_unmade h x m f.records.within q.mine room made)) f.records;
          slots = slots_words z s.words words h (below 1 (omega arith)) f.slots;
          threads = threads_words z s.words words h (below 2 (omega arith)) f.threads;
          ends = λ k inside. below (3 + 64 * z.slots + k) (omega arith) ∙ f.ends k inside;
        };
        views_fit = set_stays (λ j u. u.live ≡ true → ViewFits z words h r.owner r.opener_at j u) s.views id (with_draft v x d)
            (λ _. record {
              size_is = fits.size_is;
              opens = λ g is. let k = fits.opens g is in (k.0, first ∙ k.1);
              seen = fits.seen;
              told = fits.told;
              held = λ k y e. let is = only_one one y k e in
                  subst (HeldFits z words h r.owner id) is.1 (record { owned = q.owned; given = subst (λ (n : ℕ). x.number < n) (sym first) q.given; mine = q.mine; drafted = relabel words x d drafted });
            })
            (λ j u other e alive. fits_on s.words words h h r.owner r.opener_at j u first (λ xs p. p) (λ m owned. refl)
            (λ y fy room'. same (next_record z y) (next_apart y x (λ is. other (sym fy.owned ∙ (ap r.owner is ∙ q.owned))) room' room)) (r.views_fit j u e alive));
      }

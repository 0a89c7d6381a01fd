-- Histories: one call more, and beginnings.
use Rattle.std.proofs.Common.{◌≡◌, ◌≢◌, ℕ, suc, ◌+◌, ◌≤◌, Bool, true, false, ◌||◌, ◌&&◌, cond, eqb, List, [], ◌∷◌, ◌++◌, sym, refl, ap, ◌∙◌, subst, ⊎_elim, arith, eq-eqb, ne_eqb}
use Rattle.std.proofs.lemmas.List.{map-append}
use Rattle.std.specs.Prelude.{Option, None, Some}
use mathlib.Core.Logic.{dite}
use mathlib.Core.Option.{some}
use native.Mathlib.Decide.{ℕ_discrete}
use lib.ListN.{get_elem?}
use Rattle.meaning.specs.declared.value.Entry.{Entry}
use Rattle.meaning.specs.Legal.{Call, put_at, or_else, last_put, asked, slots_asked, ends, is_ended, is_new_thread, threads_made, IsLegalCall, LegalHistory}
use Rattle.safe_table.specs.declared.history.StoreCall.{StoreCall}
use Rattle.safe_table.specs.declared.history.StoreSize.{StoreSize}
use Rattle.safe_table.specs.History.{answered, calls, last_entry, number_after, number_behind, is_put, has_number, IsNumbered, IsHistory, calls_by, put_weight, puts}
use Rattle.safe_table.proofs.ListLemmas.{cut_snoc, cond_same}

-- Replies are fixed by calls alone

pub calls-snoc : (h : List StoreCall) (c : StoreCall) → calls (h ++ c ∷ []) ≡ calls h ++ answered c ∷ []
calls-snoc h c = map-append answered h (c ∷ [])

or_else-none : (o : Option Entry) → or_else o None ≡ o
or_else-none (Some e) = refl
or_else-none None = refl

or_else_assoc : (o p q : Option Entry) → or_else (or_else o p) q ≡ or_else o (or_else p q)
or_else_assoc (Some e) p q = refl
or_else_assoc None p q = refl

last_put-snoc : (a : ℕ) (h : List Call) (c : Call) → last_put a (h ++ c ∷ []) ≡ or_else (put_at a c.0) (last_put a h)
last_put-snoc a [] c = sym (or_else-none (put_at a c.0))
last_put-snoc a (x ∷ xs) c = ap (λ o. or_else o (put_at a x.0)) (last_put-snoc a xs c) ∙ or_else_assoc (put_at a c.0) (last_put a xs) (put_at a x.0)

pub last_entry-snoc : (a : ℕ) (h : List StoreCall) (c : StoreCall) → last_entry a (h ++ c ∷ []) ≡ or_else (put_at a c.action) (last_entry a h)
last_entry-snoc a h c = ap (last_put a) (calls-snoc h c) ∙ last_put-snoc a (calls h) (answered c)

slots-snoc : (h : List Call) (c : Call) → slots_asked (h ++ c ∷ []) ≡ slots_asked h + asked c.0
slots-snoc [] c = omega arith
slots-snoc (x ∷ xs) c = omega (arith, slots-snoc xs c)

pub slots_asked-snoc : (h : List StoreCall) (c : StoreCall) → slots_asked (calls (h ++ c ∷ [])) ≡ slots_asked (calls h) + asked c.action
slots_asked-snoc h c = ap slots_asked (calls-snoc h c) ∙ slots-snoc (calls h) (answered c)

threads-snoc : (h : List Call) (c : Call) → threads_made (h ++ c ∷ []) ≡ threads_made h + is_new_thread c
threads-snoc [] c = omega arith
threads-snoc (x ∷ xs) c = omega (arith, threads-snoc xs c)

pub threads_made-snoc : (h : List StoreCall) (c : StoreCall) → threads_made (calls (h ++ c ∷ [])) ≡ threads_made (calls h) + is_new_thread (answered c)
threads_made-snoc h c = ap threads_made (calls-snoc h c) ∙ threads-snoc (calls h) (answered c)

or-false : (b : Bool) → (b || false) ≡ b
or-false true = refl
or-false false = refl

or_assoc : (a b c : Bool) → (a || (b || c)) ≡ ((a || b) || c)
or_assoc true b c = refl
or_assoc false b c = refl

ended-snoc : (i : ℕ) (h : List Call) (c : Call) → is_ended i (h ++ c ∷ []) ≡ (is_ended i h || ends i c.0)
ended-snoc i [] c = or-false (ends i c.0)
ended-snoc i (x ∷ xs) c = ap (λ b. ends i x.0 || b) (ended-snoc i xs c) ∙ or_assoc (ends i x.0) (is_ended i xs) (ends i c.0)

pub is_ended-snoc : (i : ℕ) (h : List StoreCall) (c : StoreCall) → is_ended i (calls (h ++ c ∷ [])) ≡ (is_ended i (calls h) || ends i c.action)
is_ended-snoc i h c = ap (is_ended i) (calls-snoc h c) ∙ ended-snoc i (calls h) (answered c)

-- The numbers of puts

pub number_behind-snoc : (a n : ℕ) (h : List StoreCall) (c : StoreCall) → number_behind a n (h ++ c ∷ []) ≡ number_after a (number_behind a n h) c.put c.action
number_behind-snoc a n [] c = refl
number_behind-snoc a n (x ∷ xs) c = number_behind-snoc a (number_after a n x.put x.action) xs c

-- no put has a number that none of them has
pub has_number-none : (n : ℕ) (h : List StoreCall) → ((k : ℕ) (d : StoreCall) → get_elem? h k ≡ some d → is_put d.action ≡ true → d.put ≢ n) → has_number n h ≡ false
has_number-none n [] apart = refl
has_number-none n (c ∷ cs) apart =
    ap (λ b. b || has_number n cs) (by (is_put c.action) refl) ∙ has_number-none n cs (λ k d e. apart (suc k) d e)
  where
    by : (b : Bool) → is_put c.action ≡ b → (is_put c.action && eqb c.put n) ≡ false
    by true e = ap (λ b. b && eqb c.put n) e ∙ ne_eqb c.put n (apart 0 c refl e)
    by false e = ap (λ b. b && eqb c.put n) e

-- The calls of one seat

pub calls_by-mine : (n : ℕ) (h : List StoreCall) (c : StoreCall) → c.by ≡ n → calls_by n (h ++ c ∷ []) ≡ calls_by n h ++ c ∷ []
calls_by-mine n [] c e = ap (λ b. cond b (c ∷ []) []) (eq-eqb c.by n e)
calls_by-mine n (x ∷ xs) c e = both (eqb x.by n) (calls_by-mine n xs c e)
  where
    both : (b : Bool) → calls_by n (xs ++ c ∷ []) ≡ calls_by n xs ++ c ∷ [] → cond b (x ∷ calls_by n (xs ++ c ∷ [])) (calls_by n (xs ++ c ∷ [])) ≡ cond b (x ∷ calls_by n xs) (calls_by n xs) ++ c ∷ []
    both true r = ap (λ (l : List StoreCall). x ∷ l) r
    both false r = r

pub calls_by-other : (n : ℕ) (h : List StoreCall) (c : StoreCall) → c.by ≢ n → calls_by n (h ++ c ∷ []) ≡ calls_by n h
calls_by-other n [] c e = ap (λ b. cond b (c ∷ []) []) (ne_eqb c.by n e)
calls_by-other n (x ∷ xs) c e = ap (λ (l : List StoreCall). cond (eqb x.by n) (x ∷ l) l) (calls_by-other n xs c e)

pub calls_by-none : (n : ℕ) (h : List StoreCall) → ((k : ℕ) (c : StoreCall) → get_elem? h k ≡ some c → c.by ≢ n) → calls_by n h ≡ []
calls_by-none n [] absent = refl
calls_by-none n (c ∷ cs) absent = ap (λ b. cond b (c ∷ calls_by n cs) (calls_by n cs)) (ne_eqb c.by n (absent 0 c refl)) ∙ calls_by-none n cs (λ k d e. absent (suc k) d e)

pub puts-snoc : (h : List StoreCall) (c : StoreCall) → puts (h ++ c ∷ []) ≡ puts h + put_weight c.action
puts-snoc [] c = omega arith
puts-snoc (x ∷ xs) c = omega (arith, puts-snoc xs c)

-- one's puts after one more call
puts_by-snoc : (n : ℕ) (h : List StoreCall) (c : StoreCall) → puts (calls_by n (h ++ c ∷ [])) ≡ puts (calls_by n h) + cond (eqb c.by n) (put_weight c.action) 0
puts_by-snoc n h c = dite (ℕ_discrete c.by n)
    (λ e. ap puts (calls_by-mine n h c e) ∙ (puts-snoc (calls_by n h) c ∙ ap (λ b. puts (calls_by n h) + cond b (put_weight c.action) 0) (sym (eq-eqb c.by n e))))
    (λ ne. ap puts (calls_by-other n h c ne) ∙ (let z : puts (calls_by n h) ≡ puts (calls_by n h) + 0 = omega arith in z ∙ ap (λ b. puts (calls_by n h) + cond b (put_weight c.action) 0) (sym (ne_eqb c.by n ne))))

pub puts_by-grows : (n : ℕ) (h : List StoreCall) (c : StoreCall) → puts (calls_by n h) ≤ puts (calls_by n (h ++ c ∷ []))
puts_by-grows n h c = let is = puts_by-snoc n h c in omega arith

-- a call that is no put changes nobody's number of puts
pub puts_by-same : (n : ℕ) (h : List StoreCall) (c : StoreCall) → put_weight c.action ≡ 0 → puts (calls_by n (h ++ c ∷ [])) ≡ puts (calls_by n h)
puts_by-same n h c none = let is = puts_by-snoc n h c in let z : cond (eqb c.by n) (put_weight c.action) 0 ≡ 0 = ap (λ (k : ℕ). cond (eqb c.by n) k 0) none ∙ cond_same (eqb c.by n) 0 in omega arith

-- Legal histories

legal-snoc : (slots threads : ℕ) (h : List Call) (c : Call) → LegalHistory slots threads h → IsLegalCall slots threads h c.0 c.1 → LegalHistory slots threads (h ++ c ∷ [])
legal-snoc slots threads h c legal follows b r d e = ⊎_elim
    (λ (t : (h ≡ b) × (c ≡ d)). subst (λ (z : List Call × Call). IsLegalCall slots threads z.0 z.1.0 z.1.1) (λ i. (t.0 i, t.1 i)) follows)
    (λ (t : (q : List Call) × (h ≡ b ++ d ∷ q)). legal b t.0 d t.1)
    (cut_snoc h c b d r e)

pub history-snoc : (z : StoreSize) (h : List StoreCall) (c : StoreCall) → IsHistory z h → IsLegalCall z.slots z.threads (calls h) c.action c.reply → IsNumbered h c c.action → IsHistory z (h ++ c ∷ [])
history-snoc z h c is reply number = record {
  replies = subst (LegalHistory z.slots z.threads) (sym (calls-snoc h c)) (legal-snoc z.slots z.threads (calls h) (answered c) is.replies reply);
  numbers = λ b r d e. ⊎_elim
      (λ (t : (h ≡ b) × (c ≡ d)). subst (λ (z : List StoreCall × StoreCall). IsNumbered z.0 z.1 z.1.action) (λ i. (t.0 i, t.1 i)) number)
      (λ (t : (q : List StoreCall) × (h ≡ b ++ d ∷ q)). is.numbers b t.0 d t.1)
      (cut_snoc h c b d r e);
}

-- How many numbers have calls that pass a test, and the two tests.
use Rattle.std.proofs.Common.{◌≡◌, ◌≢◌, ℕ, zero, suc, ◌+◌, ◌<◌, ◌≤◌, Bool, true, false, ◌||◌, cond, eqb, List, [], ◌∷◌, ◌++◌, sym, refl, ap, ◌∙◌, subst, arith}
use mathlib.Core.Logic.{dite}
use mathlib.Core.Option.{some}
use native.Mathlib.Decide.{ℕ_discrete}
use lib.ListN.{get_elem?}
use Rattle.safe_table.specs.declared.history.StoreCall.{StoreCall}
use Rattle.safe_table.specs.History.{calls_by}
use Rattle.safe_table.specs.Rule.{is_late, any_late, is_crowded, any_crowded, numbers_with}
use Rattle.safe_table.proofs.HistoryLemmas.{calls_by-mine, calls_by-other}

-- A test that some call passes

module _ (one : StoreCall → Bool) where
  abbrev pub any_of : List StoreCall → Bool
  any_of [] = false
  any_of (c ∷ cs) = one c || any_of cs

  any-snoc : (h : List StoreCall) (c : StoreCall) → any_of (h ++ c ∷ []) ≡ (any_of h || one c)
  any-snoc [] c = same (one c)
    where
      same : (b : Bool) → (b || false) ≡ b
      same true = refl
      same false = refl
  any-snoc (x ∷ xs) c = both (one x) (any-snoc xs c)
    where
      both : (b : Bool) → any_of (xs ++ c ∷ []) ≡ (any_of xs || one c) → (b || any_of (xs ++ c ∷ [])) ≡ ((b || any_of xs) || one c)
      both true e = refl
      both false e = e

  -- the calls of one number, after a call that passes no test
  any_by-not : (n : ℕ) (h : List StoreCall) (c : StoreCall) → one c ≡ false → any_of (calls_by n (h ++ c ∷ [])) ≡ any_of (calls_by n h)
  any_by-not n h c is = dite (ℕ_discrete c.by n)
      (λ e. ap any_of (calls_by-mine n h c e) ∙ (any-snoc (calls_by n h) c ∙ (ap (λ b. any_of (calls_by n h) || b) is ∙ same (any_of (calls_by n h)))))
      (λ ne. ap any_of (calls_by-other n h c ne))
    where
      same : (b : Bool) → (b || false) ≡ b
      same true = refl
      same false = refl

  -- a number with a call that passes has a call in the history that passes
  one_that : (h : List StoreCall) (n : ℕ) → any_of (calls_by n h) ≡ true → (k : ℕ) × (c : StoreCall) × (get_elem? h k ≡ some c) × (one c ≡ true)
  one_that [] n e = absurd (cc)
  one_that (c ∷ cs) n e = by (eqb c.by n) (one c) refl e (one_that cs n)
    where
      by : (b l : Bool) → one c ≡ l → any_of (cond b (c ∷ calls_by n cs) (calls_by n cs)) ≡ true → (any_of (calls_by n cs) ≡ true → (k : ℕ) × (d : StoreCall) × (get_elem? cs k ≡ some d) × (one d ≡ true))
          → (k : ℕ) × (d : StoreCall) × (get_elem? (c ∷ cs) k ≡ some d) × (one d ≡ true)
      by true true is e rest = (0, c, refl, is)
      by true false is e rest = let t = rest (subst (λ b. (b || any_of (calls_by n cs)) ≡ true) is e) in (suc t.0, t.1, t.2, t.3)
      by false l is e rest = let t = rest e in (suc t.0, t.1, t.2, t.3)

abbrev late_of : StoreCall → Bool
late_of c = is_late c.action c.reply

abbrev crowded_of : StoreCall → Bool
crowded_of c = is_crowded c.action c.reply

late_is : (h : List StoreCall) → any_late h ≡ any_of late_of h
late_is [] = refl
late_is (c ∷ cs) = ap (λ b. is_late c.action c.reply || b) (late_is cs)

crowded_is : (h : List StoreCall) → any_crowded h ≡ any_of crowded_of h
crowded_is [] = refl
crowded_is (c ∷ cs) = ap (λ b. is_crowded c.action c.reply || b) (crowded_is cs)

pub late-snoc : (h : List StoreCall) (c : StoreCall) → any_late (h ++ c ∷ []) ≡ (any_late h || is_late c.action c.reply)
late-snoc h c = late_is (h ++ c ∷ []) ∙ (any-snoc late_of h c ∙ ap (λ b. b || late_of c) (sym (late_is h)))

pub late_by-not : (n : ℕ) (h : List StoreCall) (c : StoreCall) → is_late c.action c.reply ≡ false → any_late (calls_by n (h ++ c ∷ [])) ≡ any_late (calls_by n h)
late_by-not n h c is = late_is (calls_by n (h ++ c ∷ [])) ∙ (any_by-not late_of n h c is ∙ sym (late_is (calls_by n h)))

pub late_one : (h : List StoreCall) (n : ℕ) → any_late (calls_by n h) ≡ true → (k : ℕ) × (c : StoreCall) × (get_elem? h k ≡ some c) × (is_late c.action c.reply ≡ true)
late_one h n e = one_that late_of h n (sym (late_is (calls_by n h)) ∙ e)

pub crowded-snoc : (h : List StoreCall) (c : StoreCall) → any_crowded (h ++ c ∷ []) ≡ (any_crowded h || is_crowded c.action c.reply)
crowded-snoc h c = crowded_is (h ++ c ∷ []) ∙ (any-snoc crowded_of h c ∙ ap (λ b. b || crowded_of c) (sym (crowded_is h)))

pub crowded_by-not : (n : ℕ) (h : List StoreCall) (c : StoreCall) → is_crowded c.action c.reply ≡ false → any_crowded (calls_by n (h ++ c ∷ [])) ≡ any_crowded (calls_by n h)
crowded_by-not n h c is = crowded_is (calls_by n (h ++ c ∷ [])) ∙ (any_by-not crowded_of n h c is ∙ sym (crowded_is (calls_by n h)))

pub crowded_one : (h : List StoreCall) (n : ℕ) → any_crowded (calls_by n h) ≡ true → (k : ℕ) × (c : StoreCall) × (get_elem? h k ≡ some c) × (is_crowded c.action c.reply ≡ true)
crowded_one h n e = one_that crowded_of h n (sym (crowded_is (calls_by n h)) ∙ e)

-- Counts of numbers

module _ (test : List StoreCall → Bool) where
  pub numbers-same : (n : ℕ) (h g : List StoreCall) → ((m : ℕ) → m < n → test (calls_by m g) ≡ test (calls_by m h)) → numbers_with test n g ≡ numbers_with test n h
  numbers-same zero h g same = refl
  numbers-same (suc n) h g same =
      let one : cond {A = ℕ} (test (calls_by n g)) 1 0 ≡ cond (test (calls_by n h)) 1 0 = ap (λ b. cond {A = ℕ} b 1 0) (same n (omega arith)) in
      let rest : numbers_with test n g ≡ numbers_with test n h = numbers-same n h g (λ m l. same m (omega arith)) in omega arith

  -- one number more passes
  pub numbers-more : (n m : ℕ) (h g : List StoreCall) → m < n → ((k : ℕ) → k ≢ m → test (calls_by k g) ≡ test (calls_by k h)) → test (calls_by m h) ≡ false → test (calls_by m g) ≡ true
      → numbers_with test n g ≡ numbers_with test n h + 1
  numbers-more zero m h g l same was is = absurd (omega arith)
  numbers-more (suc n) m h g l same was is = dite (ℕ_discrete n m)
      (λ e. let rest : numbers_with test n g ≡ numbers_with test n h = numbers-same n h g (λ k less. same k (λ e'. omega arith)) in
      let a : cond {A = ℕ} (test (calls_by n g)) 1 0 ≡ 1 = ap (λ b. cond {A = ℕ} b 1 0) (ap (λ (z : ℕ). test (calls_by z g)) e ∙ is) in
      let b : cond {A = ℕ} (test (calls_by n h)) 1 0 ≡ 0 = ap (λ b. cond {A = ℕ} b 1 0) (ap (λ (z : ℕ). test (calls_by z h)) e ∙ was) in omega arith)
      (λ ne. let rest : numbers_with test n g ≡ numbers_with test n h + 1 = numbers-more n m h g (omega arith) same was is in
      let one : cond {A = ℕ} (test (calls_by n g)) 1 0 ≡ cond (test (calls_by n h)) 1 0 = ap (λ b. cond {A = ℕ} b 1 0) (same n ne) in omega arith)

  pub numbers-few : (n : ℕ) (h : List StoreCall) → numbers_with test n h ≤ n
  numbers-few zero h = omega arith
  numbers-few (suc n) h = let rest = numbers-few n h in let one : cond {A = ℕ} (test (calls_by n h)) 1 0 ≤ 1 = small (test (calls_by n h)) in omega arith
    where
      small : (b : Bool) → cond {A = ℕ} b 1 0 ≤ 1
      small true = omega arith
      small false = omega arith

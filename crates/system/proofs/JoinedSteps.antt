-- Steps behind steps of the same thread are one record.
use Rattle.std.proofs.Common.{◌≡◌, ℕ, ◌+◌, ◌-◌, ◌^◌, ◌≤◌, Bool, true, false, cond, nat_eq, List, [], ◌∷◌, refl, ap, ◌∙◌, arith}
use Rattle.meaning.specs.declared.record.Record.{Record}
use Rattle.meaning.specs.declared.record.Record.TheVariants.{Steps, Did, Noted, Wrote}
use Rattle.meaning.specs.Records.{added, counted, joined}

some_of : (b : Bool) (x y z : Record) → (r : Record) × (rs : List Record) × (cond b (x ∷ []) (y ∷ z ∷ []) ≡ r ∷ rs)
some_of true x y z = (x, [], refl)
some_of false x y z = (y, z ∷ [], refl)

joined_some : (last r : Record) → (x : Record) × (xs : List Record) × (joined last r ≡ x ∷ xs)
joined_some (Steps t n) (Steps u m) = some_of (nat_eq t u) (Steps t (counted n m)) (Steps t n) (Steps u m)
joined_some (Steps t n) (Did u action reply) = (Steps t n, Did u action reply ∷ [], refl)
joined_some (Steps t n) (Noted u note) = (Steps t n, Noted u note ∷ [], refl)
joined_some (Steps t n) (Wrote a v) = (Steps t n, Wrote a v ∷ [], refl)
joined_some (Did t action reply) r = (Did t action reply, r ∷ [], refl)
joined_some (Noted t note) r = (Noted t note, r ∷ [], refl)
joined_some (Wrote a v) r = (Wrote a v, r ∷ [], refl)

added_some : (s : Record) (rs : List Record) (r : Record) → (x : Record) × (xs : List Record) × (added (s ∷ rs) r ≡ x ∷ xs)
added_some s [] r = joined_some s r
added_some s (q ∷ rs) r = (s, added (q ∷ rs) r, refl)

-- a record behind some leaves what stands before them
behind : (q : Record) (rs : List Record) (x : Record) (xs : List Record) (r : Record) → rs ≡ x ∷ xs → added (q ∷ rs) r ≡ q ∷ added rs r
behind q rs x xs r is = rw is refl

equal : (t : ℕ) (b : Bool) → nat_eq t t ≡ b → nat_eq t t ≡ true
equal t true is = is
equal t false is = absurd (grind (arith, is))

same_thread : (t : ℕ) → nat_eq t t ≡ true
same_thread t = equal t (nat_eq t t) refl

counted_is : (n m : ℕ) → n + m ≤ 2 ^ 64 - 1 → counted n m ≡ n + m
counted_is n m few = omega arith

counted_twice : (k n m : ℕ) → n + m ≤ 2 ^ 64 - 1 → counted (counted k n) m ≡ counted k (n + m)
counted_twice k n m few = omega arith

same_steps : (t n m : ℕ) → n + m ≤ 2 ^ 64 - 1 → joined (Steps t n) (Steps t m) ≡ Steps t (n + m) ∷ []
same_steps t n m few = rw (same_thread t, counted_is n m few) refl

behind_steps : (u k t n m : ℕ) (b : Bool) → nat_eq u t ≡ b → n + m ≤ 2 ^ 64 - 1
    → added (joined (Steps u k) (Steps t n)) (Steps t m) ≡ joined (Steps u k) (Steps t (n + m))
behind_steps u k t n m true same few = rw (same, same, counted_twice k n m few) refl
behind_steps u k t n m false other few = rw other (ap (λ rs. Steps u k ∷ rs) (same_steps t n m few))

pub added_twice : (rs : List Record) (t n m : ℕ) → n + m ≤ 2 ^ 64 - 1
    → added (added rs (Steps t n)) (Steps t m) ≡ added rs (Steps t (n + m))
added_twice [] t n m few = same_steps t n m few
added_twice (Steps u k ∷ []) t n m few = behind_steps u k t n m (nat_eq u t) refl few
added_twice (Did u action reply ∷ []) t n m few = ap (λ rs. Did u action reply ∷ rs) (same_steps t n m few)
added_twice (Noted u note ∷ []) t n m few = ap (λ rs. Noted u note ∷ rs) (same_steps t n m few)
added_twice (Wrote a v ∷ []) t n m few = ap (λ rs. Wrote a v ∷ rs) (same_steps t n m few)
added_twice (q ∷ s ∷ rs) t n m few =
    let some = added_some s rs (Steps t n) in
    behind q (added (s ∷ rs) (Steps t n)) some.0 some.1 (Steps t m) some.2 ∙ ap (λ xs. q ∷ xs) (added_twice (s ∷ rs) t n m few)

-- Chains, with more code behind them or in front of them.
use Rattle.std.proofs.Common.{◌≡◌, ◌≢◌, ℕ, ◌+◌, ◌<◌, ◌≤◌, List, [], ◌∷◌, ◌++◌, Some, refl, sym, subst, ⊎_elim, arith}
use Rattle.core_ir.specs.declared.role.Role.{Role}
use Rattle.core_ir.specs.declared.role.Role.TheVariants as role
use Rattle.core_ir.specs.Outline.{Outline}
use Rattle.core_ir.specs.Flow.{Chain, from_load, from_slot, through, HasRole, Serves, Stands}
use Rattle.core_parts.specs.Pieces.{end_of}
use Rattle.core_parts.proofs.Tails.{all_one, first_there}
use Rattle.core_parts.proofs.Windows.{end_append, in_back, in_front, split, within}

-- ---- code behind

module _ (c d : List Outline) (start : ℕ) where
  role_front : (k : ℕ) (r : Role) → HasRole c start k r → HasRole (c ++ d) start k r
  role_front k r h = record { instruction = h.instruction; there = in_front c d start k h.instruction h.there; is = h.is }

  -- up to the end of the first code nothing changes
  serves_front : (s u r : ℕ) → u ≤ end_of c start → Serves c start s u r → Serves (c ++ d) start s u r
  serves_front s u r inside h = record {
    by = h.by;
    there = in_front c d start s h.by h.there;
    defines = h.defines;
    before = h.before;
    nearest = λ k i here sk ku. ⊎_elim
        (λ (x : Stands c start k i). h.nearest k i x sk ku)
        (λ (x : Stands d (end_of c start) k i). let f : end_of c start ≤ k = x.from in absurd (omega arith))
        (split c d start k i here);
  }

  chain_front : {u r k : ℕ} → u ≤ end_of c start → Chain c start u r k → Chain (c ++ d) start u r k
  chain_front b (from_load s u r p serves has) = from_load s u r p (serves_front s u r b serves) (role_front s (role.Load p) has)
  chain_front b (from_slot s u r n serves has) = from_slot s u r n (serves_front s u r b serves) (role_front s (role.Slot n) has)
  chain_front b (through s u r a k serves has rest) =
      let e : s < u = serves.before in
      through s u r a k (serves_front s u r b serves) (role_front s (role.Cast a) has) (chain_front (omega arith) rest)

  -- ---- code in front

  serves_back : (s u r : ℕ) → Serves d (end_of c start) s u r → Serves (c ++ d) start s u r
  serves_back s u r h =
      let f : end_of c start ≤ s = h.there.from in
      record {
        by = h.by;
        there = in_back c d start s h.by h.there;
        defines = h.defines;
        before = h.before;
        nearest = λ k i here sk ku. ⊎_elim
            (λ (x : Stands c start k i). let b : k < end_of c start = within c start k i x in absurd (omega arith))
            (λ (x : Stands d (end_of c start) k i). h.nearest k i x sk ku)
            (split c d start k i here);
      }

  role_back : (k : ℕ) (r : Role) → HasRole d (end_of c start) k r → HasRole (c ++ d) start k r
  role_back k r h = record { instruction = h.instruction; there = in_back c d start k h.instruction h.there; is = h.is }

  chain_back : {u r k : ℕ} → Chain d (end_of c start) u r k → Chain (c ++ d) start u r k
  chain_back (from_load s u r p serves has) = from_load s u r p (serves_back s u r serves) (role_back s (role.Load p) has)
  chain_back (from_slot s u r n serves has) = from_slot s u r n (serves_back s u r serves) (role_back s (role.Slot n) has)
  chain_back (through s u r a k serves has rest) = through s u r a k (serves_back s u r serves) (role_back s (role.Cast a) has) (chain_back rest)

  pub behind : (r k : ℕ) → Chain d (end_of c start) (end_of d (end_of c start)) r k → Chain (c ++ d) start (end_of (c ++ d) start) r k
  behind r k h = subst (λ u. Chain (c ++ d) start u r k) (sym (end_append c d start)) (chain_back h)

-- ---- one instruction behind

module _ (c : List Outline) (start : ℕ) (i : Outline) where
  here : Stands (c ++ i ∷ []) start (end_of c start) i
  here = in_back c (i ∷ []) start (end_of c start) i (first_there i [] (end_of c start))

  here_has : (r : Role) → i.role ≡ r → HasRole (c ++ i ∷ []) start (end_of c start) r
  here_has r is = record { instruction = i; there = here; is = is }

  serves_now : (r : ℕ) → i.defined ≡ Some r → Serves (c ++ i ∷ []) start (end_of c start) (end_of (c ++ i ∷ []) start) r
  serves_now r is =
      let e : end_of (c ++ i ∷ []) start ≡ end_of c start + 1 = end_append c (i ∷ []) start in
      record {
        by = i;
        there = here;
        defines = is;
        before = omega arith;
        nearest = λ k j at sk ku. absurd (omega arith);
      }

  pub load : (r p : ℕ) → i.role ≡ role.Load p → i.defined ≡ Some r → Chain (c ++ i ∷ []) start (end_of (c ++ i ∷ []) start) r (end_of c start)
  load r p is defines = from_load (end_of c start) (end_of (c ++ i ∷ []) start) r p (serves_now r defines) (here_has (role.Load p) is)

  pub slot : (r s : ℕ) → i.role ≡ role.Slot s → i.defined ≡ Some r → Chain (c ++ i ∷ []) start (end_of (c ++ i ∷ []) start) r (end_of c start)
  slot r s is defines = from_slot (end_of c start) (end_of (c ++ i ∷ []) start) r s (serves_now r defines) (here_has (role.Slot s) is)

  pub cast : (r a k : ℕ) → i.role ≡ role.Cast a → i.defined ≡ Some r → Chain c start (end_of c start) a k → Chain (c ++ i ∷ []) start (end_of (c ++ i ∷ []) start) r k
  cast r a k is defines h = through (end_of c start) (end_of (c ++ i ∷ []) start) r a k (serves_now r defines) (here_has (role.Cast a) is) (chain_front c (i ∷ []) start (omega arith) h)

  serves_over : (s r : ℕ) → i.defined ≢ Some r → Serves c start s (end_of c start) r → Serves (c ++ i ∷ []) start s (end_of (c ++ i ∷ []) start) r
  serves_over s r other h =
      let e : end_of (c ++ i ∷ []) start ≡ end_of c start + 1 = end_append c (i ∷ []) start in
      let b : s < end_of c start = h.before in
      record {
        by = h.by;
        there = in_front c (i ∷ []) start s h.by h.there;
        defines = h.defines;
        before = omega arith;
        nearest = λ k j at sk ku. ⊎_elim
            (λ (x : Stands c start k j). h.nearest k j x sk (within c start k j x))
            (λ (x : Stands (i ∷ []) (end_of c start) k j). all_one (λ k j. j.defined ≢ Some r) (end_of c start) i other k j x)
            (split c (i ∷ []) start k j at);
      }

  over_from : {u r k : ℕ} → u ≡ end_of c start → i.defined ≢ Some r → Chain c start u r k → Chain (c ++ i ∷ []) start (end_of (c ++ i ∷ []) start) r k
  over_from e other (from_load s u r p serves has) =
      from_load s (end_of (c ++ i ∷ []) start) r p (serves_over s r other (subst (λ u. Serves c start s u r) e serves)) (role_front c (i ∷ []) start s (role.Load p) has)
  over_from e other (from_slot s u r n serves has) =
      from_slot s (end_of (c ++ i ∷ []) start) r n (serves_over s r other (subst (λ u. Serves c start s u r) e serves)) (role_front c (i ∷ []) start s (role.Slot n) has)
  over_from e other (through s u r a k serves has rest) =
      let b : s < u = serves.before in
      through s (end_of (c ++ i ∷ []) start) r a k (serves_over s r other (subst (λ u. Serves c start s u r) e serves)) (role_front c (i ∷ []) start s (role.Cast a) has)
      (chain_front c (i ∷ []) start (omega arith) rest)

  pub over : (r k : ℕ) → i.defined ≢ Some r → Chain c start (end_of c start) r k → Chain (c ++ i ∷ []) start (end_of (c ++ i ∷ []) start) r k
  over r k other h = over_from refl other h

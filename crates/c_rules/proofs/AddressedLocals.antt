-- The local of a list whose address is taken.
use Rattle.std.proofs.Common.{◌≡◌, ℕ, zero, suc, true, List, [], ◌∷◌, Option, Some, None, slice_get, slice_set, refl, ap}
use Rattle.c_typed.specs.declared.unit.Local.{Local}
use Rattle.c_rules.specs.Rules.{addressed_at}

-- it is replaced by itself, with its address taken
pub addressed-set : (ls : List Local) (n : ℕ) (l addressed : Local) → slice_get ls n ≡ Some l → addressed ≡ record l { is_addressed = true }
    → addressed_at n ls ≡ slice_set ls n addressed
addressed-set [] n l addressed there is = refl
addressed-set (k ∷ ks) zero l addressed there is = cc
addressed-set (k ∷ ks) (suc n) l addressed there is = ap (λ rest. k ∷ rest) (addressed-set ks n l addressed there is)

-- without such a local nothing changes
pub addressed-none : (ls : List Local) (n : ℕ) → slice_get ls n ≡ None → addressed_at n ls ≡ ls
addressed-none [] n none = refl
addressed-none (k ∷ ks) zero none = cc
addressed-none (k ∷ ks) (suc n) none = ap (λ rest. k ∷ rest) (addressed-none ks n none)

eta : (l : Local) (b : _) → b ≡ l.is_addressed → record l { is_addressed = b } ≡ l
eta l b is = λ i. record l { is_addressed = is i }

-- nor where its address was taken before
pub addressed-same : (ls : List Local) (n : ℕ) (l : Local) → slice_get ls n ≡ Some l → l.is_addressed ≡ true → addressed_at n ls ≡ ls
addressed-same [] n l there was = refl
addressed-same (k ∷ ks) zero l there was =
    let same : true ≡ k.is_addressed = cc in
    ap (λ first. first ∷ ks) (eta k true same)
addressed-same (k ∷ ks) (suc n) l there was = ap (λ rest. k ∷ rest) (addressed-same ks n l there was)

pub ruleset addressed = (addressed-set, addressed-none, addressed-same)

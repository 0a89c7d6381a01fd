-- The readers of the depth below, at each depth.
use Rattle.std.proofs.Common.{◌≡◌, ℕ, zero, suc, ◌-◌, ◌<◌, List, ap, refl, ◌∙◌, arith}
use Rattle.c_readers.specs.inner.Nests.{below}
use Rattle.c_readers.specs.inner.Readers.{readers, nothing}

pub below_zero : (names : List (List ℕ)) (depth : ℕ) → depth ≡ 0 → below names depth ≡ nothing
unfolding below
below_zero names depth is = ap (λ d. below names d) is

below_suc : (names : List (List ℕ)) (depth : ℕ) → below names (suc depth) ≡ readers names depth
unfolding below
below_suc names depth = refl

pub below_more : (names : List (List ℕ)) (depth : ℕ) → 0 < depth → below names depth ≡ readers names (depth - 1)
below_more names depth some = let e : depth ≡ suc (depth - 1) = omega arith in ap (λ d. below names d) e ∙ below_suc names (depth - 1)

-- what holds at a depth behind another holds at each depth that is not 0
pub some_depth : (P : ℕ → Type 0) → ((d : ℕ) → P (suc d)) → (depth : ℕ) → 0 < depth → P depth
some_depth P h zero some = absurd (omega arith)
some_depth P h (suc d) some = h d

pub less_one : (d : ℕ) → d ≡ suc d - 1
less_one d = omega arith

-- The readers of a depth, one by one, by those of the depth below.
use Rattle.std.proofs.Common.{◌≡◌, ℕ, zero, suc, ◌-◌, ◌<◌, Bool, List, None, refl, ap, ◌∙◌, arith}
use Rattle.c_tokens.specs.declared.token.Mark.TheVariants as mark
use Rattle.c_tree.specs.Marks.{Kinds}
use Rattle.c_readers.specs.inner.Nests.{below}
use Rattle.c_readers.specs.inner.NestsLemmas.{some_depth, less_one}
use Rattle.c_readers.specs.inner.Parser.{◌>>=◌, run}
use Rattle.c_readers.specs.inner.Readers as reader
use Rattle.c_readers.specs.inner.Readers.{Readers, readers}

pub declarator_zero : (names : List (List ℕ)) (depth : ℕ) (ts : Kinds) → depth ≡ 0 → (readers names depth).declarator ts ≡ None
unfolding readers
declarator_zero names depth ts is = ap (λ d. (readers names d).declarator ts) is

pub type_word_zero : (names : List (List ℕ)) (depth : ℕ) (ts : Kinds) → depth ≡ 0 → (readers names depth).type_word ts ≡ None
unfolding readers
type_word_zero names depth ts is = ap (λ d. (readers names d).type_word ts) is

pub declarator_some : (names : List (List ℕ)) (depth : ℕ) (ts : Kinds) → 0 < depth → (readers names depth).declarator ts ≡ reader.declarator names (below names depth) (depth - 1) ts
unfolding readers below
declarator_some names depth ts = some_depth (λ d. (readers names d).declarator ts ≡ reader.declarator names (below names d) (d - 1) ts) (λ d. ap (λ n. reader.declarator names (readers names d) n ts) (less_one d)) depth

pub type_word_some : (names : List (List ℕ)) (depth : ℕ) (ts : Kinds) → 0 < depth → (readers names depth).type_word ts ≡ reader.type_word names (below names depth) ts
unfolding readers below
type_word_some names depth ts = some_depth (λ d. (readers names d).type_word ts ≡ reader.type_word names (below names d) ts) (λ d. refl) depth

pub direct_at : (names : List (List ℕ)) (depth : ℕ) (ts : Kinds) → (readers names depth).direct ts ≡ reader.direct names (below names depth) (depth - 1) ts
unfolding readers below
direct_at names zero ts = refl
direct_at names (suc d) ts = ap (λ n. reader.direct names (readers names d) n ts) (less_one d)

pub spec_at : (names : List (List ℕ)) (depth : ℕ) (bodies : Bool) (ts : Kinds) → (readers names depth).spec bodies ts ≡ reader.spec names (below names depth) bodies ts
unfolding readers below
spec_at names zero bodies ts = refl
spec_at names (suc d) bodies ts = refl

pub params_at : (names : List (List ℕ)) (depth : ℕ) (ts : Kinds) → (readers names depth).params ts ≡ reader.params names (readers names depth).spec (readers names depth).declarator (readers names depth).abstract ts
unfolding readers reader.params
params_at names zero ts = refl
params_at names (suc d) ts = refl

-- ---- declarators

module _ (names : List (List ℕ)) (inner : Readers) (limit : ℕ) where
  direct_in_more : (n stars : ℕ) (ts us : Kinds) → 0 < n → run mark.Star ts ≡ (stars, us) → reader.direct_in names inner limit n ts ≡ (reader.direct_behind names inner (reader.named names inner) stars >>= reader.closed names inner limit n stars) us
  unfolding reader.direct_in
  direct_in_more zero stars ts us some is = absurd (omega arith)
  direct_in_more (suc n) stars ts us some is = ap (λ r. (reader.direct_behind names inner (reader.named names inner) r.0 >>= reader.closed names inner limit (suc n) r.0) r.1) is

  direct_in_none : (n : ℕ) (ts : Kinds) → n ≡ 0 → reader.direct_in names inner limit n ts ≡ reader.named names inner ts
  unfolding reader.direct_in
  direct_in_none n ts is = ap (λ k. reader.direct_in names inner limit k ts) is

  -- a name alone
  pub direct_plain : (n : ℕ) (ts us : Kinds) → reader.opened names ts ≡ (n, us) → n ≡ 0 → reader.direct names inner limit ts ≡ reader.named names inner us
  unfolding reader.direct
  direct_plain n ts us is none = ap (λ r. reader.direct_in names inner limit r.0 r.1) is ∙ direct_in_none n us none

  -- something in parentheses
  pub direct_more : (n stars : ℕ) (ts us vs : Kinds) → reader.opened names ts ≡ (n, us) → 0 < n → run mark.Star us ≡ (stars, vs)
      → reader.direct names inner limit ts ≡ (reader.direct_behind names inner (reader.named names inner) stars >>= reader.closed names inner limit n stars) vs
  unfolding reader.direct
  direct_more n stars ts us vs is some starred = ap (λ r. reader.direct_in names inner limit r.0 r.1) is ∙ direct_in_more n stars us vs some starred

-- Tables by register.
use Rattle.std.proofs.Common.{◌≡◌, ◌∙◌, inl, inr, ℕ, ◌<◌, ◌≤◌, List, Option, None, length, replicate, get_or, ap, arith}
use Rattle.std.proofs.lemmas.Bool.{cases_lt}
use Rattle.std.proofs.lemmas.List.{get_or-replicate, length-replicate}
use Rattle.std.proofs.lemmas.Option.{slice_get-get_or, slice_get_past}
use Rattle.std.specs.Option.{option_and_then}
use Rattle.core_ir.specs.inner.Registers.{entry}

abbrev inner : Option (Option ℕ) → Option ℕ
inner o = option_and_then (λ x. x) o

entry_at : (table : List (Option ℕ)) (r : ℕ) → r < length table → entry table r ≡ get_or table r None
entry_at table r within = ap inner (slice_get-get_or table r None within)

entry_past : (table : List (Option ℕ)) (r : ℕ) → length table ≤ r → entry table r ≡ None
entry_past table r past = ap inner (slice_get_past table r past)

pub entry_none : (n r : ℕ) → entry (replicate n None) r ≡ None
entry_none n r = elim (cases_lt r n) [
  | inl low ↦ entry_at (replicate n None) r (omega (arith, length-replicate {A = Option ℕ} n None)) ∙ get_or-replicate n r None None low
  | inr high ↦ entry_past (replicate n None) r (omega (arith, length-replicate {A = Option ℕ} n None))
]

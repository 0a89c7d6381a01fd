-- What follows of jumps and definitions from the numbers of a body.
use Rattle.std.proofs.Common.{ℕ, ◌<◌, ◌≤◌, List, length, IfSome, subst, arith}
use Rattle.std.proofs.lemmas.Option.{IfSome_then}
use Rattle.core_ir.specs.Outline.{Outline}
use Rattle.core_ir.specs.Flow.{Jumps, Stands}
use Rattle.core_ir.specs.Order.{NumbersFit}
use Rattle.core_ir.specs.inner.Found.{DefinesBelow}

module _ (registers slots : ℕ) (code : List Outline) (numbers : (u : ℕ) (i : Outline) → Stands code 0 u i → NumbersFit registers slots (length code) i) where
  pub targets_within : (q l : ℕ) → Jumps code 0 q l → l < length code
  targets_within q l j = subst (λ o. IfSome o (λ l. l < length code)) j.leads (numbers q j.by j.there).target

  pub defines_below : registers ≤ 1024 → DefinesBelow 1024 code
  defines_below few u i there = IfSome_then i.defined (numbers u i there).defined (λ d low. omega arith)

-- A part, and an indirect call.
use Rattle.std.proofs.Common.{◌≡◌, ◌≢◌, inl, ℕ, ◌<◌, ◌≤◌, true, List, [], ◌∷◌, ◌++◌, Option, Some, None, refl, subst, ⊎_elim, arith}
use Rattle.core_ir.specs.declared.role.Role.TheVariants as role
use Rattle.core_ir.specs.Outline.{Outline}
use Rattle.core_ir.specs.Flow.{Chain, HasRole, IsAmong, IsKept, Stands}
use Rattle.core_parts.specs.Outlines.{calling}
use Rattle.core_parts.specs.Pieces.{IsOwned, IsPart, end_of}
use Rattle.core_parts.specs.Places.{Chained, IsLinked, NamesUsed}
use Rattle.core_parts.specs.Theorems.{AreAmong}
use Rattle.core_parts.proofs.Accesses.{among_more}
use Rattle.core_parts.proofs.Tails.{all_one, live_serves, nowhere, owned_none, tail_part}
use Rattle.core_parts.proofs.Windows.{chain_first, chain_in, front_window, split}

module _ (c : List Outline) (start a b : ℕ) (live : List ℕ) (f first : ℕ) (args : List ℕ) (s : Option ℕ) (h : IsPart c start a b live) (is_f : IsAmong live f) (known : AreAmong args live)
    (chain : Chain c start (end_of c start) f first) where
  abbrev base : ℕ
  base = end_of c start

  abbrev whole : List Outline
  whole = c ++ calling f args s ∷ []

  silent : (u : ℕ) (i : Outline) → Stands (calling f args s ∷ []) base u i → i.target ≡ None
  silent = all_one (λ u i. i.target ≡ None) base (calling f args s) refl

  owned : IsOwned (calling f args s ∷ []) base b b
  owned = owned_none (calling f args s) base b refl

  -- the address of the chain's load was defined before it, and registers are defined once
  kept_before : (p : ℕ) → HasRole c start first (role.Load p) → IsKept c start first base p
  kept_before p has j i here from to is =
      let l = (h.is_section.piece true).linked first has.instruction has.there in
      let named : IsAmong has.instruction.used p = subst (λ x. NamesUsed has.instruction.used x) has.is l.named in
      let served = l.served p named in
      let before : served.server < first = served.serves.before in
      let z : p < p = h.is_section.owned.rising served.server j p p served.serves.by i served.serves.there here served.serves.defines is (omega arith) in
      omega arith

  chained : Chained whole start base f
  chained =
      let ends = chain_first chain in
      let high : first < base = ends.1 in
      record {
        first = first;
        chain = chain_in c start whole start (front_window c (calling f args s ∷ []) start (λ q l j from to. nowhere c (calling f args s ∷ []) start a b b live h silent owned q l j)) (omega arith) chain;
        kept = λ p has j i here from to. ⊎_elim
            (λ (x : Stands c start first has.instruction). ⊎_elim
            (λ (y : Stands c start j i). kept_before p (record { instruction = has.instruction; there = x; is = has.is }) j i y from to)
            (λ (y : Stands (calling f args s ∷ []) base j i). all_one (λ j i. i.defined ≢ Some p) base (calling f args s) (λ is. cc) j i y)
            (split c (calling f args s ∷ []) start j i here))
            (λ (x : Stands (calling f args s ∷ []) base first has.instruction). let z : base ≤ first = x.from in absurd (omega arith))
            (split c (calling f args s ∷ []) start first has.instruction has.there);
      }

  pub calls : IsPart whole start a b live
  calls = tail_part c (calling f args s ∷ []) start a b b live h silent owned live
      (λ frame. all_one (λ u i. IsLinked frame whole start u i) base (calling f args s)
      (record {
        served = λ r uses. live_serves c (calling f args s ∷ []) start a b b live h silent owned r base (among_more live f args is_f known r uses) (omega arith) (omega arith);
        fits = chained;
        framed = tt;
        named = tt;
      }))
      (λ r is. inl is)
      (λ r k t is has. all_one (λ u i. i.role ≡ role.StartFn t r → ⊥) base (calling f args s) (λ is. cc) k has.instruction has.there has.is)

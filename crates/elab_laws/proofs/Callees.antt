-- A register that has a place has a chain.
use Rattle.std.proofs.Common.{◌≡◌, ◌≢◌, inl, inr, ℕ, ◌⊎◌, Bool, true, false, not, ◌&&◌, ◌||◌, List, [], ◌∷◌, ◌++◌, reverse, Option, Some, None, refl, ap, sym, subst, ⊎_elim, append_assoc, eq-eqb, ne_eqb}
use Rattle.std.proofs.lemmas.Bool.{cases_eq}
use Rattle.std.proofs.lemmas.List.{reverse-append, reverse-reverse}
use Rattle.std.proofs.lemmas.Option.{same_Some}
use Rattle.std.specs.Prelude.{if◌then◌else◌, nat_eq}
use Rattle.core_ir.specs.declared.instr.Instr.{Instr}
use Rattle.core_ir.specs.declared.instr.Instr.TheVariants.{Cast, GetLocal, Load, SetLocal}
use Rattle.core_ir.specs.Flow.{Chain}
use Rattle.core_ir.specs.Instructions.{defined, outline_of}
use Rattle.core_parts.specs.Pieces.{end_of}
use Rattle.core_parts.specs.Theorems.{PartLaws}
use Rattle.elab_rows.specs.Calls.{defines, has_place, has_place_back, kept, placed}
use Rattle.elab_rows.specs.Made.{Made}
use Rattle.elab_laws.proofs.GoodCalls.{kept_value}
use Rattle.elab_laws.proofs.Lifted.{outlines_append}
use Rattle.elab_laws.specs.Values.{EndsChain, IsValue, outlines}

abbrev SomeChain : List Instr → ℕ → ℕ → Type 0
SomeChain c start r = (k : ℕ) × EndsChain c start r k

turned : (i : Instr) (is : List Instr) → reverse is ++ i ∷ [] ≡ reverse (i ∷ is)
turned i is = sym (reverse-append (i ∷ []) is)

or_case : (a b : Bool) → a || b ≡ true → (a ≡ true) ⊎ (b ≡ true)
or_case true b e = inl refl
or_case false b e = inr e

and_front : (a b : Bool) → a && b ≡ true → a ≡ true
and_front true b e = refl
and_front false b e = absurd (cc)

and_back : (a b : Bool) → a && b ≡ true → b ≡ true
and_back true b e = e
and_back false b e = absurd (cc)

other_register : (o : Option ℕ) (r : ℕ) → not (defines r o) ≡ true → o ≢ Some r
other_register None r e is = cc
other_register (Some d) r e is =
    let same : nat_eq d r ≡ true = eq-eqb d r (same_Some d r is) in
    let no : not true ≡ true = subst (λ b. not b ≡ true) same e in cc

module _ (laws : PartLaws) (start : ℕ) where
  grown : (c : List Instr) (i : Instr) (r : ℕ) → ((k : ℕ) × Chain (outlines c ++ outline_of i ∷ []) start (end_of (outlines c ++ outline_of i ∷ []) start) r k) → SomeChain (c ++ i ∷ []) start r
  grown c i r h = subst (λ o. (k : ℕ) × Chain o start (end_of o start) r k) (sym (outlines_append c (i ∷ []))) h

  over : (c : List Instr) (i : Instr) (r : ℕ) → defined i ≢ Some r → SomeChain c start r → SomeChain (c ++ i ∷ []) start r
  over c i r other h = grown c i r (h.0, laws.chains.over (outlines c) start r h.0 (outline_of i) other h.1)

  other_some : (d r : ℕ) → (d ≡ r → ⊥) → Some d ≢ Some r
  other_some d r ne e = ne (same_Some d r e)

  plain_chain : (i : Instr) (is : List Instr) (r : ℕ) → not (defines r (defined i)) && has_place_back is r ≡ true → (has_place_back is r ≡ true → SomeChain (reverse is) start r) → SomeChain (reverse is ++ i ∷ []) start r
  plain_chain i is r e rest =
      over (reverse is) i r (other_register (defined i) r (and_front (not (defines r (defined i))) (has_place_back is r) e)) (rest (and_back (not (defines r (defined i))) (has_place_back is r) e))

  pub back_chain : (is : List Instr) (r : ℕ) → has_place_back is r ≡ true → SomeChain (reverse is) start r
  back_chain [] r e = absurd (cc)
  back_chain (Load d p t ∷ is) r e = subst (λ c. SomeChain c start r) (turned (Load d p t) is) (⊎_elim
      (λ (same : d ≡ r). grown (reverse is) (Load d p t) r (end_of (outlines (reverse is)) start, laws.chains.load (outlines (reverse is)) start r p (outline_of (Load d p t)) refl (ap Some same)))
      (λ (ne : d ≡ r → ⊥). over (reverse is) (Load d p t) r (other_some d r ne) (back_chain is r (let no : nat_eq d r ≡ false = ne_eqb d r ne in subst (λ b. b || has_place_back is r ≡ true) no e)))
      (cases_eq d r))
  back_chain (GetLocal d s ∷ is) r e = subst (λ c. SomeChain c start r) (turned (GetLocal d s) is) (⊎_elim
      (λ (same : d ≡ r). grown (reverse is) (GetLocal d s) r (end_of (outlines (reverse is)) start, laws.chains.slot (outlines (reverse is)) start r s (outline_of (GetLocal d s)) refl (ap Some same)))
      (λ (ne : d ≡ r → ⊥). over (reverse is) (GetLocal d s) r (other_some d r ne) (back_chain is r (let no : nat_eq d r ≡ false = ne_eqb d r ne in subst (λ b. b || has_place_back is r ≡ true) no e)))
      (cases_eq d r))
  back_chain (Cast d a from to ∷ is) r e = subst (λ c. SomeChain c start r) (turned (Cast d a from to) is) (⊎_elim
      (λ (same : d ≡ r).
      let yes : nat_eq d r ≡ true = eq-eqb d r same in
      let h = back_chain is a (subst (λ b. has_place_back is (if b then a else r) ≡ true) yes e) in
      grown (reverse is) (Cast d a from to) r (h.0, laws.chains.cast (outlines (reverse is)) start r a h.0 (outline_of (Cast d a from to)) refl (ap Some same) h.1))
      (λ (ne : d ≡ r → ⊥).
      let no : nat_eq d r ≡ false = ne_eqb d r ne in
      over (reverse is) (Cast d a from to) r (other_some d r ne) (back_chain is r (subst (λ b. has_place_back is (if b then a else r) ≡ true) no e)))
      (cases_eq d r))
  back_chain (i ∷ is) r e = subst (λ c. SomeChain c start r) (turned i is) (plain_chain i is r e (λ h. back_chain is r h))

  pub place_chain : (c : List Instr) (r : ℕ) → has_place c r ≡ true → SomeChain c start r
  unfolding has_place
  place_chain c r e = subst (λ c. SomeChain c start r) (reverse-reverse c) (back_chain (reverse c) r e)

  -- a value with its place
  pub record IsPlaced (x : Made) (register : ℕ) : Type 0 where
    pub value : IsValue x start register []
    pub first : ℕ
    pub chain : EndsChain x.code start x.result first

  kept_placed : (x : Made) (register : ℕ) → IsValue x start register [] → IsPlaced (kept x) register
  kept_placed x register h =
      let front = x.code ++ SetLocal x.slot x.result ∷ [] in
      let c = laws.chains.slot (outlines front) start x.register x.slot (outline_of (GetLocal x.register x.slot)) refl refl in
      let g = grown front (GetLocal x.register x.slot) x.register (end_of (outlines front) start, c) in
      record {
        value = kept_value laws x start register h;
        first = g.0;
        chain = subst (λ z. EndsChain z start x.register g.0) (append_assoc x.code (SetLocal x.slot x.result ∷ []) (GetLocal x.register x.slot ∷ [])) g.1;
      }

  either_placed : (b : Bool) (x : Made) (register : ℕ) → (b ≡ true → (k : ℕ) × EndsChain x.code start x.result k) → IsValue x start register [] → IsPlaced (if b then x else kept x) register
  either_placed true x register chain h = let c = chain refl in record { value = h; first = c.0; chain = c.1 }
  either_placed false x register chain h = kept_placed x register h

  pub is_placed : (x : Made) (register : ℕ) → IsValue x start register [] → IsPlaced (placed x) register
  is_placed x register h = either_placed (has_place x.code x.result) x register (λ e. place_chain x.code x.result e) h

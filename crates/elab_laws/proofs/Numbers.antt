-- Registers that hold no thread's number.
use Rattle.std.proofs.Common.{◌≡◌, ◌≢◌, ℕ, ◌+◌, ◌-◌, ◌<◌, ◌≤◌, List, [], ◌∷◌, ◌++◌, length, Some, refl, ap, sym, subst, ◌∙◌, ⊎_elim, arith}
use Rattle.std.proofs.lemmas.Bool.{cases_eq, cases_lt}
use Rattle.std.proofs.lemmas.Option.{same_Some}
use Rattle.std.specs.Prelude.{slice_get}
use Rattle.core_ir.specs.declared.instr.Instr.{Instr}
use Rattle.core_ir.specs.declared.role.Role.TheVariants as role
use Rattle.core_ir.specs.Flow.{Stands}
use Rattle.core_ir.specs.Instructions.{defined, outline_of, role_of}
use Rattle.core_ir.specs.Outline.{Outline}
use Rattle.core_parts.specs.Pieces.{IsOwned, IsPart, end_of}
use Rattle.core_parts.specs.Theorems.{PartLaws}
use Rattle.elab_laws.proofs.Lifted.{end_outlines, outlines_append}
use Rattle.elab_laws.specs.Values.{IsNoNumber, outlines}

-- two places that define one register are one
once : (c : List Outline) (start from to k j r : ℕ) (i h : Outline) → IsOwned c start from to → Stands c start k i → Stands c start j h → i.defined ≡ Some r → h.defined ≡ Some r → k ≡ j
once c start from to k j r i h owned at_k at_j is_k is_j = ⊎_elim
    (λ (e : k ≡ j). e)
    (λ (ne : k ≡ j → ⊥). ⊎_elim
    (λ (lt : k < j). let z : r < r = owned.rising k j r r i h at_k at_j is_k is_j lt in absurd (omega arith))
    (λ (le : j ≤ k). let z : r < r = owned.rising j k r r h i at_j at_k is_j is_k (omega arith) in absurd (omega arith))
    (cases_lt k j))
    (cases_eq k j)

module _ (laws : PartLaws) where
  pub append : (c d : List Instr) (place r : ℕ) → IsNoNumber c place r → IsNoNumber d (place + length c) r → IsNoNumber (c ++ d) place r
  append c d place r hc hd k forks =
      let there = subst (λ o. Stands o place k forks.instruction) (outlines_append c d) forks.there in
      ⊎_elim
      (λ (x : Stands (outlines c) place k forks.instruction). hc k (record { instruction = forks.instruction; there = x; is = forks.is; defines = forks.defines }))
      (λ (x : Stands (outlines d) (end_of (outlines c) place) k forks.instruction).
      hd k (record { instruction = forks.instruction; there = subst (λ n. Stands (outlines d) n k forks.instruction) (end_outlines c place) x; is = forks.is; defines = forks.defines }))
      (laws.composition.split (outlines c) (outlines d) place k forks.instruction there)

  -- a part defines only its own registers
  pub outside : (d : List Instr) (place from to r : ℕ) (live : List ℕ) → IsPart (outlines d) place from to live → r < from → IsNoNumber d place r
  outside d place from to r live h low k forks =
      let z : from ≤ r = (h.is_section.owned.owned k r forks.instruction forks.there forks.defines).0 in
      omega arith

  -- what the last instruction defines
  pub last : (c : List Instr) (i : Instr) (place from to r : ℕ) (live : List ℕ) → IsPart (outlines (c ++ i ∷ [])) place from to live → defined i ≡ Some r → role_of i ≢ role.Fork → IsNoNumber (c ++ i ∷ []) place r
  last c i place from to r live h is other k forks =
      let e = end_of (outlines c) place in
      let zero : e - e ≡ 0 = omega arith in
      let alone : Stands (outline_of i ∷ []) e e (outline_of i) = record { from = omega arith; there = subst (λ n. slice_get (outline_of i ∷ []) n ≡ Some (outline_of i)) (sym zero) refl } in
      let mine : Stands (outlines (c ++ i ∷ [])) place e (outline_of i) =
      subst (λ o. Stands o place e (outline_of i)) (sym (outlines_append c (i ∷ []))) (laws.composition.in_back (outlines c) (outline_of i ∷ []) place e (outline_of i) alone) in
      let same : k ≡ e = once (outlines (c ++ i ∷ [])) place from to k e r forks.instruction (outline_of i) h.is_section.owned forks.there mine forks.defines is in
      let there : Stands (outlines (c ++ i ∷ [])) place e forks.instruction = subst (λ n. Stands (outlines (c ++ i ∷ [])) place n forks.instruction) same forks.there in
      let one : outline_of i ≡ forks.instruction = same_Some (outline_of i) forks.instruction (sym mine.there ∙ there.there) in
      other (ap (λ (x : Outline). x.role) one ∙ forks.is)

-- Registers and slots of lines.
use Rattle.std.proofs.Common.{◌≡◌, ℕ, zero, suc, ◌+◌, ◌-◌, ◌<◌, ◌≤◌, List, [], ◌∷◌, Option, Some, None, refl, ap, sym, subst, ◌∙◌, arith}
use Rattle.std.proofs.lemmas.Option.{same_Some, slice_get-map}
use Rattle.std.specs.Option.{option_map}
use Rattle.std.specs.Prelude.{IfSome, slice_get}
use Rattle.core_ir.specs.declared.instr.Instr.{Instr}
use Rattle.core_ir.specs.Flow.{Stands}
use Rattle.core_ir.specs.Instructions.{defined, outline_of}
use Rattle.core_ir.specs.Outline.{Outline}
use Rattle.core_parts.specs.Pieces.{IsOwned}
use Rattle.core_parts.specs.Theorems.{AreNumbered}
use Rattle.elab_rows.specs.Made.{Code}
use Rattle.elab_laws.specs.Fitting.{EachIs, IsFit, IsFitting}
use Rattle.elab_piece_laws.proofs.ListedKinds.{each_append, listing}
use Rattle.elab_piece_laws.specs.Fitting.{IsListedCode}
use Rattle.elab_piece_laws.specs.FittingLaws.{ListingRows}
use Rattle.elab_piece_laws.specs.Lines.{IsFull, outlines}
use Rattle.elab_piece_laws.specs.Numbered.{NumberFits, Numbers}

if_some : (P : ℕ → Type 0) (o : Option ℕ) → ((x : ℕ) → o ≡ Some x → P x) → IfSome o P
if_some P None h = tt
if_some P (Some x) h = h x refl

-- ---- lists

each_at : (P : Instr → Type 0) (code : List Instr) (k : ℕ) (i : Instr) → EachIs P code → slice_get code k ≡ Some i → P i
each_at P [] k i h is = absurd (cc)
each_at P (x ∷ xs) zero i h is = subst P (same_Some x i is) h.0
each_at P (x ∷ xs) (suc k) i h is = each_at P xs k i h.1 is

each_by : (P : Instr → Type 0) (code : List Instr) → ((k : ℕ) (i : Instr) → slice_get code k ≡ Some i → P i) → EachIs P code
each_by P [] h = tt
each_by P (x ∷ xs) h = (h 0 x refl, each_by P xs (λ k i is. h (suc k) i is))

mapped : (o : Option Instr) (i : Outline) → option_map outline_of o ≡ Some i → (x : Instr) × (o ≡ Some x) × (outline_of x ≡ i)
mapped None i is = absurd (cc)
mapped (Some x) i is = (x, refl, same_Some (outline_of x) i is)

pub means : (registers slots start : ℕ) (code : List Instr) → Numbers registers slots code → AreNumbered registers slots (outlines code) start
means registers slots start code h = record {
  defined = λ u i here.
      let m = mapped (slice_get code (u - start)) i (sym (slice_get-map outline_of code (u - start)) ∙ here.there) in
      subst (λ (x : Outline). IfSome x.defined (λ d. d < registers)) m.2 (each_at (NumberFits registers slots) code (u - start) m.0 h m.1).0;
  slot = λ u i here.
      let m = mapped (slice_get code (u - start)) i (sym (slice_get-map outline_of code (u - start)) ∙ here.there) in
      subst (λ (x : Outline). IfSome x.slot (λ s. s < slots)) m.2 (each_at (NumberFits registers slots) code (u - start) m.0 h m.1).1;
}

-- ---- a full expression

owned_defines : (registers : ℕ) (code : List Instr) (place from to k : ℕ) (i : Instr) → IsOwned (outlines code) place from to → to ≤ registers → slice_get code k ≡ Some i → IfSome (defined i) (λ d. d < registers)
owned_defines registers code place from to k i owned few is =
    let e : k ≡ place + k - place = omega arith in
    let there : slice_get (outlines code) k ≡ Some (outline_of i) = slice_get-map outline_of code k ∙ ap (λ o. option_map outline_of o) is in
    let stands : Stands (outlines code) place (place + k) (outline_of i) = record { from = omega arith; there = subst (λ n. slice_get (outlines code) n ≡ Some (outline_of i)) e there } in
    if_some (λ d. d < registers) (defined i) (λ d defines. let b : d < to = (owned.owned (place + k) d (outline_of i) stands defines).1 in omega arith)

pub full_numbered : (P : Instr → Type 0) (registers slots : ℕ) (a : Code) → IsFull a → IsFitting P slots a → IsListedCode (Numbers registers slots) slots registers a
full_numbered P registers slots a full fitting = record {
  grows = λ place first. fitting.grows place 0 first;
  code = λ place first le few.
      let x = a place 0 first in
      let fits = fitting.fits place 0 first le in
      each_by (NumberFits registers slots) x.code (λ k i is. (
        owned_defines registers x.code place 0 x.register k i (full place first).is_section.owned few is,
        (each_at (IsFit P slots) x.code k i fits is).1,
      ));
}

pub numbered_rows : (registers slots : ℕ) → ListingRows (Numbers registers slots) slots registers
numbered_rows registers slots = listing (Numbers registers slots) slots registers (record {
  empty = tt;
  append = each_append (NumberFits registers slots);
  branch = λ x l. ((tt, tt), tt);
  jump = λ l. ((tt, tt), tt);
  enter = ((tt, tt), tt);
  leave = ((tt, tt), tt);
  return = λ a. ((tt, tt), tt);
})

-- The rows, as their laws name them.
use Rattle.std.proofs.Common.{ℕ, ℤ, pos, ◌+◌, true, false, List, [], length, refl}
use Rattle.c_types.specs.declared.ty.FnTy.{FnTy}
use Rattle.core_ir.specs.declared.instr.Instr.TheVariants.{Binary, Const, Unary, PtrAdd}
use Rattle.core_ir.specs.declared.operator.Operator.{Operator}
use Rattle.core_ir.specs.declared.operator.Operator.TheVariants as operator
use Rattle.core_parts.specs.Theorems.{PartLaws}
use Rattle.elab_rows.specs.Calls.{arguments, indirect_code, placed}
use Rattle.elab_rows.specs.Choices.{and_code, conditional_code, or_code, second_arm}
use Rattle.elab_rows.specs.Made.{Code, behind, beyond}
use Rattle.elab_rows.specs.Rows.{binary_code, number, plus_pointer, pointer_difference, pointer_minus, pointer_plus, unary_code}
use Rattle.elab_laws.proofs.Callees.{is_placed}
use Rattle.elab_laws.proofs.GoodCalls.{arguments_values, indirect_done, indirect_value}
use Rattle.elab_laws.proofs.GoodChoices.{and_value, conditional_value, or_value}
use Rattle.elab_laws.proofs.GoodRows.{both_among, combined_value, extended_value, single_value, swapped_among}
use Rattle.elab_laws.specs.Theorems.{IsDone, Keeps, KeepsFirst}
use Rattle.elab_laws.specs.Values.{AreGood, IsGood}

module _ (laws : PartLaws) where
  pub number_good : (v : ℤ) → IsGood (number v)
  number_good v place register slot = single_value laws (λ d. Const d v) place register slot tt refl refl (λ r is. is)

  pub binary_keeps : (o : Operator) → KeepsFirst (binary_code o)
  binary_keeps o a b place register slot more ha hb =
      let x = a place register slot in
      let y = behind place x b in
      combined_value laws (λ d x y. Binary d o x y) x y place register more tt refl refl (both_among x.result y.result more) ha (hb (place + length x.code) x.register x.slot)

  pub unary_keeps : (o : Operator) → Keeps (unary_code o)
  unary_keeps o a place register slot more h = extended_value laws (λ d x. Unary d o x) (a place register slot) place register more tt refl refl (λ r is. is) h

  pub plus_keeps : (n : ℕ) → KeepsFirst (pointer_plus n)
  plus_keeps n a b place register slot more ha hb =
      let x = a place register slot in
      let y = behind place x b in
      combined_value laws (λ d x y. PtrAdd d x y n) x y place register more tt refl refl (both_among x.result y.result more) ha (hb (place + length x.code) x.register x.slot)

  pub plus_pointer_keeps : (n : ℕ) → KeepsFirst (plus_pointer n)
  plus_pointer_keeps n a b place register slot more ha hb =
      let x = a place register slot in
      let y = behind place x b in
      combined_value laws (λ d x y. PtrAdd d y x n) x y place register more tt refl refl (swapped_among x.result y.result more) ha (hb (place + length x.code) x.register x.slot)

  pub minus_keeps : (n : ℕ) → KeepsFirst (pointer_minus n)
  minus_keeps n a b place register slot more ha hb =
      plus_keeps n a (unary_code operator.Subtract b) place register slot more ha (λ p r s. unary_keeps operator.Subtract b p r s [] (hb p r s))

  pub difference_keeps : (n : ℕ) → KeepsFirst (pointer_difference n)
  difference_keeps n a b place register slot more ha hb =
      binary_keeps operator.Divide (binary_code operator.Subtract a b) (number (pos n)) place register slot more (binary_keeps operator.Subtract a b place register slot more ha hb) (number_good (pos n))

  -- ---- choices

  pub and_good : (a b : Code) → IsGood a → IsGood b → IsGood (and_code a b)
  and_good a b ha hb place register slot =
      let x = a place register slot in
      and_value laws x (beyond 1 place x b) place register (ha place register slot) (hb (place + length x.code + 1) x.register x.slot)

  pub or_good : (a b : Code) → IsGood a → IsGood b → IsGood (or_code a b)
  or_good a b ha hb place register slot =
      let x = a place register slot in
      or_value laws x (beyond 2 place x b) place register (ha place register slot) (hb (place + length x.code + 2) x.register x.slot)

  pub conditional_good : (c a b : Code) → IsGood c → IsGood a → IsGood b → IsGood (conditional_code c a b)
  conditional_good c a b hc ha hb place register slot =
      let t = c place register slot in
      let x = beyond 1 place t a in
      let p = place + length t.code + 1 in
      conditional_value laws t x (second_arm p x b) place register (hc place register slot) (ha p t.register t.slot) (hb (p + length x.code + 2) x.register (x.slot + 1))

  -- ---- other calls

  pub indirect_good : (t : FnTy) (c : Code) (cs : List Code) → IsGood c → AreGood cs → IsGood (indirect_code t true c cs)
  indirect_good t c cs hc hs place register slot =
      let l = arguments cs place register slot in
      let x = c (place + length l.code) l.register l.slot in
      let p = is_placed laws (place + length l.code) x l.register (hc (place + length l.code) l.register l.slot) in
      indirect_value laws t l (placed x) place register p.first (arguments_values laws cs place register slot hs) p.value p.chain

  pub indirect_is_done : (t : FnTy) (c : Code) (cs : List Code) → IsGood c → AreGood cs → IsDone (indirect_code t false c cs)
  indirect_is_done t c cs hc hs place register slot =
      let l = arguments cs place register slot in
      let x = c (place + length l.code) l.register l.slot in
      let p = is_placed laws (place + length l.code) x l.register (hc (place + length l.code) l.register l.slot) in
      indirect_done laws t l (placed x) place register p.first (arguments_values laws cs place register slot hs) p.value p.chain

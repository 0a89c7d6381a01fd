-- Where a pointer is read: by the first instruction of its chain.
use Rattle.std.proofs.Common.{◌≡◌, ◌∙◌, ℕ, List, Some, slice_get, sym, ap, subst, arith}
use Rattle.core_ir.specs.declared.role.Role.{Role}
use Rattle.core_ir.specs.declared.role.Role.TheVariants as role
use Rattle.core_ir.specs.Flow.{Chain, HasRole, from_load, from_slot, through}
use Rattle.core_ir.specs.Order.{Chained}
use Rattle.core_ir.specs.Outline.{Outline}
use Rattle.machine.specs.declared.code.Origin.{Origin}
use Rattle.machine.specs.declared.code.Origin.TheVariants as origin
use Rattle.machine.specs.Stands.{IsOrigin}
use Rattle.icode.specs.inner.Sites.{IsOnlyOrigin, IsReadFrom, read_at, read_by, read_from}

module _ (code : List Outline) where
  reads_role : (k : ℕ) (r : Role) → HasRole code 0 k r → read_at code k ≡ read_by r
  reads_role k r has =
      let at : slice_get code k ≡ Some has.instruction = ap (λ n. slice_get code n) (omega arith) ∙ has.there.there in
      ap read_from at ∙ ap read_by has.is

  -- a chain begins with what reads
  begins : {u c first : ℕ} → Chain code 0 u c first → IsOrigin code first (read_at code first)
  begins (from_load s u r p serves has) = subst (IsOrigin code s) (sym (reads_role s (role.Load p) has)) has
  begins (from_slot s u r n serves has) = subst (IsOrigin code s) (sym (reads_role s (role.Slot n) has)) has
  begins (through s u r a k serves has c) = begins c

  origin_reads : (k : ℕ) (o : Origin) → IsOrigin code k o → o ≡ read_at code k
  origin_reads k (origin.Register p) has = sym (reads_role k (role.Load p) has)
  origin_reads k (origin.Slot s) has = sym (reads_role k (role.Slot s) has)

  indirect_same : (c d : ℕ) → role.Indirect c ≡ role.Indirect d → c ≡ d
  indirect_same c d e = cc

  pub only_origin : (u c : ℕ) (o : Origin) → Chained code u c → IsReadFrom code u c o → IsOnlyOrigin code u (role.Indirect c) o
  only_origin u c o chained reads = record {
    is = (chained.first, chained.chain, subst (IsOrigin code chained.first) (sym (reads chained.first chained.chain)) (begins chained.chain));
    one = λ d other e of. origin_reads of.0 other of.2 ∙ sym (reads of.0 of.1);
  }

use Rattle.std.proofs.Common.{arith, rules}
use Rattle.elab_emit.proofs.CopyRows.{copies_done, copies_load_exit, copies_next, copies_store_exit}
use Rattle.elab_emit.proofs.copies.copy_parts.Goals as goal

pub loop-part-preserved : goal.loop-part-preserved
loop-part-preserved c =
    copies_next _ _ _ _ _ _ _ _ c.part-item.result _ _ _ _ _ c.loop-part.invariant (omega arith) c.part-item.is
    c.in_ok-a.ensures.made c.in_ok-store_part.ensures.made c.in_ok-store_part.ensures.sound c.in_ok-k.ensures

pub returns-in_err-a-clause-made : goal.returns-in_err-a-clause-made
returns-in_err-a-clause-made c =
    copies_load_exit _ _ _ _ _ _ _ _ c.part-item.result _ c.in_err-a.field-0.0 _ _ c.loop-part.invariant (omega arith) c.part-item.is
    (search rules) c.in_err-a.ensures.made

pub returns-in_err-store_part-clause-made : goal.returns-in_err-store_part-clause-made
returns-in_err-store_part-clause-made c =
    copies_store_exit _ _ _ _ _ _ _ _ c.part-item.result _ c.in_err-store_part.field-0.0 _ _ _ _ c.loop-part.invariant (omega arith) c.part-item.is
    (search rules) c.in_ok-a.ensures.made c.in_err-store_part.ensures.made

pub returns-clause-made : goal.returns-clause-made
returns-clause-made c = copies_done _ _ _ _ _ _ _ _ _ (omega arith) c.loop-part.invariant

use Rattle.std.proofs.Common.{arith}
use Rattle.elab_emit.proofs.Scalars.{each_on, repeated_on}
use Rattle.elab_emit.proofs.copies.+scalars.Goals as goal

pub push_elements-loop-turn-preserved : goal.push_elements-loop-turn-preserved
push_elements-loop-turn-preserved t c = repeated_on _ _ _ _ _ c.loop-turn.invariant c.in_ok-push_scalars.ensures

pub push_members-loop-member-preserved : goal.push_members-loop-member-preserved
push_members-loop-member-preserved t c =
    each_on _ _ _ _ _ _ c.member-item.result (omega arith) c.member-item.is c.loop-member.invariant c.in_ok-push_scalars.ensures

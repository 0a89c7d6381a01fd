use Rattle.std.proofs.Common.{◌≡◌, drop, length}
use Rattle.elab_statements.specs.inner.Jumps.{AreWithin, closed}
use Rattle.elab_statements.proofs.open.lead.Given as goal

-- the jumps that are left, written into what is there, give the whole
abbrev pub invariant-loop-jump : goal.invariant-loop-jump
invariant-loop-jump l =
    (closed l.code (drop l.jump-index l.jumps) l.end l.next ≡ closed l.initial.code l.jumps l.end l.next)
    × AreWithin (length l.code) (drop l.jump-index l.jumps)

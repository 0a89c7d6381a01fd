use Rattle.std.proofs.Common.{drop}
use Rattle.elab_emit.specs.inner.Copies.{Copies}
use Rattle.elab_emit.proofs.copies.copy_parts.Given as goal

abbrev pub invariant-loop-part : goal.invariant-loop-part
invariant-loop-part l =
    Copies l.from l.to l.p l.q l.initial.out l.parts l.out l.k (drop l.part-index l.parts)

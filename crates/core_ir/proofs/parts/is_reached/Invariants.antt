use Rattle.core_ir.specs.inner.Search.{AreSearched}
use Rattle.core_ir.proofs.parts.is_reached.Given as goal

abbrev pub invariant-loop-next : goal.invariant-loop-next
invariant-loop-next l = AreSearched l.structs l.whole l.part l.found l.next

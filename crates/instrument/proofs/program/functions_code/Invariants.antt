use Rattle.instrument.specs.inner.Places.{AreStanding}
use Rattle.instrument.proofs.program.functions_code.Given as goal

abbrev pub invariant-loop-number : goal.invariant-loop-number
invariant-loop-number l = AreStanding l.program l.classes l.number l.functions

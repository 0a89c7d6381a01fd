use Rattle.instrument.specs.inner.Places.{StandUpto}
use Rattle.instrument.proofs.locals.code_locals.Given as goal

abbrev pub invariant-loop-number : goal.invariant-loop-number
invariant-loop-number l = StandUpto l.function l.number l.locals

use Rattle.std.proofs.Common.{subst}
use Rattle.instrument.specs.inner.Places.{IsLocal}
use Rattle.instrument.proofs.decide.local.Goals as goal

pub returns-in-Some : goal.returns-in-Some
returns-in-Some c = subst (λ o. IsLocal c.args.classes.now c.args.d c.args.v o c.local_code.result) c.in-Some.ensures.value c.local_code.ensures

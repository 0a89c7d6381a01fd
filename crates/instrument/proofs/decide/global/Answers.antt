use Rattle.std.proofs.Common.{subst}
use Rattle.instrument.specs.inner.Places.{IsGlobal}
use Rattle.instrument.proofs.decide.global.Goals as goal

pub returns-in-Some : goal.returns-in-Some
returns-in-Some c = subst (λ o. IsGlobal c.args.classes.now c.args.d c.args.g o c.global_code.result) c.in-Some.ensures.value c.global_code.ensures

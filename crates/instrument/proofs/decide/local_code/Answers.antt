use Rattle.std.proofs.Common.{ap}
use Rattle.machine.specs.declared.code.CodePlace.TheVariants as code
use Rattle.instrument.proofs.decide.local_code.Goals as goal

pub returns : goal.returns
returns c = λ x are. ap (λ k. code.AddrL c.args.d c.args.v c.args.variable.now.offset c.args.variable.now.units k) (c.keeps_bounds.ensures x.program.structs x.class are)

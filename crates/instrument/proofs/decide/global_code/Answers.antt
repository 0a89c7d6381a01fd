use Rattle.std.proofs.Common.{ap}
use Rattle.machine.specs.declared.code.CodePlace.TheVariants as code
use Rattle.instrument.proofs.decide.global_code.Goals as goal

pub returns : goal.returns
returns c = λ x are. ap (λ k. code.AddrG c.args.d c.args.g c.args.variable.now.address c.args.variable.now.units k) (c.keeps_bounds.ensures x.program.structs x.class are)

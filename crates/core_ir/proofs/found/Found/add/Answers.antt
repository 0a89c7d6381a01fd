use Rattle.core_ir.proofs.FoundStructs.{fits, found_more}
use Rattle.core_ir.proofs.found.Found.add.Goals as goal

pub bounds-self-self : goal.bounds-self-self
bounds-self-self c = fits c.args.self.now c.requires c.args.number c.if-place-lt-MOST_STRUCTS.true c.if-not-self-place.true

pub returns-then-not-self-place-clause-found : goal.returns-then-not-self-place-clause-found
returns-then-not-self-place-clause-found c = found_more c.args.self.now c.requires c.args.number c.if-place-lt-MOST_STRUCTS.true c.if-not-self-place.true

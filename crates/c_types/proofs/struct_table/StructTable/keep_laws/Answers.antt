use Rattle.c_types.proofs.Bodies.{units_are_sums}
use Rattle.c_types.proofs.LaidOut.{laid_sound}
use Rattle.c_types.proofs.struct_table.StructTable.keep_laws.Goals as goal

pub returns-clause-sound : goal.returns-clause-sound
returns-clause-sound c = rw (← c.self.view_is) (laid_sound c.self.inside.defs c.self.inside.tags c.self.inside.layouts c.self.invariant)

pub returns-clause-sums : goal.returns-clause-sums
returns-clause-sums c = rw (← c.self.view_is) (units_are_sums c.self.inside.defs c.self.invariant.shallow)

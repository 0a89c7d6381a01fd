use Rattle.c_types.proofs.Bodies as bodies
use Rattle.c_types.proofs.Fitting.{is_member_type_more}
use Rattle.c_types.proofs.theorems.units_stay.Goals as goal

pub returns : goal.returns
returns c = record {
  units = bodies.units_stay;
  member_types = λ defs more extends t is. is_member_type_more defs more (bodies.units_stay defs more extends) extends.longer t is;
}

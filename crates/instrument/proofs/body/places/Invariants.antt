use Rattle.std.proofs.Common.{map}
use Rattle.core_ir.specs.Instructions.{outline_of}
use Rattle.icode.specs.Sites.{KnowsSites}
use Rattle.instrument.specs.inner.Places.{AreMade}
use Rattle.instrument.proofs.body.places.Given as goal

abbrev pub invariant-loop-place : goal.invariant-loop-place
invariant-loop-place l = record {
  known : KnowsSites (map outline_of l.function.body) l.locals l.place l.sites;
  made : AreMade l.program l.function l.classes l.locals l.place l.places;
}

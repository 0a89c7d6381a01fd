use Rattle.std.proofs.Common.{map}
use Rattle.core_ir.specs.inner.Jumps.{AreGreatest, AreLeast}
use Rattle.core_ir.proofs.jumps.Jumps.find_sources.Given as goal

abbrev pub invariant-loop-source : goal.invariant-loop-source
invariant-loop-source g l = record {
  least : AreLeast (map g.I.HasOutline.outline l.code) l.source l.self.least;
  greatest : AreGreatest (map g.I.HasOutline.outline l.code) l.source l.self.greatest;
}

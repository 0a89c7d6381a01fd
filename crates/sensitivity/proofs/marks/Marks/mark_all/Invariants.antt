use Rattle.std.proofs.Common.{List, take}
use Rattle.std.specs.List.{All}
use Rattle.c_types.specs.declared.structs.StructDef.{StructDef}
use Rattle.sensitivity.specs.inner.Marks.{AreMarked, CanMark, Extends, IsMarked}
use Rattle.sensitivity.proofs.marks.Marks.mark_all.Given as goal

abbrev pub invariant-loop-s : goal.invariant-loop-s
invariant-loop-s l = record {
  marked : (defs : List StructDef) → AreMarked defs l.fn.self → All (CanMark defs) l.structs → AreMarked defs l.self × All (IsMarked l.self) (take l.s-index l.structs);
  extends : Extends l.fn.self l.self;
}

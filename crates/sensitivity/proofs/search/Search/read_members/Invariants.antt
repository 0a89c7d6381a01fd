use Rattle.std.proofs.Common.{take}
use Rattle.std.specs.List.{All}
use Rattle.sensitivity.specs.inner.Marks.{Grows, IsRead, IsSearch}
use Rattle.sensitivity.proofs.search.Search.read_members.Given as goal

abbrev pub invariant-loop-member : goal.invariant-loop-member
invariant-loop-member l = record {
  search : IsSearch l.structs l.self;
  grows : Grows l.fn.self l.self;
  read : All (IsRead l.structs l.self l.s) (take l.member-index l.members);
}

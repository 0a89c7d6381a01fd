use Rattle.std.proofs.Common.{◌≡◌, [], drop}
use Rattle.c_types.specs.inner.Layouts.{layout_from, kept_or_none}
use Rattle.c_types.proofs.layout.layout_of.Given as goal

abbrev pub invariant-loop-member : goal.invariant-loop-member
invariant-loop-member l = layout_from (kept_or_none l.layouts) l.units l.offsets l.names (drop l.member-index l.members) ≡ layout_from (kept_or_none l.layouts) 0 [] [] l.members

use Rattle.std.proofs.Common.{◌≡◌, drop}
use Rattle.c_types.specs.Sound.{are_members}
use Rattle.c_types.proofs.struct_table.StructTable.are_members.Given as goal

abbrev pub invariant-loop-member : goal.invariant-loop-member
invariant-loop-member l = are_members l.self (drop l.member-index l.members) ≡ are_members l.self l.members

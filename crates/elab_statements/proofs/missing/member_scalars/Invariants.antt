use Rattle.std.proofs.Common.{◌≡◌, map, take}
use Rattle.elab_pieces.specs.Initialisers.{all_scalars}
use Rattle.elab_statements.proofs.missing.member_scalars.Given as goal

abbrev pub invariant-loop-member : goal.invariant-loop-member
invariant-loop-member l = l.scalars ≡ all_scalars l.structs (map (λ m. m.ty) (take l.member-index l.members))

use Rattle.std.proofs.Common.{◌≡◌, length}
use Rattle.elab_rows.specs.Calls.{has_place}
use Rattle.elab_emit.proofs.places.has_place.Given as goal

-- what is looked for in what is left is what was looked for in the whole
abbrev pub invariant-loop-last : goal.invariant-loop-last
invariant-loop-last l = has_place l.code l.r ≡ has_place l.left l.register

abbrev pub decreases-loop-last : goal.decreases-loop-last
decreases-loop-last l = length l.left

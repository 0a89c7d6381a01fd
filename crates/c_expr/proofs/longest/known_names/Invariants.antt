use Rattle.std.proofs.Common.{◌≡◌, take}
use Rattle.c_expr.proofs.longest.known_names.Given as goal

-- the names so far are known
abbrev pub invariant-loop-name : goal.invariant-loop-name
invariant-loop-name l = l.known ≡ take l.name-index l.name-items

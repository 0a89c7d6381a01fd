use Rattle.std.proofs.Common.{◌≡◌, ◌++◌, ◌-◌, drop}
use Rattle.elab_rows.specs.Scope.{slots_behind, standings}
use Rattle.elab.proofs.frames.local_standings.Given as goal

-- what is there, and what the rest adds
abbrev pub invariant-loop-i : goal.invariant-loop-i
invariant-loop-i l =
    (l.places ++ standings (l.parameters - l.i) l.slots l.frame (drop l.i l.variables) ≡ standings l.parameters 0 0 l.variables)
    × (slots_behind (l.parameters - l.i) l.slots (drop l.i l.variables) ≡ slots_behind l.parameters 0 l.variables)

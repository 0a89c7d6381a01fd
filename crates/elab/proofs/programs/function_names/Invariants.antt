use Rattle.std.proofs.Common.{◌≡◌, ◌++◌, drop, map}
use Rattle.elab_pieces.specs.Program.{definitions, name_of}
use Rattle.elab.proofs.programs.function_names.Given as goal

-- the names so far and those of the rest are all
abbrev pub invariant-loop-item : goal.invariant-loop-item
invariant-loop-item l =
    l.names ++ map (λ f. name_of f.declared) (definitions (drop l.item-index l.items))
    ≡ map (λ f. name_of f.declared) (definitions l.items)

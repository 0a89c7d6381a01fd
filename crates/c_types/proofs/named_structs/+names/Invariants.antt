use Rattle.std.proofs.Common.{◌≡◌, map, drop}
use Rattle.std.specs.List.{list_all}
use Rattle.c_types.specs.Sound.{names_below}
use Rattle.c_types.proofs.named_structs.+names.Given as goal

abbrev pub invariant-function_names_below-loop-param : goal.invariant-function_names_below-loop-param
invariant-function_names_below-loop-param l =
    list_all (λ b. b) (map (names_below l.count) (drop l.param-index l.param-items)) ≡ list_all (λ b. b) (map (names_below l.count) l.param-items)

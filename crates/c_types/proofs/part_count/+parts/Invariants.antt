use Rattle.std.proofs.Common.{◌≡◌, ◌-◌, sum, map, take}
use Rattle.c_types.specs.Parts.{parts}
use Rattle.c_types.proofs.part_count.+parts.Given as goal

abbrev pub invariant-left_behind_function-loop-param :
    goal.invariant-left_behind_function-loop-param
invariant-left_behind_function-loop-param l = l.left ≡ l.initial.left - sum (map parts (take l.param-index l.param-items))

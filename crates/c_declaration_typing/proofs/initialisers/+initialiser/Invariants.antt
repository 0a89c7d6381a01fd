use Rattle.std.proofs.Common.{◌≡◌, ◌+◌, ◌*◌, drop, map}
use Rattle.std.specs.Option.{option_copied}
use denote.Param.Weighed.{most}
use Rattle.c_tree.specs.declared.statement.Init.{size-Init}
use Rattle.c_scope.specs.Walk.{each}
use Rattle.c_scope.specs.inner.Lists.{each_from}
use Rattle.c_declaration_typing.specs.Initialisers.{parts_from, typed_init}
use Rattle.c_declaration_typing.proofs.initialisers.+initialiser.Given as goal

-- Each call is of a part, or of the same tree by a function with a lesser rest.

abbrev pub decreases-initialiser : goal.decreases-initialiser
decreases-initialiser l = 4 * size-Init l.init.now

abbrev pub decreases-braces : goal.decreases-braces
decreases-braces l = 4 * most size-Init l.all.now + 3

abbrev pub decreases-parts : goal.decreases-parts
decreases-parts l = 4 * most size-Init l.all.now + 2

abbrev pub decreases-part : goal.decreases-part
decreases-part l = 4 * size-Init l.init.now + 1

-- what is found and what is left are the whole list
abbrev pub invariant-parts-loop-i : goal.invariant-parts-loop-i
invariant-parts-loop-i l =
    each_from l.found (parts_from l.i (option_copied l.target) (map (typed_init l.is_global) (drop l.i l.all))) l.world
    ≡ each (parts_from 0 (option_copied l.target) (map (typed_init l.is_global) l.all)) l.initial.world

use Rattle.std.proofs.Common.{◌≡◌, drop, map}
use Rattle.c_scope.specs.Walk.{each}
use Rattle.c_scope.specs.inner.Lists.{each_from}
use Rattle.c_declaration_typing.specs.Declarations.{typed_init_declarator}
use Rattle.c_declaration_typing.proofs.declarations.init_declarators.Given as goal

-- what is found and what is left are the whole list
abbrev pub invariant-loop-one : goal.invariant-loop-one
invariant-loop-one l =
    each_from l.found (map (typed_init_declarator l.is_global l.base) (drop l.one-index l.all)) l.world
    ≡ each (map (typed_init_declarator l.is_global l.base) l.all) l.initial.world

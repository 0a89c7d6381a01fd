use Rattle.std.proofs.Common.{◌≡◌, map, take}
use Rattle.c_tree.specs.DeclaredName.{declared_name}
use Rattle.c_parser.proofs.items.declared_names.Given as goal

abbrev pub invariant-loop-declarator : goal.invariant-loop-declarator
invariant-loop-declarator l = l.names ≡ map declared_name (take l.declarator-index l.declarators)

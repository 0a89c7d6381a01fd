use Rattle.std.proofs.Common.{◌≡◌, drop}
use Rattle.c_typing.specs.Sources.{typed_items}
use Rattle.c_typing.proofs.ItemLists.{items_from}
use Rattle.c_typing.proofs.items.items.Given as goal

-- what is found and what is left are the whole list
abbrev pub invariant-loop-i : goal.invariant-loop-i
invariant-loop-i l = items_from l.found l.i (drop l.i l.all) l.world ≡ typed_items 0 l.all l.initial.world

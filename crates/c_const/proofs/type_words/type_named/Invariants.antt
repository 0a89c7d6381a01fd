use Rattle.std.proofs.Common.{◌≡◌, drop}
use Rattle.c_const.specs.Constant.{type_named}
use Rattle.c_const.proofs.type_words.type_named.Given as goal

abbrev pub invariant-loop-entry : goal.invariant-loop-entry
invariant-loop-entry l = type_named (drop l.entry-index l.names) l.name ≡ type_named l.names l.name

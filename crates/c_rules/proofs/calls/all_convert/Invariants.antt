use Rattle.std.proofs.Common.{◌≡◌, drop}
use Rattle.c_rules.specs.Rules.{all_convert}
use Rattle.c_rules.proofs.calls.all_convert.Given as goal

-- what is left decides
abbrev pub invariant-loop-argument : goal.invariant-loop-argument
invariant-loop-argument l = all_convert (drop l.argument-index l.arguments) l.left ≡ all_convert l.arguments l.params

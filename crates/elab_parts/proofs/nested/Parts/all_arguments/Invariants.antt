use Rattle.std.proofs.Common.{drop, map}
use Rattle.elab_parts.specs.inner.Lists.{Reaches, list_of}
use Rattle.elab_rows.specs.Values.{converted_parts, part}
use Rattle.elab_parts.proofs.nested.Parts.all_arguments.Given as goal

-- the code that is there and that of what is left are the whole
abbrev pub invariant-loop-argument : goal.invariant-loop-argument
invariant-loop-argument g l =
    let parts = map (part l.self.scope.now) in
    Reaches l.initial.out (list_of l.initial.out (converted_parts (parts l.arguments) l.params)) l.registers l.out
    (list_of l.out (converted_parts (parts (drop l.argument-index l.arguments)) l.left))

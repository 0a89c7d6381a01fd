use Rattle.std.proofs.Common.{◌≡◌, ◌++◌, List, map, take}
use Rattle.core_ir.specs.declared.program.Function.{Function}
use Rattle.elab_pieces.specs.Functions.{function_code}
use Rattle.elab_pieces.specs.Program.{definitions}
use Rattle.elab.specs.inner.Programs.{HoldsAll, bare}
use Rattle.elab.proofs.programs.add_definitions.Given as goal

-- those so far are there
abbrev pub invariant-loop-item : goal.invariant-loop-item
invariant-loop-item l = record {
  holds : (fs : List Function) → HoldsAll l.initial.functions fs
      → HoldsAll l.functions (fs ++ map (function_code (bare l.initial.scope)) (definitions (take l.item-index l.items)));
  scope : bare l.scope ≡ bare l.initial.scope;
}

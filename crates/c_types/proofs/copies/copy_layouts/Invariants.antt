use Rattle.std.proofs.Common.{◌≡◌, take}
use Rattle.c_types.proofs.copies.copy_layouts.Given as goal

abbrev pub invariant-loop-layout : goal.invariant-loop-layout
invariant-loop-layout l = l.copy ≡ take l.layout-index l.layouts

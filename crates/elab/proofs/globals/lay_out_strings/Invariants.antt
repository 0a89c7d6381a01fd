use Rattle.std.proofs.Common.{drop, map}
use Rattle.elab_pieces.specs.Globals.{string_type}
use Rattle.elab.specs.inner.Programs.{Lays}
use Rattle.elab.proofs.globals.lay_out_strings.Given as goal

abbrev pub invariant-loop-bytes : goal.invariant-loop-bytes
invariant-loop-bytes l =
    Lays l.scope.structs l.initial.layout (map string_type l.strings) l.layout (map string_type (drop l.bytes-index l.strings))

use Rattle.std.proofs.Common.{◌≡◌, ◌∷◌, ◌++◌, drop}
use Rattle.std.specs.List.{flat_map}
use Rattle.c_tree.specs.Written.{piece_of}
use Rattle.c_tree.proofs.printer.token.push_text.Given as goal

-- what is written and what is left to write are the whole string but for its last quote
abbrev pub invariant-loop-byte : goal.invariant-loop-byte
invariant-loop-byte l =
    l.out.items ++ flat_map piece_of (drop l.byte-index l.bytes) ≡ l.fn.out.items ++ 34 ∷ flat_map piece_of l.bytes

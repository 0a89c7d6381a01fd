use Rattle.std.proofs.Common.{◌-◌, ◌≤◌, length, take}
use Rattle.c_tokens.specs.Spell.{ArePieces}
use Rattle.c_tokens.proofs.quoted.pieces_of.Given as goal

abbrev pub invariant-loop-byte : goal.invariant-loop-byte
invariant-loop-byte l = record { inside : l.len ≤ length l.bytes; pieces : ArePieces 34 (take l.len l.bytes) l.spelling }

abbrev pub decreases-loop-byte : goal.decreases-loop-byte
decreases-loop-byte l = length l.bytes - l.len

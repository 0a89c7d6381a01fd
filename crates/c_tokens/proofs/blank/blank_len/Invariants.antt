use Rattle.std.proofs.Common.{◌-◌, ◌≤◌, length, take, drop}
use Rattle.c_tokens.specs.Blank.{IsBlank}
use Rattle.c_tokens.proofs.blank.blank_len.Given as goal

abbrev pub invariant-loop-part : goal.invariant-loop-part
invariant-loop-part l = record { inside : l.len ≤ length l.bytes; blank : IsBlank (take l.len l.bytes) (drop l.len l.bytes) }

abbrev pub decreases-loop-part : goal.decreases-loop-part
decreases-loop-part l = length l.bytes - l.len

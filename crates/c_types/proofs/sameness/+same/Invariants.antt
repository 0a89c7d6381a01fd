use Rattle.std.proofs.Common.{◌≡◌, drop}
use Rattle.c_types.specs.Same.{all_same}
use Rattle.c_types.proofs.sameness.+same.Given as goal

abbrev pub invariant-lists_agree-loop-place : goal.invariant-lists_agree-loop-place
invariant-lists_agree-loop-place l = all_same (drop l.place l.ts) (drop l.place l.us) ≡ all_same l.ts l.us

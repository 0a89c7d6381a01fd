use Rattle.std.proofs.Common.{◌≡◌, drop}
use Rattle.meaning.specs.Records.{is_violated}
use Rattle.trace.proofs.records.some_names_check.Given as goal

-- no stop so far names a check
abbrev pub invariant-loop-i : goal.invariant-loop-i
invariant-loop-i l = is_violated (drop l.i (l.records).records) ≡ is_violated (l.records).records

use Rattle.std.proofs.Common.{◌≡◌, length}
use Rattle.safe_locals.proofs.body.all_unknown.Given as goal

abbrev pub invariant-loop : goal.invariant-loop
invariant-loop l = length l.safe.items ≡ l.counter

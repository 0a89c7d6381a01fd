use Rattle.std.proofs.Common.{◌≡◌, ◌<◌, ℕ, Some, map, slice_get}
use Rattle.machine.specs.declared.code.CodePlace.{CodePlace}
use Rattle.machine.specs.Outlines.{outline_of_code}
use Rattle.machine.specs.ValidCode.{SaysWhere}
use Rattle.icode.specs.Sites.{KnowsSites}
use Rattle.icode.proofs.says.places_say_where.Given as goal

abbrev pub invariant-loop-place : goal.invariant-loop-place
invariant-loop-place l = record {
  known : KnowsSites (map outline_of_code l.function.body) l.function.locals l.place l.sites;
  before : (k : ℕ) (i : CodePlace) → k < l.place → slice_get l.function.body k ≡ Some i → SaysWhere l.function k i;
}

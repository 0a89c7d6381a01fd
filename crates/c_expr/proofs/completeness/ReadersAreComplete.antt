-- The readers are the grammar, at every depth.
use Rattle.c_readers.specs.inner.Readers.{readers}
use Rattle.c_expr.specs.Theorems.{ReadersAreComplete, ReadersReadLongest, ExpressionsHaveOneTree}
use Rattle.c_expr.proofs.completeness.ReadersReadLongest as longest
use Rattle.c_expr.proofs.soundness.PartsFit.{part_shrinks}
use Rattle.c_expr.proofs.soundness.ReadersAreSound.{readers_are_sound}
use Rattle.c_expr.proofs.completeness.Expressions.{expr_step}
use Rattle.c_expr.proofs.completeness.EachDepth as steps

pub readers_are_complete : ReadersAreComplete
readers_are_complete = steps.readers_are_complete (λ names n full. expr_step names n (readers names n) full (part_shrinks names n (readers names n) (readers_are_sound names n)))

pub readers_read_longest : ReadersReadLongest
readers_read_longest = longest.readers_read_longest readers_are_complete readers_are_sound

pub one_tree : ExpressionsHaveOneTree
one_tree = longest.expressions_have_one_tree readers_are_complete

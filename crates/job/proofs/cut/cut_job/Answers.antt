use Rattle.std.proofs.Common.{◌≡◌, ◌≢◌, take, drop, sym, ◌∙◌, arith}
use Rattle.std.specs.Prelude.{codes}
use Rattle.std.proofs.lemmas.Bool.{both_ways}
use Rattle.std.proofs.lemmas.Bool.Decides.{Decides-eqb}
use Rattle.std.proofs.lemmas.List.{take_rest, length-drop}
use Rattle.std.proofs.lemmas.Slice.Eq.{slice_eq-Decides}
use Rattle.job.specs.Lines.{content}
use Rattle.job.proofs.CutIsFound.{passed_more, cut_here}
use Rattle.job.proofs.cut.cut_job.Goals as goal

pub returns-then-eq-clause-within : goal.returns-then-eq-clause-within
returns-then-eq-clause-within c =
    omega (arith, length-drop c.loop-start.start c.args.bytes.now, rw take_rest at c.line_len-len.ensures.within, c.loop-start-test.true)

pub returns-then-eq-clause-found : goal.returns-then-eq-clause-found
returns-then-eq-clause-found c =
    let first = rw take_rest at c.line_len-len.ensures.first in
    let said = rw take_rest at c.content_of.ensures in
    let same : c.content_of.result.now ≡ c.as_slice.result.now = (slice_eq-Decides Decides-eqb _ _ _ c.eq.ensures).0 c.if-eq.true in
    cut_here c.args.bytes.now c.loop-start.start c.line_len-len.result c.loop-start.invariant first (sym said ∙ same ∙ c.as_slice.ensures)

pub loop-start-preserved : goal.loop-start-preserved
loop-start-preserved c =
    let first = rw take_rest at c.line_len-len.ensures.first in
    let said = rw take_rest at c.content_of.ensures in
    let other : content (take c.line_len-len.result (drop c.loop-start.start c.args.bytes.now)) ≢ codes "%%" = λ mark.
    both_ways c.eq.result c.if-eq.false ((slice_eq-Decides Decides-eqb _ _ _ c.eq.ensures).1 (said ∙ mark ∙ sym c.as_slice.ensures)) in
    passed_more c.args.bytes.now c.loop-start.start c.line_len-len.result c.loop-start.invariant (rw take_rest at c.line_len-len.ensures.within) first other

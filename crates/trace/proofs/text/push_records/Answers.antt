use Rattle.std.proofs.Common.{◌+◌, ◌++◌, ◌∙◌, ap, sym, drop, append_assoc, ◌∷◌, []}
use Rattle.trace.specs.Text.{trace_text}
use Rattle.trace.proofs.Places.{drop_from}
use Rattle.trace.proofs.Shown.{text_of_first}
use Rattle.trace.proofs.text.push_records.Goals as goal

pub loop-i-preserved : goal.loop-i-preserved
loop-i-preserved c =
    let all = c.args.records.now.records in
    let entry = c.at.result.now in
    let before = c.loop-i.text.items in
    let rest = trace_text c.args.full (drop (c.loop-i.i + 1) all) in
    ap (λ t. t ++ rest) c.in_ok-push_shown.ensures
    ∙ append_assoc before (trace_text c.args.full (entry ∷ [])) rest
    ∙ ap (λ t. before ++ t) (sym (text_of_first c.args.full entry (drop (c.loop-i.i + 1) all)))
    ∙ ap (λ rs. before ++ trace_text c.args.full rs) (sym (drop_from all c.loop-i.i entry c.at.ensures))
    ∙ c.loop-i.invariant

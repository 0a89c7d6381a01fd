use Rattle.std.proofs.Common.{◌++◌, ◌∙◌, ℕ, ap, codes, decimal}
use Rattle.std.proofs.lemmas.Result.{IfOk-weaker}
use Rattle.levee_top.proofs.RefusalLines.{type_line}
use Rattle.levee_top.proofs.refusal.push_type.Goals as goal

pub returns : goal.returns
returns c =
    let mid = c.push_numbered.new.text.items in
    IfOk-weaker c.push_numbered-2.result _ _
    (λ _ e. type_line c.args.text.now.items mid c.push_numbered-2.new.text.items (codes "refused type ") (decimal c.args.item) (codes " ") (decimal c.args.rule) c.in_ok-push_numbered.ensures (e ∙ ap (λ (n : ℕ). mid ++ (codes " " ++ decimal n)) c.from.ensures)) c.push_numbered-2.ensures

use Rattle.std.proofs.Common.{◌∙◌, ◌++◌, ◌<◌, ◌∷◌, [], ap, arith, length}
use Rattle.std.proofs.lemmas.List.{get_or_default}
use Rattle.sensitivity.proofs.Marking.{included_more}
use Rattle.sensitivity.proofs.askers.Askers.add.Goals as goal

pub returns-in_ok-push-clause-kept : goal.returns-in_ok-push-clause-kept
returns-in_ok-push-clause-kept c =
    let lists = c.args.self.now.lists.items in
    let low : c.args.n < length lists = omega (arith, c.if-n-len.true, c.len.ensures) in
    included_more lists c.args.n c.args.s c.push.new.self low
    (c.in_ok-push.ensures.ok ∙ ap (λ xs. xs ++ c.args.s ∷ []) (c.index_mut.ensures.value ∙ get_or_default lists c.args.n c.index_mut.result.now [] low))

use Rattle.std.proofs.Common.{◌∙◌, map, sym}
use Rattle.std.proofs.lemmas.Option.{same_Some}
use Rattle.core_ir.proofs.Servers.{chain_first}
use Rattle.core_ir.proofs.ServedAndKept.{chained_kept}
use Rattle.core_ir.proofs.order.is_chained.Goals as goal

pub is_kept-requires-clause-before : goal.is_kept-requires-clause-before
is_kept-requires-clause-before g c =
    chain_first (map g.I.HasOutline.outline c.args.code.now) (c.requires.known.chained c.args.register c.in-Some.first (sym c.in-Some.ensures))

pub returns-in-Some : goal.returns-in-Some
returns-in-Some g c =
    let code = map g.I.HasOutline.outline c.args.code.now in
    let chain = c.requires.known.chained c.args.register c.in-Some.first (sym c.in-Some.ensures) in (
      λ is. record { first = c.in-Some.first; chain = chain; kept = c.is_kept.ensures.0 is },
      λ chained. c.is_kept.ensures.1 (chained_kept code c.args.place c.args.register c.in-Some.first (λ k other. same_Some _ _ (c.in-Some.ensures ∙ c.requires.known.chain c.args.register k other)) chained),
    )

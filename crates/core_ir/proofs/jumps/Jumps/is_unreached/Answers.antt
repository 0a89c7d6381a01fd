use Rattle.std.proofs.Common.{map, arith}
use Rattle.std.proofs.lemmas.List.{length-map}
use Rattle.std.proofs.lemmas.Bool.{leb-true, le-leb}
use Rattle.core_ir.proofs.Unbroken.{unreached}
use Rattle.core_ir.proofs.jumps.Jumps.is_unreached.Goals as goal

pub returns : goal.returns
returns g c =
    let same = length-map c.args.code.now g.I.HasOutline.outline in
    let both = unreached (map g.I.HasOutline.outline c.args.code.now) c.args.self.now.least c.requires.jumps.least c.args.place (omega (arith, c.requires.inside)) in
    (λ is. both.0 (omega (arith, leb-true _ _ is)), λ none. le-leb _ _ (omega (arith, both.1 none)))

use Rattle.std.proofs.Common.{refl}
use Rattle.std.proofs.lemmas.Bool.{both_ways}
use Rattle.core_ir.proofs.PartsAreFound.{layer_is_part, searched_first}
use Rattle.core_ir.proofs.parts.has_part.Goals as goal

pub returns-then-has_layer : goal.returns-then-has_layer
returns-then-has_layer c = (λ is. layer_is_part c.args.structs.now c.args.whole.now c.args.part.now (c.has_layer.ensures.0 c.if-has_layer.true), λ part. refl)

pub is_reached-requires-clause-start : goal.is_reached-requires-clause-start
is_reached-requires-clause-start c =
    searched_first c.args.structs.now c.new-found.result c.add_innermost.new.found c.args.whole.now c.args.part.now c.add_innermost.ensures.found c.new-found.ensures.none
    (λ h. both_ways _ c.if-has_layer.false (c.has_layer.ensures.1 h)) c.add_innermost.ensures.added c.add_innermost.ensures.others

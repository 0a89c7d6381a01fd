use Rattle.std.proofs.Common.{◌≡◌, arith}
use Rattle.std.proofs.lemmas.Grind.{replicate_next}
use Rattle.c_tokens.specs.declared.token.Kind.TheVariants.{Mark}
use Rattle.c_tokens.specs.declared.token.Mark.TheVariants as mark
use Rattle.c_tree.specs.Grammar.{star_kinds}
use Rattle.c_tree.proofs.AppendedLemmas.{then, nothing, given, at}
use Rattle.c_tree.proofs.printer.expression.push_stars.Goals as goal

pub loop-init : goal.loop-init
loop-init c = nothing

pub loop-preserved : goal.loop-preserved
loop-preserved c = given (replicate_next c.loop.counter (Mark mark.Star)) (then c.loop.invariant c.in_ok-push_mark.ensures)

pub returns : goal.returns
returns c =
    let inside = c.loop.auto.counter-end in
    let over = c.loop-test.false in
    let same : c.loop.counter ≡ c.args.stars = omega (arith, inside, over) in at star_kinds same c.loop.invariant

use Rattle.std.proofs.Common.{◌∙◌, sym, ap, subst}
use Rattle.icode.specs.inner.Sites.{StaysInside, unit_at}
use Rattle.icode.proofs.sites.Sites.unit_at.Goals as goal

pub unit_in_local-requires-clause-inside : goal.unit_in_local-requires-clause-inside
unit_in_local-requires-clause-inside c = subst (StaysInside c.args.locals.now) c.in-Some.is c.requires.inside

pub returns-in-Some : goal.returns-in-Some
returns-in-Some c = c.unit_in_local.ensures ∙ ap (unit_at c.args.locals.now) (sym c.in-Some.is)

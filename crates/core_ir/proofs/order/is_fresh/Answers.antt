use Rattle.std.proofs.Common.{map, refl, sym, subst}
use Rattle.std.proofs.lemmas.Bool.{not-true, both_ways}
use Rattle.core_ir.specs.inner.Registers.{Defines, IsLast, StartsWith}
use Rattle.core_ir.proofs.Starts.{fresh_below, fresh_from, fresh_none, fresh_number}
use Rattle.core_ir.proofs.order.is_fresh.Goals as goal

pub returns-then-not-is_fork : goal.returns-then-not-is_fork
returns-then-not-is_fork g c =
    let code = map g.I.HasOutline.outline c.args.code.now in
    let f = c.args.function in
    let u = c.args.place in
    let last = subst (λ o. IsLast (Defines code f) u o) (sym c.in-Some.ensures) (c.requires.known.last f) in
    let low = c.requires.known.few f c.in-Some.server (sym c.in-Some.ensures) in
    let starts = subst (λ o. IsLast (StartsWith code f) u o) (sym c.started.ensures) (c.requires.known.started f low) in (
      λ is. fresh_from code u f c.in-Some.server last _ starts (λ has. both_ways _ c.if-not-is_fork.true (c.is_fork.ensures.1 has)) (c.is_below.ensures.0 is),
      λ fresh. c.is_below.ensures.1 (fresh_below code u f c.in-Some.server last _ starts fresh),
    )

pub returns-else-not-is_fork : goal.returns-else-not-is_fork
returns-else-not-is_fork g c =
    let code = map g.I.HasOutline.outline c.args.code.now in
    let f = c.args.function in
    let u = c.args.place in
    let last = subst (λ o. IsLast (Defines code f) u o) (sym c.in-Some.ensures) (c.requires.known.last f) in (
      λ is. absurd (both_ways _ (not-true _ is) c.if-not-is_fork.false),
      λ fresh. absurd (fresh_number code u f c.in-Some.server last fresh (c.is_fork.ensures.0 c.if-not-is_fork.false)),
    )

pub returns-in-None : goal.returns-in-None
returns-in-None g c =
    let code = map g.I.HasOutline.outline c.args.code.now in
    let last = subst (λ o. IsLast (Defines code c.args.function) c.args.place o) (sym c.in-None.ensures) (c.requires.known.last c.args.function) in
    (λ is. fresh_none code c.args.place c.args.function last, λ fresh. refl)

use Rattle.std.proofs.Common.{◌∙◌, sym, arith}
use Rattle.sensitivity.proofs.Complete.{grows_then}
use Rattle.sensitivity.proofs.SearchSteps.{count_few, followed_all, none_past, spread_more}
use Rattle.sensitivity.proofs.search.Search.spread.Goals as goal

pub returns-in_default-clause-followed : goal.returns-in_default-clause-followed
returns-in_default-clause-followed c =
    let search = c.loop-next.self in
    followed_all c.args.structs.now search c.loop-next.next c.loop-next.invariant.search c.loop-next.invariant.followed
    (none_past search.marks.found c.loop-next.next (sym c.found.ensures ∙ c.in_default.is))

pub loop-next-preserved : goal.loop-next-preserved
loop-next-preserved c = record {
  search = c.in_ok-follow.ensures.search;
  grows = grows_then c.args.self.now c.loop-next.self c.follow.new.self c.loop-next.invariant.grows c.in_ok-follow.ensures.grows;
  same = c.in_ok-follow.ensures.same ∙ c.loop-next.invariant.same;
  followed = spread_more c.loop-next.self c.follow.new.self c.loop-next.next c.in-Some.n c.in_ok-follow.ensures.grows c.in_ok-follow.ensures.same (sym c.found.ensures ∙ c.in-Some.is)
      c.in_ok-follow.ensures.followed c.loop-next.invariant.followed;
}

pub returns-clause-followed : goal.returns-clause-followed
returns-clause-followed c =
    let search = c.loop-next.self in
    let few = count_few c.args.structs.now search c.loop-next.invariant.search in
    followed_all c.args.structs.now search c.loop-next.next c.loop-next.invariant.search c.loop-next.invariant.followed (omega (arith, few, c.loop-next-test.false, c.len-next-end.ensures))

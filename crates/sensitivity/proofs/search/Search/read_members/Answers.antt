use Rattle.std.proofs.Common.{take, sym, subst}
use Rattle.std.proofs.lemmas.List.{take_all}
use Rattle.std.proofs.lemmas.List.Elements.{All-more, All-same, All-weaker}
use Rattle.sensitivity.specs.inner.Marks.{IsRead}
use Rattle.sensitivity.proofs.Complete.{grows_then, read_kept}
use Rattle.sensitivity.proofs.SearchSteps.{member_at}
use Rattle.sensitivity.proofs.search.Search.read_members.Goals as goal

pub read_member-requires-clause-member : goal.read_member-requires-clause-member
read_member-requires-clause-member c = member_at c.args.structs.now c.args.s c.args.members.now c.requires.body c.loop-member.member-index c.member-item.result c.loop-member-test.true c.member-item.is

pub loop-member-preserved : goal.loop-member-preserved
loop-member-preserved c =
    let defs = c.args.structs.now in
    let new = c.read_member.new.self in
    record {
      search = c.in_ok-read_member.ensures.search;
      grows = grows_then c.args.self.now c.loop-member.self new c.loop-member.invariant.grows c.in_ok-read_member.ensures.grows;
      read = All-more (IsRead defs new c.args.s) c.args.members.now c.loop-member.member-index c.member-item.result c.loop-member-test.true
          (All-weaker (IsRead defs c.loop-member.self c.args.s) (IsRead defs new c.args.s) (λ m r. read_kept defs c.loop-member.self new c.args.s m c.in_ok-read_member.ensures.grows r)
          (take c.loop-member.member-index c.args.members.now) c.loop-member.invariant.read)
          (subst (IsRead defs new c.args.s) c.member-item.is c.in_ok-read_member.ensures.read);
    }

pub returns-clause-read : goal.returns-clause-read
returns-clause-read c =
    All-same (IsRead c.args.structs.now c.loop-member.self c.args.s) c.args.members.now (take c.loop-member.member-index c.args.members.now)
    (sym (take_all c.loop-member.member-index c.args.members.now c.loop-member-test.false)) c.loop-member.invariant.read

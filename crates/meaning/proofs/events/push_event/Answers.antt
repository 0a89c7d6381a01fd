use Rattle.std.proofs.Common.{rules, ◌≡◌, length, vec_len}
use Rattle.meaning.proofs.BlockLemmas.{grown}
use Rattle.meaning.proofs.events.push_event.Goals as goal

pub returns-in_ok-push-in-Some-clause-ok : goal.returns-in_ok-push-in-Some-clause-ok
returns-in_ok-push-in-Some-clause-ok c =
    let long : vec_len c.args.blocks.now ≡ length c.args.blocks.now.items = search rules in
    let last = c.in-Some.ensures.item.3 in
    rw long (grown c.args.blocks.now.items c.in-Some.last.now c.args.item c.push.new.self last.0 (rw long at last.1 c.in-Some.last.now)
    c.if-last_mut-eq1.true c.in_ok-push-in-Some.ensures.ok)

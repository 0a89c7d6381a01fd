use Rattle.std.proofs.Common.{◌≡◌, ◌+◌, [], ◌∷◌, ◌++◌, length, map, Some, sym, ap, ◌∙◌}
use Rattle.std.proofs.lemmas.List.{length_push}
use Rattle.system.specs.State.{thread_of}
use Rattle.system.proofs.Systems.{opened_more, seats_push}
use Rattle.system.proofs.run.open_threads.Goals as goal

pub loop-n-preserved : goal.loop-n-preserved
loop-n-preserved c =
    let code = c.args.code.now in
    let before = c.loop-n.seats.items in
    let t = c.in_ok-open.field-0 in
    let invariant = c.loop-n.invariant in
    let items : c.push.new.self.items ≡ before ++ Some t ∷ [] = c.in_ok-push.ensures.items in
    record {
      threads =
          ap (map thread_of) items
          ∙ opened_more code before c.loop-n.n t invariant.threads (ap (λ x. x.thread) c.in_ok-open.ensures.opened);
      count = ap length items ∙ length_push before (Some t) ∙ ap (λ k. k + 1) invariant.count;
      each =
          rw items (seats_push code before (Some t) invariant.each
          (ap (λ x. x.number) c.in_ok-open.ensures.opened ∙ sym invariant.count, c.in_ok-open.ensures.sound));
    }

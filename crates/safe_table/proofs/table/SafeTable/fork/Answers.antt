use Rattle.std.proofs.Common.{ℕ, sym, ap, ◌∙◌, subst, arith}
use Rattle.safe_table.specs.declared.history.StoreSize.{StoreSize}
use Rattle.std.specs.Prelude.{Bool, cond, is_none}
use Rattle.safe_table.specs.Rule.{IsSize}
use Rattle.safe_table.specs.inner.Plays.{ThreadIs}
use Rattle.safe_table.proofs.ThreadsForked.{forks}
use Rattle.safe_table.proofs.Whole.{or_false, held_of, belongs, whole_again, left_of, left_here, none_is, thread_is, crowded_now}
use Rattle.safe_table.proofs.table.SafeTable.fork.Goals as goal

pub fetch_add-found-requires : goal.fetch_add-found-requires
fetch_add-found-requires c =
    let whole = c.seat.invariant in
    let b = belongs c.seat.inside.seat.me c.seat.view_is c.requires.own c.self.view_is c.self.invariant.0 in
    let long = c.self.invariant.1 in (
      b.ids,
      omega arith,
      forks _ _ _ _ _ (held_of c.seat.inside.number c.seat.inside.seat.me.0) whole.live whole.held
          (c.added.ensures ∙ (λ i. cond (sym whole.crowded_is i) 0 1))
          (subst IsSize (sym c.self.invariant.0) c.self.invariant.2),
    )

pub thread_found-thread-requires : goal.thread_found-thread-requires
thread_found-thread-requires c =
    let done = c.fetch_add-found.ensures.2.1 (held_of c.seat.inside.number c.seat.inside.seat.me.0) c.seat.invariant.held in
    let b = belongs c.seat.inside.seat.me c.seat.view_is c.requires.own c.self.view_is c.self.invariant.0 in
    let size = subst IsSize (sym (b.size_is ∙ c.self.invariant.0)) c.self.invariant.2 in
    let few_threads = size.most_threads in
    let bound = done.3 in
    omega arith

pub invariant_of-seat : goal.invariant_of-seat
invariant_of-seat c =
    let whole = c.seat.invariant in
    let found : ℕ = c.fetch_add-found.result in
    let done = c.fetch_add-found.ensures.2.1 (held_of c.seat.inside.number c.seat.inside.seat.me.0) whole.held in
    let b = belongs c.seat.inside.seat.me c.seat.view_is c.requires.own c.self.view_is c.self.invariant.0 in
    let size = b.size_is ∙ c.self.invariant.0 in
    let told : ThreadIs c.self.inside.size c.seat.inside.crowded found done.0 =
    subst (λ (p : StoreSize × Bool). ThreadIs p.0 p.1 found done.0) (λ i. (size i, whole.crowded_is i)) done.2 in
    let same = thread_is c.self.inside.size c.seat.inside.crowded found done.0 c.thread_found-thread.result told c.thread_found-thread.ensures in
    whole_again whole c.fetch_add-found.ensures.2.0 (omega arith)
    (or_false _) (crowded_now c.self.inside.size c.seat.inside.crowded found done.0 told ∙ (ap is_none same ∙ none_is c.is_none-seat-inside.result c.thread_found-thread.result c.is_none-seat-inside.ensures)) done.1

pub returns-clause-left : goal.returns-clause-left
returns-clause-left c = left_here c.fetch_add-found.new.seat.me (invariant_of-seat c) ∙ sym (left_of c.seat.view_is c.seat.invariant)

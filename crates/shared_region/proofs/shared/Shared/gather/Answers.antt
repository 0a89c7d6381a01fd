use Rattle.std.proofs.Common.{rules, ◌≡◌, ◌<◌, [], ◌∷◌, ◌++◌, get_or, sym, ap, ◌∙◌, subst, append_assoc}
use Rattle.std.specs.Prelude.{All}
use Rattle.std.proofs.lemmas.List.Elements.{All-cons}
use Rattle.safe_table.specs.Seat.{SeatState, StoreName, Drafting, Gathered, Covers}
use Rattle.shared_region.proofs.Seats.{all_front, no_more, found_at, blank, still, covered}
use Rattle.shared_region.proofs.shared.Shared.gather.Goals as goal

pub loop-next-preserved : goal.loop-next-preserved
loop-next-preserved c =
    let was = c.loop-next.invariant.done in
    let next : SeatState = c.in-Some-pop.next in
    let cut : c.loop-next.seats.items ≡ c.pop-in-loop-next.new.self.items ++ next ∷ [] = c.in-Some-pop.ensures.items in
    let is : ◌≡◌ {A = Drafting} c.next.inside.seat (blank next) = (λ i. record { seat = c.next.view_is i; draft = c.next.invariant i }) in
    record {
      same = c.gather_next-all.ensures.store ∙ c.self.view_is;
      whole = c.gather_next-all.ensures.whole;
      own = all_front (λ (s : SeatState). s.store ≡ c.args.self.now) c.pop-in-loop-next.new.self.items (next ∷ []) (subst (All (λ (s : SeatState). s.store ≡ c.args.self.now)) cut c.loop-next.invariant.own);
      done = (
        next ∷ was.0,
        was.1 ∙ (ap (λ z. z ++ was.0) cut ∙ append_assoc c.pop-in-loop-next.new.self.items (next ∷ []) was.0),
        All-cons (λ s. Gathered c.gather_next-all.result (blank s)) next was.0 (subst (Gathered c.gather_next-all.result) is c.gather_next-all.ensures.has)
            (λ k d l. still c.loop-next.all c.gather_next-all.result (get_or was.0 k d) (was.2 k d l) c.gather_next-all.ensures.seen c.gather_next-all.ensures.held),
      );
    }

pub returns-clause-covers : goal.returns-clause-covers
returns-clause-covers c =
    let was = c.loop-next.invariant.done in
    let none_left : c.loop-next.seats.items ≡ [] = no_more c.loop-next.seats.items (search rules) in
    let all_done : c.args.seats.items ≡ was.0 = was.1 ∙ ap (λ z. z ++ was.0) none_left in
    subst (All (Covers c.loop-next.all.seen)) (sym all_done) (λ k d l. covered c.loop-next.all (get_or was.0 k d) c.loop-next.invariant.whole (was.2 k d l))

pub returns-clause-named : goal.returns-clause-named
returns-clause-named c k call at =
    subst (λ (s : StoreName). call.by < s.size.threads) c.loop-next.invariant.same (c.loop-next.invariant.whole.named k call (found_at c.loop-next.all.seen k call at))

pub returns-clause-whole : goal.returns-clause-whole
returns-clause-whole c all j call at = all call.by (returns-clause-named c j call at)

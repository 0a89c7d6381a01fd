use Rattle.std.proofs.Common.{◌≡◌, ℕ, ◌+◌, [], ◌∷◌, List, length, sym, ap, ◌∙◌, subst, arith, length-append, below_more}
use Rattle.std.specs.Prelude.{Some, slice_get}
use Rattle.safe_table.specs.Seat.{SeatState, Drafting, Opening, fresh_seat}
use Rattle.shared_region.proofs.Seats.{get_snoc_old, get_snoc_new}
use Rattle.shared_region.proofs.shared.deal.Goals as goal

pub loop-number-preserved : goal.loop-number-preserved
loop-number-preserved c =
    let was = c.loop-number.invariant in
    let made : SeatState = c.deal-seat.result.seat in
    let made_is : made ≡ fresh_seat c.args.table.now c.loop-number._number = ap (λ (d : Drafting). d.seat) c.deal-seat.ensures.fresh ∙ ap (fresh_seat c.args.table.now) was.given in
    record {
      own = ap (λ (o : Opening). o.store) c.deal-seat.ensures.next;
      given = ap (λ (o : Opening). o.given) c.deal-seat.ensures.next ∙ ap (λ (n : ℕ). n + 1) was.given;
      all = was.all;
      count = ap length c.in_ok-push.ensures.items ∙ omega (arith, length-append c.loop-number.seats.items (made ∷ []), was.count);
      seats = below_more _ _
          (λ k l. subst (λ (z : List SeatState). slice_get z k ≡ Some (fresh_seat c.args.table.now k)) (sym c.in_ok-push.ensures.items) (get_snoc_old c.loop-number.seats.items made (fresh_seat c.args.table.now k) k (was.seats k l)))
          (subst (λ (z : List SeatState × ℕ). slice_get z.0 z.1 ≡ Some (fresh_seat c.args.table.now c.loop-number._number)) (λ i. (sym c.in_ok-push.ensures.items i, was.count i)) (get_snoc_new c.loop-number.seats.items made ∙ ap Some made_is));
    }

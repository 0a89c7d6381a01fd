-- Lists of seats, and seats that were gathered.
use Rattle.std.proofs.Common.{◌≡◌, ℕ, zero, suc, List, [], ◌∷◌, ◌++◌, length, refl, subst, arith, length-append}
use Rattle.std.specs.Prelude.{All, Some, slice_get}
use Rattle.std.proofs.lemmas.List.{get_or_append_left}
use mathlib.Core.List.{IsPrefix, append_assoc}
use mathlib.Core.Option.{some}
use lib.ListN.{get_elem?}
use Rattle.std.proofs.Common.{sym, ap, ◌∙◌}
use Rattle.safe_table.specs.declared.view.Draft.TheVariants.{Blank}
use Rattle.safe_table.specs.declared.view.Held.{Held}
use Rattle.safe_table.specs.Seat.{SeatState, Drafting, GatherState, Gathered, IsGathering, Covers, held_by}

module _ {A : Type 0} where
  pub get_snoc_old : (l : List A) (a b : A) (k : ℕ) → slice_get l k ≡ Some b → slice_get (l ++ a ∷ []) k ≡ Some b
  get_snoc_old [] a b k e = absurd (cc)
  get_snoc_old (x ∷ xs) a b zero e = e
  get_snoc_old (x ∷ xs) a b (suc k) e = get_snoc_old xs a b k e

  pub get_snoc_new : (l : List A) (a : A) → slice_get (l ++ a ∷ []) (length l) ≡ Some a
  get_snoc_new [] a = refl
  get_snoc_new (x ∷ xs) a = get_snoc_new xs a

  pub all_front : (P : A → Type 0) (xs ys : List A) → All P (xs ++ ys) → All P xs
  all_front P xs ys all k d l = subst P (get_or_append_left xs ys d k l) (all k d (let h = length-append xs ys in omega arith))

  pub no_more : (l : List A) → length l ≡ 0 → l ≡ []
  no_more [] e = refl
  no_more (x ∷ xs) e = absurd (omega arith)

  pub found_at : (l : List A) (k : ℕ) (a : A) → slice_get l k ≡ Some a → get_elem? l k ≡ some a
  found_at [] k a e = absurd (cc)
  found_at (x ∷ xs) zero a e = cc
  found_at (x ∷ xs) (suc k) a e = found_at xs k a e

  prefix_trans : (xs ys zs : List A) → IsPrefix xs ys → IsPrefix ys zs → IsPrefix xs zs
  prefix_trans xs ys zs p q = (p.0 ++ q.0, sym (append_assoc xs p.0 q.0) ∙ (ap (λ (l : List A). l ++ q.0) p.1 ∙ q.1))

-- a seat between two calls has written nothing
abbrev pub blank : SeatState → Drafting
blank s = record { seat = s; draft = Blank }

-- who was gathered still is, where more are
pub still : (g g' : GatherState) (s : SeatState) → Gathered g (blank s) → IsPrefix g.seen g'.seen → ((k : ℕ) (x : Held) → get_elem? g.held k ≡ some x → get_elem? g'.held k ≡ some x) → Gathered g' (blank s)
still g g' s has more held = (prefix_trans s.seen g.seen g'.seen has.0 more, (has.1.0, held has.1.0 (held_by (blank s)) has.1.1))

-- the calls of a seat that was gathered
pub covered : (g : GatherState) (s : SeatState) → IsGathering g → Gathered g (blank s) → Covers g.seen s
covered g s whole has = (has.0, whole.mine has.1.0 (held_by (blank s)) has.1.1)

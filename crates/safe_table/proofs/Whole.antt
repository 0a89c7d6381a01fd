-- From a step to a seat's call: what the seat's owner sees of it, and that the seat is whole again.
use Rattle.std.proofs.Common.{◌≡◌, ℕ, ◌+◌, ◌-◌, ◌*◌, ◌<◌, Bool, false, ◌||◌, true, [], ◌∷◌, ◌++◌, sym, refl, ap, ◌∙◌, subst, arith, lt_of_not-le}
use Rattle.std.specs.Prelude.{Option, None, Some, is_none, is_some, not}
use mathlib.Core.Logic.{dite}
use native.Mathlib.Decide.{dec_le}
use Rattle.atomic_table.specs.Seated.{TableId}
use Rattle.meaning.specs.declared.action.Action.{Action}
use Rattle.meaning.specs.declared.action.Action.TheVariants.{Alloc, Fork}
use Rattle.meaning.specs.declared.action.Reply.{Reply}
use Rattle.meaning.specs.declared.action.Reply.TheVariants.{Slot, Thread}
use Rattle.safe_table.specs.declared.history.StoreCall.{StoreCall}
use Rattle.safe_table.specs.declared.history.StoreSize.{StoreSize}
use Rattle.safe_table.specs.declared.view.Draft.TheVariants.{Blank}
use Rattle.safe_table.specs.declared.view.Held.{Held}
use Rattle.safe_table.specs.declared.view.View.{View}
use Rattle.safe_table.specs.History.{call, put_weight, puts}
use Rattle.safe_table.specs.Rule.{is_late, any_late, is_crowded, any_crowded, next_record}
use Rattle.safe_table.specs.Seat.{StoreName, SeatCall, Drafting, puts_left, next_number}
use Rattle.safe_table.specs.inner.Plays.{Sat, Calls, SlotIs, ThreadIs}
use Rattle.safe_table.specs.inner.Seats.{own, seat_state, drafting, IsWhole}
use Rattle.safe_table.specs.inner.Views.{draft_in}
use Rattle.safe_table.proofs.HistoryLemmas.{puts-snoc}
use Rattle.safe_table.proofs.NumbersWith.{late-snoc, crowded-snoc}

-- the number that a whole seat holds
abbrev pub held_of : ℕ → View → Held
held_of n v = record { number = n; mine = own v; draft = draft_in v.held }

-- a seat that belongs to the store whose table has this key
pub record Belongs (id tid : TableId) (m : Sat) (key : StoreSize) (name : StoreName) : Type 0 where
  pub ids : id ≡ tid
  pub size_is : m.0.size ≡ key
  pub named : name.size ≡ key

pub belongs : {id tid : TableId} {n : ℕ} (m : Sat) {now : Drafting} {size key : StoreSize} {name : StoreName} → drafting id n m ≡ now → now.seat.store ≡ name
    → ◌≡◌ {A = StoreName} (record { table_id = tid; size = size }) name → key ≡ size → Belongs id tid m key name
belongs {id} {tid} {n} m {now} {size} {key} {name} seat own store is =
    let same : ◌≡◌ {A = StoreName} (record { table_id = id; size = m.0.size }) (record { table_id = tid; size = size }) = ap (λ (d : Drafting). d.seat.store) seat ∙ (own ∙ sym store) in
    record {
      ids = ap (λ (s : StoreName). s.table_id) same;
      size_is = ap (λ (s : StoreName). s.size) same ∙ sym is;
      named = sym (ap (λ (s : StoreName). s.size) store) ∙ sym is;
    }

-- the seat's last step was the call
pub seat_called : {id id' : TableId} {n : ℕ} (m w : Sat) {now : Drafting} {a : Action} {r : Reply} {p b : ℕ} → drafting id n m ≡ now → id' ≡ id → Calls m.0 w.0 (held_of n m.0) (call n a r p b)
    → SeatCall now.seat (seat_state id' n w) a r p b
seat_called {id} {id'} {n} m w {now} {a} {r} {p} {b} seat ids k =
    let c : StoreCall = call n a r p b in
    let own_is : own w.0 ≡ own m.0 ++ c ∷ [] = ap (λ (v : View). own v) (λ i. record w.0 { held = k.held i }) in
    subst (λ (d : Drafting). SeatCall d.seat (seat_state id' n w) a r p b) seat record {
      between = k.between;
      longer = k.longer;
      seen = k.seen;
      legal = k.legal;
      mine = own_is;
      all_mine = k.mine ∙ sym own_is;
      store = (λ i. record { table_id = ids i; size = k.size_is i });
      number = refl;
    }

pub or_false : (b : Bool) → (b || false) ≡ b
or_false true = refl
or_false false = refl

-- the seat is whole again
pub whole_again : {n left left' : ℕ} {late late' crowded crowded' : Bool} {m w : Sat} {a : Action} {r : Reply} {p b : ℕ} → IsWhole n left late crowded m → w.1 ≡ m.1 → left' + put_weight a ≡ left
    → (late || is_late a r) ≡ late' → (crowded || is_crowded a r) ≡ crowded' → Calls m.0 w.0 (held_of n m.0) (call n a r p b) → IsWhole n left' late' crowded' w
whole_again {n} {left} {left'} {late} {late'} {crowded} {crowded'} {m} {w} {a} {r} {p} {b} whole out less late_now crowded_now k =
    let c : StoreCall = call n a r p b in
    let own_is : own w.0 ≡ own m.0 ++ c ∷ [] = ap (λ (v : View). own v) (λ i. record w.0 { held = k.held i }) in
    let blank : draft_in w.0.held ≡ Blank = ap draft_in k.held in
    let was = whole.left_is in
    let added : puts (own w.0) ≡ puts (own m.0) + put_weight a = ap puts own_is ∙ puts-snoc (own m.0) c in
    let quota : w.0.size.quota ≡ m.0.size.quota = ap (λ (z : StoreSize). z.quota) k.size_is in
    let threads : w.0.size.threads ≡ m.0.size.threads = ap (λ (z : StoreSize). z.threads) k.size_is in
    let few = whole.few in
    record {
      none_out = out ∙ whole.none_out;
      live = k.live;
      held = k.held ∙ (λ i. record { number = n; mine = sym own_is i; draft = sym blank i } ∷ []);
      left_is = omega arith;
      few = omega arith;
      late_is = ap any_late own_is ∙ (late-snoc (own m.0) c ∙ (ap (λ t. t || is_late a r) whole.late_is ∙ late_now));
      crowded_is = ap any_crowded own_is ∙ (crowded-snoc (own m.0) c ∙ (ap (λ t. t || is_crowded a r) whole.crowded_is ∙ crowded_now));
    }

-- after a call that is no put, and tells of no limit
pub whole_quiet : {n left : ℕ} {late crowded : Bool} {m w : Sat} {a : Action} {r : Reply} {p b : ℕ} → IsWhole n left late crowded m → w.1 ≡ m.1 → put_weight a ≡ 0 → is_late a r ≡ false → is_crowded a r ≡ false
    → Calls m.0 w.0 (held_of n m.0) (call n a r p b) → IsWhole n left late crowded w
whole_quiet {n} {left} {late} {crowded} {m} {w} {a} {r} {p} {b} whole out none early free k =
    whole_again whole out (omega arith) (ap (λ t. late || t) early ∙ or_false late) (ap (λ t. crowded || t) free ∙ or_false crowded) k

pub blank_after : (w : Sat) {v : View} {x : Held} {c : StoreCall} → Calls v w.0 x c → draft_in w.0.held ≡ Blank
blank_after w k = ap draft_in k.held

-- the puts that are left, as a number
pub left_of : {n left : ℕ} {late crowded : Bool} {id : TableId} {m : Sat} {now : Drafting} → drafting id n m ≡ now → IsWhole n left late crowded m → puts_left now.seat ≡ left
left_of {n} {left} {late} {crowded} {id} {m} {now} seat whole = let is = whole.left_is in let here : m.0.size.quota - puts (own m.0) ≡ left = omega arith in
    subst (λ (d : Drafting). puts_left d.seat ≡ left) seat here

pub left_here : {n left : ℕ} {late crowded : Bool} (m : Sat) → IsWhole n left late crowded m → m.0.size.quota - puts (own m.0) ≡ left
left_here m whole = let is = whole.left_is in omega arith

-- the seat's next record, by the number of its next put
pub next_place : {id : TableId} {n p : ℕ} (m : Sat) {now : Drafting} (key : StoreSize) → drafting id n m ≡ now → m.0.size ≡ key → p + 1 ≡ next_number now.seat → p ≡ next_record key (held_of n m.0)
next_place {id} {n} {p} m {now} key seat size is =
    let here : p + 1 ≡ m.0.size.quota * n + puts (own m.0) + 1 = is ∙ sym (ap (λ (d : Drafting). next_number d.seat) seat) in
    let same : m.0.size.quota * n ≡ key.quota * n = ap (λ (z : StoreSize). z.quota * n) size in omega arith

-- a seat with puts left has a next record
pub room_in : {id : TableId} {n : ℕ} (m : Sat) {now : Drafting} → drafting id n m ≡ now → 0 < puts_left now.seat → puts (own m.0) < m.0.size.quota
room_in {id} {n} m {now} seat room = let here : 0 < m.0.size.quota - puts (own m.0) = subst (λ (d : Drafting). 0 < puts_left d.seat) (sym seat) room in omega arith

-- The answers of draws

pub slot_is : (z : StoreSize) (late : Bool) (k found : ℕ) (s t : Option ℕ) → SlotIs z late k found s → SlotIs z late k found t → s ≡ t
slot_is z true k found s t p q = p ∙ sym q
slot_is z false k found s t p q = dite (dec_le (1026 + found + k) z.slots)
    (λ room. p.0 room ∙ sym (q.0 room))
    (λ full. p.1 (lt_of_not-le full) ∙ sym (q.1 (lt_of_not-le full)))

pub late_now : (z : StoreSize) (late : Bool) (k n found : ℕ) (s : Option ℕ) → SlotIs z late k found s → (late || is_late (Alloc n) (Slot s)) ≡ is_none s
late_now z true k n found None p = refl
late_now z true k n found (Some s) p = absurd (cc)
late_now z false k n found None p = refl
late_now z false k n found (Some s) p = refl

pub thread_is : (z : StoreSize) (crowded : Bool) (found : ℕ) (s t : Option ℕ) → ThreadIs z crowded found s → ThreadIs z crowded found t → s ≡ t
thread_is z true found s t p q = p ∙ sym q
thread_is z false found s t p q = dite (dec_le z.threads (1 + found))
    (λ past. p.1 past ∙ sym (q.1 past))
    (λ room. p.0 (lt_of_not-le room) ∙ sym (q.0 (lt_of_not-le room)))

pub crowded_now : (z : StoreSize) (crowded : Bool) (found : ℕ) (s : Option ℕ) → ThreadIs z crowded found s → (crowded || is_crowded Fork (Thread s)) ≡ is_none s
crowded_now z true found None p = refl
crowded_now z true found (Some s) p = absurd (cc)
crowded_now z false found None p = refl
crowded_now z false found (Some s) p = refl

pub none_is : (r : Bool) (s : Option ℕ) → is_some s ≡ not r → is_none s ≡ r
none_is true None e = refl
none_is false (Some n) e = refl
none_is true (Some n) e = absurd (cc)
none_is false None e = absurd (cc)

-- A few instructions behind a part.
use Rattle.std.proofs.Common.{◌≡◌, ◌≢◌, ◌⊎◌, inl, inr, ℕ, ◌+◌, ◌-◌, ◌<◌, ◌≤◌, Bool, true, List, [], ◌∷◌, ◌++◌, Option, Some, None, refl, sym, subst, ◌∙◌, ⊎_elim, arith}
use Rattle.std.specs.Prelude.{slice_get}
use Rattle.core_ir.specs.declared.role.Role.TheVariants as role
use Rattle.core_ir.specs.Outline.{Outline}
use Rattle.core_ir.specs.Flow.{HasRole, IsAmong, IsUnreached, Jumps, Stands}
use Rattle.core_parts.specs.Pieces.{Each, IsInside, IsLive, IsOutside, IsOwned, IsPart, IsPiece, IsSection, end_of}
use Rattle.core_parts.specs.Places.{IsLinked, Served}
use Rattle.core_parts.proofs.PartsCompose.{jumps_inside, live_back, live_front, live_owned, same_register, start_owned}
use Rattle.core_parts.proofs.PiecesCompose.{each_of, never_both, owned_then}
use Rattle.core_parts.proofs.Windows.{end_append, front_window, in_back, in_front, jumps_split, linked_in, split, within}

-- ---- short lists

one_stands : (i : Outline) (base k : ℕ) (j : Outline) → Stands (i ∷ []) base k j → (k ≡ base) × (i ≡ j)
one_stands i base k j h =
    let f : base ≤ k = h.from in
    let lt : k < base + 1 = within (i ∷ []) base k j h in
    let e : k ≡ base = omega arith in
    let z : k - base ≡ 0 = omega arith in
    (e, let is : Some i ≡ Some j = subst (λ n. slice_get (i ∷ []) n ≡ Some j) z h.there in cc)

pub all_one : (P : ℕ → Outline → Type 0) (base : ℕ) (i : Outline) → P base i → (u : ℕ) (j : Outline) → Stands (i ∷ []) base u j → P u j
all_one P base i p u j h = let o = one_stands i base u j h in subst (λ x. P x j) (sym o.0) (subst (λ x. P base x) o.1 p)

pub all_two : (P : ℕ → Outline → Type 0) (base : ℕ) (i j : Outline) → P base i → P (base + 1) j → (u : ℕ) (x : Outline) → Stands (i ∷ j ∷ []) base u x → P u x
all_two P base i j p q u x h = ⊎_elim
    (λ (y : Stands (i ∷ []) base u x). all_one P base i p u x y)
    (λ (y : Stands (j ∷ []) (base + 1) u x). all_one P (base + 1) j q u x y)
    (split (i ∷ []) (j ∷ []) base u x h)

pub all_three : (P : ℕ → Outline → Type 0) (base : ℕ) (i j k : Outline) → P base i → P (base + 1) j → P (base + 1 + 1) k → (u : ℕ) (x : Outline) → Stands (i ∷ j ∷ k ∷ []) base u x → P u x
all_three P base i j k p q r u x h = ⊎_elim
    (λ (y : Stands (i ∷ []) base u x). all_one P base i p u x y)
    (λ (y : Stands (j ∷ k ∷ []) (base + 1) u x). all_two P (base + 1) j k q r u x y)
    (split (i ∷ []) (j ∷ k ∷ []) base u x h)

pub first_there : (i : Outline) (rest : List Outline) (base : ℕ) → Stands (i ∷ rest) base base i
first_there i rest base = record { from = omega arith; there = let z : base - base ≡ 0 = omega arith in subst (λ n. slice_get (i ∷ rest) n ≡ Some i) (sym z) refl }

pub second_there : (i j : Outline) (rest : List Outline) (base : ℕ) → Stands (i ∷ j ∷ rest) base (base + 1) j
second_there i j rest base = in_back (i ∷ []) (j ∷ rest) base (base + 1) j (first_there j rest (base + 1))

pub third_there : (i j k : Outline) (rest : List Outline) (base : ℕ) → Stands (i ∷ j ∷ k ∷ rest) base (base + 2) k
third_there i j k rest base =
    let e : base + 1 + 1 ≡ base + 2 = omega arith in
    subst (λ n. Stands (i ∷ j ∷ k ∷ rest) base n k) e (in_back (i ∷ []) (j ∷ k ∷ rest) base (base + 1 + 1) k (second_there j k rest (base + 1)))

no_register : (A : Type 0) (o : Option ℕ) (r : ℕ) → o ≡ None → o ≡ Some r → A
no_register A o r e f = absurd cc

-- ---- their registers

pub owned_none : (i : Outline) (base a : ℕ) → i.defined ≡ None → IsOwned (i ∷ []) base a a
owned_none i base a quiet = record {
  ordered = omega arith;
  owned = λ k r j h is. all_one (λ k j. j.defined ≡ Some r → (a ≤ r) × (r < a)) base i (λ is. no_register _ i.defined r quiet is) k j h is;
  rising = λ k n r s j h first second is as_well before. all_one (λ k j. j.defined ≡ Some r → r < s) base i (λ is. no_register _ i.defined r quiet is) k j first is;
}

pub owned_one : (i : Outline) (base a : ℕ) → i.defined ≡ Some a → IsOwned (i ∷ []) base a (a + 1)
owned_one i base a is_a = record {
  ordered = omega arith;
  owned = λ k r j h is. all_one (λ k j. j.defined ≡ Some r → (a ≤ r) × (r < a + 1)) base i (λ is. let e : a ≡ r = same_register a r (sym is_a ∙ is) in (omega arith, omega arith)) k j h is;
  rising = λ k n r s j h first second is as_well before.
      let e : k ≡ base = (one_stands i base k j first).0 in
      let f : n ≡ base = (one_stands i base n h second).0 in
      absurd (omega arith);
}

-- ---- jumps

pub quiet_one : (i : Outline) (base : ℕ) → i.target ≡ None → (u : ℕ) (j : Outline) → Stands (i ∷ []) base u j → j.target ≡ None
quiet_one i base is = all_one (λ u j. j.target ≡ None) base i is

pub no_jump : (tail : List Outline) (base : ℕ) → ((u : ℕ) (i : Outline) → Stands tail base u i → i.target ≡ None) → (q l : ℕ) → Jumps tail base q l → ⊥
no_jump tail base quiet q l j = no_register ⊥ j.by.target l (quiet q j.by j.there) j.leads

-- the last instruction's register is live
pub last_live : (c : List Outline) (i : Outline) (base r : ℕ) → ((q l : ℕ) → Jumps (c ++ i ∷ []) base q l → ⊥) → i.defined ≡ Some r → IsLive (c ++ i ∷ []) base r
last_live c i base r none is =
    let e : end_of (c ++ i ∷ []) base ≡ end_of c base + 1 = end_append c (i ∷ []) base in
    record {
      server = end_of c base;
      serves = record {
        by = i;
        there = in_back c (i ∷ []) base (end_of c base) i (first_there i [] (end_of c base));
        defines = is;
        before = omega arith;
        nearest = λ k j here low high. absurd (omega arith);
      };
      unbroken = λ q l j low high. absurd (none q l j);
    }

-- ---- a tail behind a piece without exits, whose jumps lead out of both

module _ (c tail : List Outline) (start : ℕ) (exits : List ℕ) (inside : (q l : ℕ) → Jumps c start q l → IsInside start (end_of c start) l)
    (leads : (q l : ℕ) → Jumps tail (end_of c start) q l → IsAmong exits l) (out : Each (IsOutside start (end_of tail (end_of c start))) exits) where
  tail_out : (q l : ℕ) → Jumps tail (end_of c start) q l → start < l → l < end_of tail (end_of c start) → ⊥
  tail_out q l j from to = never_both start (end_of tail (end_of c start)) l (each_of (IsOutside start (end_of tail (end_of c start))) exits out l (leads q l j)) from to

  into_front : (q l : ℕ) → Jumps tail (end_of c start) q l → start < l → l < end_of c start → ⊥
  into_front q l j from to = tail_out q l j from (omega arith)

  -- what is live behind the part serves in the tail
  pub tail_serves : (r u : ℕ) → ((k : ℕ) (i : Outline) → Stands tail (end_of c start) k i → i.defined ≢ Some r) → end_of c start ≤ u → u < end_of tail (end_of c start)
      → IsLive c start r → Served (c ++ tail) start u r
  tail_serves r u other from to h =
      let s = h.server in
      let first : start ≤ s = h.serves.there.from in
      let low : s < end_of c start = h.serves.before in
      record {
        server = s;
        serves = record {
          by = h.serves.by;
          there = in_front c tail start s h.serves.by h.serves.there;
          defines = h.serves.defines;
          before = omega arith;
          nearest = λ k i here sk ku. ⊎_elim
              (λ (x : Stands c start k i). h.serves.nearest k i x sk (within c start k i x))
              (λ (x : Stands tail (end_of c start) k i). other k i x)
              (split c tail start k i here);
        };
        unbroken = λ q l j sl lu. ⊎_elim
            (λ (x : Jumps c start q l). let b = h.unbroken q l x sl (inside q l x).1 in let high : q < end_of c start = b.1 in (b.0, omega arith))
            (λ (x : Jumps tail (end_of c start) q l). absurd (tail_out q l x (omega arith) (omega arith)))
            (jumps_split c tail start q l j);
      }

  pub tail_piece : (frame : Bool) → IsPiece frame c start [] → ((u : ℕ) (i : Outline) → Stands tail (end_of c start) u i → IsLinked frame (c ++ tail) start u i) → IsPiece frame (c ++ tail) start exits
  tail_piece frame hc linked =
      let end = end_append c tail start in
      record {
        stays = λ q l j. ⊎_elim
            (λ (x : Jumps c start q l). let b = inside q l x in let high : l ≤ end_of c start = b.1 in inl (b.0, omega arith))
            (λ (x : Jumps tail (end_of c start) q l). inr (leads q l x))
            (jumps_split c tail start q l j);
        linked = λ u i here. ⊎_elim
            (λ (x : Stands c start u i). linked_in c start (c ++ tail) start (front_window c tail start into_front) frame u i x (hc.linked u i x))
            (λ (x : Stands tail (end_of c start) u i). linked u i x)
            (split c tail start u i here);
      }

-- ---- a tail without jumps behind a part

module _ (c tail : List Outline) (start a b e : ℕ) (live : List ℕ) (h : IsPart c start a b live)
    (quiet : (u : ℕ) (i : Outline) → Stands tail (end_of c start) u i → i.target ≡ None) (owned : IsOwned tail (end_of c start) b e) where
  pub inside : (q l : ℕ) → Jumps c start q l → IsInside start (end_of c start) l
  inside = jumps_inside true c start (h.is_section.piece true)

  pub nowhere : (q l : ℕ) → Jumps tail (end_of c start) q l → IsAmong [] l
  nowhere = no_jump tail (end_of c start) quiet

  pub low : (r : ℕ) → IsAmong live r → r < b
  low r is = (live_owned c start a b r h.is_section.owned (h.lives r is)).1

  pub undefined : (r : ℕ) → IsAmong live r → (k : ℕ) (i : Outline) → Stands tail (end_of c start) k i → i.defined ≢ Some r
  undefined r is k i here defines =
      let x : r < b = low r is in
      let y : b ≤ r = (owned.owned k r i here defines).0 in
      let z : ⊥ = omega arith in z

  pub live_serves : (r u : ℕ) → IsAmong live r → end_of c start ≤ u → u < end_of tail (end_of c start) → Served (c ++ tail) start u r
  live_serves r u is from to = tail_serves c tail start [] inside nowhere tt r u (undefined r is) from to (h.lives r is)

  pub unreached : (l : ℕ) → end_of c start < l → IsUnreached (c ++ tail) start l
  unreached l from q j = ⊎_elim
      (λ (x : Jumps c start q l). let z : l ≤ end_of c start = (inside q l x).1 in let w : ⊥ = omega arith in w)
      (λ (x : Jumps tail (end_of c start) q l). nowhere q l x)
      (jumps_split c tail start q l j)

  pub tail_section : ((frame : Bool) (u : ℕ) (i : Outline) → Stands tail (end_of c start) u i → IsLinked frame (c ++ tail) start u i) → IsSection (c ++ tail) start a e []
  tail_section linked = record {
    piece = λ frame. tail_piece c tail start [] inside nowhere tt frame (h.is_section.piece frame) (linked frame);
    owned = owned_then c tail start a b e h.is_section.owned owned;
  }

  pub tail_part : (new : List ℕ) → ((frame : Bool) (u : ℕ) (i : Outline) → Stands tail (end_of c start) u i → IsLinked frame (c ++ tail) start u i)
      → ((r : ℕ) → IsAmong new r → IsAmong live r ⊎ IsLive tail (end_of c start) r) → ((r k t : ℕ) → IsAmong new r → HasRole tail (end_of c start) k (role.StartFn t r) → ⊥)
      → IsPart (c ++ tail) start a e new
  tail_part new linked from fresh = record {
    is_section = tail_section linked;
    lives = λ r is. ⊎_elim
        (λ (x : IsAmong live r). live_front c tail start r inside (undefined r x) (h.lives r x))
        (λ (x : IsLive tail (end_of c start) r). live_back c tail start r inside x)
        (from r is);
    fresh = λ r k t is has. ⊎_elim
        (λ (x : Stands c start k has.instruction).
        let there : HasRole c start k (role.StartFn t r) = record { instruction = has.instruction; there = x; is = has.is } in
        ⊎_elim
        (λ (y : IsAmong live r). h.fresh r k t y there)
        (λ (y : IsLive tail (end_of c start) r).
        let p : r < b = (start_owned c start a b r k t [] h.is_section there).1 in
        let q : b ≤ r = (live_owned tail (end_of c start) b e r owned y).0 in
        let z : ⊥ = omega arith in z)
        (from r is))
        (λ (x : Stands tail (end_of c start) k has.instruction). fresh r k t is (record { instruction = has.instruction; there = x; is = has.is }))
        (split c tail start k has.instruction has.there);
  }

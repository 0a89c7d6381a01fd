-- Pieces and sections, one behind another.
use Rattle.std.proofs.Common.{inl, inr, ℕ, ◌<◌, ◌≤◌, Bool, List, [], ◌∷◌, ◌++◌, sym, subst, ⊎_elim, arith}
use Rattle.core_ir.specs.Outline.{Outline}
use Rattle.core_ir.specs.Flow.{IsAmong, Jumps, Stands}
use Rattle.core_parts.specs.Pieces.{Each, IsInside, IsOutside, IsOwned, IsPiece, IsSection, Leads, end_of}
use Rattle.core_parts.proofs.Windows.{back_window, end_append, front_window, jumps_split, linked_in, split, within}

pub each_of : (P : ℕ → Type 0) (xs : List ℕ) → Each P xs → (x : ℕ) → IsAmong xs x → P x
each_of P [] h x is = absurd is
each_of P (y ∷ ys) h x (inl e) = subst P e h.0
each_of P (y ∷ ys) h x (inr is) = each_of P ys h.1 x is

-- no place is strictly inside and outside
pub never_both : (first last l : ℕ) → IsOutside first last l → first < l → l < last → ⊥
never_both first last l (inl low) from to = omega arith
never_both first last l (inr high) from to = omega arith

pub weaker : (frame : Bool) (c : List Outline) (start : ℕ) (exits other : List ℕ) → IsPiece frame c start exits → Each (Leads start (end_of c start) other) exits → IsPiece frame c start other
weaker frame c start exits other h lead = record {
  stays = λ q l j. ⊎_elim
      (λ (inside : IsInside start (end_of c start) l). inl inside)
      (λ (exit : IsAmong exits l). each_of (Leads start (end_of c start) other) exits lead l exit)
      (h.stays q l j);
  linked = h.linked;
}

module _ (frame : Bool) (c d : List Outline) (start : ℕ) (exits more all : List ℕ) (hc : IsPiece frame c start exits) (hd : IsPiece frame d (end_of c start) more)
    (out : Each (IsOutside (end_of c start) (end_of d (end_of c start))) exits) (behind : Each (IsOutside start (end_of c start)) more)
    (lead : Each (Leads start (end_of d (end_of c start)) all) exits) (lead_more : Each (Leads start (end_of d (end_of c start)) all) more) where
  into_front : (q l : ℕ) → Jumps d (end_of c start) q l → start < l → l < end_of c start → ⊥
  into_front q l j from inside = ⊎_elim
      (λ (stay : IsInside (end_of c start) (end_of d (end_of c start)) l). let low : end_of c start ≤ l = stay.0 in let z : ⊥ = omega arith in z)
      (λ (exit : IsAmong more l). never_both start (end_of c start) l (each_of (IsOutside start (end_of c start)) more behind l exit) from inside)
      (hd.stays q l j)

  into_back : (q l : ℕ) → Jumps c start q l → end_of c start < l → l < end_of d (end_of c start) → ⊥
  into_back q l j from inside = ⊎_elim
      (λ (stay : IsInside start (end_of c start) l). let high : l ≤ end_of c start = stay.1 in let z : ⊥ = omega arith in z)
      (λ (exit : IsAmong exits l). never_both (end_of c start) (end_of d (end_of c start)) l (each_of (IsOutside (end_of c start) (end_of d (end_of c start))) exits out l exit) from inside)
      (hc.stays q l j)

  leads_on : (q l : ℕ) → Jumps (c ++ d) start q l → Leads start (end_of d (end_of c start)) all l
  leads_on q l j = ⊎_elim
      (λ (front : Jumps c start q l). ⊎_elim
      (λ (stay : IsInside start (end_of c start) l). let low : start ≤ l = stay.0 in let high : l ≤ end_of c start = stay.1 in inl (low, omega arith))
      (λ (exit : IsAmong exits l). each_of (Leads start (end_of d (end_of c start)) all) exits lead l exit)
      (hc.stays q l front))
      (λ (back : Jumps d (end_of c start) q l). ⊎_elim
      (λ (stay : IsInside (end_of c start) (end_of d (end_of c start)) l). let low : end_of c start ≤ l = stay.0 in let high : l ≤ end_of d (end_of c start) = stay.1 in inl (omega arith, high))
      (λ (exit : IsAmong more l). each_of (Leads start (end_of d (end_of c start)) all) more lead_more l exit)
      (hd.stays q l back))
      (jumps_split c d start q l j)

  pub pieces : IsPiece frame (c ++ d) start all
  pieces = record {
    stays = λ q l j. subst (λ e. Leads start e all l) (sym (end_append c d start)) (leads_on q l j);
    linked = λ u i here. ⊎_elim
        (λ (front : Stands c start u i). linked_in c start (c ++ d) start (front_window c d start into_front) frame u i front (hc.linked u i front))
        (λ (back : Stands d (end_of c start) u i). linked_in d (end_of c start) (c ++ d) start (back_window c d start into_back) frame u i back (hd.linked u i back))
        (split c d start u i here);
  }

pub owned_then : (c d : List Outline) (start a b e : ℕ) → IsOwned c start a b → IsOwned d (end_of c start) b e → IsOwned (c ++ d) start a e
owned_then c d start a b e hc hd =
    let ab : a ≤ b = hc.ordered in
    let be : b ≤ e = hd.ordered in
    record {
      ordered = omega arith;
      owned = λ k r i here is. ⊎_elim
          (λ (x : Stands c start k i). let o = hc.owned k r i x is in let low : a ≤ r = o.0 in let high : r < b = o.1 in (low, omega arith))
          (λ (x : Stands d (end_of c start) k i). let o = hd.owned k r i x is in let low : b ≤ r = o.0 in let high : r < e = o.1 in (omega arith, high))
          (split c d start k i here);
      rising = λ k j r s i h first second is as_well before. ⊎_elim
          (λ (x : Stands c start k i). ⊎_elim
          (λ (y : Stands c start j h). hc.rising k j r s i h x y is as_well before)
          (λ (y : Stands d (end_of c start) j h). let low : r < b = (hc.owned k r i x is).1 in let high : b ≤ s = (hd.owned j s h y as_well).0 in omega arith)
          (split c d start j h second))
          (λ (x : Stands d (end_of c start) k i). ⊎_elim
          (λ (y : Stands c start j h). let low : end_of c start ≤ k = x.from in let high : j < end_of c start = within c start j h y in absurd (omega arith))
          (λ (y : Stands d (end_of c start) j h). hd.rising k j r s i h x y is as_well before)
          (split c d start j h second))
          (split c d start k i first);
    }

pub sections : (c d : List Outline) (start a b e : ℕ) (exits more all : List ℕ) → IsSection c start a b exits → IsSection d (end_of c start) b e more
    → Each (IsOutside (end_of c start) (end_of d (end_of c start))) exits → Each (IsOutside start (end_of c start)) more
    → Each (Leads start (end_of d (end_of c start)) all) exits → Each (Leads start (end_of d (end_of c start)) all) more
    → IsSection (c ++ d) start a e all
sections c d start a b e exits more all hc hd out behind lead lead_more = record {
  piece = λ frame. pieces frame c d start exits more all (hc.piece frame) (hd.piece frame) out behind lead lead_more;
  owned = owned_then c d start a b e hc.owned hd.owned;
}

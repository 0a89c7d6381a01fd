-- Parts of a full expression, one behind another.
use Rattle.std.proofs.Common.{◌≡◌, ◌≢◌, ◌⊎◌, inl, inr, ℕ, ◌+◌, ◌<◌, ◌≤◌, Bool, true, List, [], ◌∷◌, ◌++◌, Some, sym, subst, ⊎_elim, arith}
use Rattle.core_ir.specs.declared.role.Role.TheVariants as role
use Rattle.core_ir.specs.Outline.{Outline}
use Rattle.core_ir.specs.Flow.{HasRole, IsAmong, Jumps, Serves, Stands}
use Rattle.core_parts.specs.Pieces.{IsInside, IsLive, IsOwned, IsPart, IsPiece, IsSection, end_of}
use Rattle.core_parts.specs.Places.{NamesUsed}
use Rattle.core_parts.proofs.PiecesCompose.{sections}
use Rattle.core_parts.proofs.Windows.{back_window, end_append, in_front, jumps_split, serves_in, split, within}

pub same_register : (a b : ℕ) → Some a ≡ Some b → a ≡ b
same_register a b e = cc

-- the jumps of code without exits
pub jumps_inside : (frame : Bool) (c : List Outline) (start : ℕ) → IsPiece frame c start [] → (q l : ℕ) → Jumps c start q l → IsInside start (end_of c start) l
jumps_inside frame c start h q l j = ⊎_elim (λ (x : IsInside start (end_of c start) l). x) (λ (x : ⊥). absurd x) (h.stays q l j)

-- what is live stays so, before code that doesn't define it
pub live_front : (c d : List Outline) (start r : ℕ) → ((q l : ℕ) → Jumps c start q l → IsInside start (end_of c start) l) → ((k : ℕ) (i : Outline) → Stands d (end_of c start) k i → i.defined ≢ Some r)
    → IsLive c start r → IsLive (c ++ d) start r
live_front c d start r inside other h =
    let s = h.server in
    let low : s < end_of c start = h.serves.before in
    let end : end_of (c ++ d) start ≡ end_of d (end_of c start) = end_append c d start in
    record {
      server = s;
      serves = record {
        by = h.serves.by;
        there = in_front c d start s h.serves.by h.serves.there;
        defines = h.serves.defines;
        before = omega arith;
        nearest = λ k i here sk ku. ⊎_elim
            (λ (x : Stands c start k i). h.serves.nearest k i x sk (within c start k i x))
            (λ (x : Stands d (end_of c start) k i). other k i x)
            (split c d start k i here);
      };
      unbroken = λ q l j sl lu. ⊎_elim
          (λ (x : Jumps c start q l). let b = h.unbroken q l x sl (inside q l x).1 in let high : q < end_of c start = b.1 in (b.0, omega arith))
          (λ (x : Jumps d (end_of c start) q l).
          let from : end_of c start ≤ q = x.there.from in
          let to : q < end_of d (end_of c start) = within d (end_of c start) q x.by x.there in
          (omega arith, omega arith))
          (jumps_split c d start q l j);
    }

-- what is live behind a code is so behind both
pub live_back : (c d : List Outline) (start r : ℕ) → ((q l : ℕ) → Jumps c start q l → IsInside start (end_of c start) l) → IsLive d (end_of c start) r → IsLive (c ++ d) start r
live_back c d start r inside h =
    let s = h.server in
    let from : end_of c start ≤ s = h.serves.there.from in
    let end : end_of d (end_of c start) ≡ end_of (c ++ d) start = sym (end_append c d start) in
    let out : (q l : ℕ) → Jumps c start q l → end_of c start < l → l < end_of d (end_of c start) → ⊥ = λ q l j low high. let x : l ≤ end_of c start = (inside q l j).1 in omega arith in
    record {
      server = s;
      serves = subst (λ u. Serves (c ++ d) start s u r) end (serves_in d (end_of c start) (c ++ d) start (back_window c d start out) s (end_of d (end_of c start)) r (omega arith) h.serves);
      unbroken = λ q l j sl lu. ⊎_elim
          (λ (x : Jumps c start q l). let high : l ≤ end_of c start = (inside q l x).1 in absurd (omega arith))
          (λ (x : Jumps d (end_of c start) q l). let b = h.unbroken q l x sl (omega arith) in let high : q < end_of d (end_of c start) = b.1 in (b.0, omega arith))
          (jumps_split c d start q l j);
    }

pub among_append : (xs ys : List ℕ) (r : ℕ) → IsAmong (xs ++ ys) r → IsAmong xs r ⊎ IsAmong ys r
among_append [] ys r h = inr h
among_append (x ∷ xs) ys r (inl e) = inl (inl e)
among_append (x ∷ xs) ys r (inr h) = ⊎_elim (λ (a : IsAmong xs r). inl (inr a)) (λ (b : IsAmong ys r). inr b) (among_append xs ys r h)

-- a live register is one of the part's
pub live_owned : (c : List Outline) (start a b r : ℕ) → IsOwned c start a b → IsLive c start r → (a ≤ r) × (r < b)
live_owned c start a b r h live = h.owned live.server r live.serves.by live.serves.there live.serves.defines

-- so is the function of a start
pub start_owned : (c : List Outline) (start a b r k t : ℕ) (exits : List ℕ) → IsSection c start a b exits → HasRole c start k (role.StartFn t r) → (a ≤ r) × (r < b)
start_owned c start a b r k t exits h has =
    let l = (h.piece true).linked k has.instruction has.there in
    let named : IsAmong has.instruction.used r = subst (λ x. NamesUsed has.instruction.used x) has.is l.named in
    let s = l.served r named in
    h.owned.owned s.server r s.serves.by s.serves.there s.serves.defines

pub append : (c d : List Outline) (start a b e : ℕ) (live more : List ℕ) → IsPart c start a b live → IsPart d (end_of c start) b e more → IsPart (c ++ d) start a e (live ++ more)
append c d start a b e live more hc hd =
    let inside = jumps_inside true c start (hc.is_section.piece true) in
    record {
      is_section = sections c d start a b e [] [] [] hc.is_section hd.is_section tt tt tt tt;
      lives = λ r is. ⊎_elim
          (λ (x : IsAmong live r).
          let high : r < b = (live_owned c start a b r hc.is_section.owned (hc.lives r x)).1 in
          live_front c d start r inside (λ k i here defines. let low : b ≤ r = (hd.is_section.owned.owned k r i here defines).0 in let z : ⊥ = omega arith in z) (hc.lives r x))
          (λ (x : IsAmong more r). live_back c d start r inside (hd.lives r x))
          (among_append live more r is);
      fresh = λ r k t is has. ⊎_elim
          (λ (x : IsAmong live r). ⊎_elim
          (λ (y : Stands c start k has.instruction). hc.fresh r k t x (record { instruction = has.instruction; there = y; is = has.is }))
          (λ (y : Stands d (end_of c start) k has.instruction).
          let high : r < b = (live_owned c start a b r hc.is_section.owned (hc.lives r x)).1 in
          let low : b ≤ r = (start_owned d (end_of c start) b e r k t [] hd.is_section (record { instruction = has.instruction; there = y; is = has.is })).0 in
          let z : ⊥ = omega arith in z)
          (split c d start k has.instruction has.there))
          (λ (x : IsAmong more r). ⊎_elim
          (λ (y : Stands c start k has.instruction).
          let high : r < b = (start_owned c start a b r k t [] hc.is_section (record { instruction = has.instruction; there = y; is = has.is })).1 in
          let low : b ≤ r = (live_owned d (end_of c start) b e r hd.is_section.owned (hd.lives r x)).0 in
          let z : ⊥ = omega arith in z)
          (λ (y : Stands d (end_of c start) k has.instruction). hd.fresh r k t x (record { instruction = has.instruction; there = y; is = has.is }))
          (split c d start k has.instruction has.there))
          (among_append live more r is);
    }

pub fewer : (c : List Outline) (start a b : ℕ) (live less : List ℕ) → IsPart c start a b live → ((r : ℕ) → IsAmong less r → IsAmong live r) → IsPart c start a b less
fewer c start a b live less h known = record {
  is_section = h.is_section;
  lives = λ r is. h.lives r (known r is);
  fresh = λ r k t is has. h.fresh r k t (known r is) has;
}

pub nothing_stands : (start k : ℕ) (i : Outline) → Stands [] start k i → ⊥
nothing_stands start k i h = let l : k < start + 0 = within [] start k i h in let f : start ≤ k = h.from in omega arith

pub none : (start a : ℕ) → IsPart [] start a a []
none start a = record {
  is_section = record {
    piece = λ frame. record {
      stays = λ q l j. absurd (nothing_stands start q j.by j.there);
      linked = λ u i here. absurd (nothing_stands start u i here);
    };
    owned = record {
      ordered = omega arith;
      owned = λ k r i here is. absurd (nothing_stands start k i here);
      rising = λ k j r s i h here there is as_well before. absurd (nothing_stands start k i here);
    };
  };
  lives = λ r is. absurd is;
  fresh = λ r k t is has. absurd is;
}

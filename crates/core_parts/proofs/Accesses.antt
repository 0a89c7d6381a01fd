-- A part, and an access behind the test of its address.
use Rattle.std.proofs.Common.{◌≡◌, ◌⊎◌, inl, inr, ℕ, ◌+◌, Bool, List, [], ◌∷◌, ◌++◌, None, refl, subst, ⊎_elim, arith}
use Rattle.core_ir.specs.declared.role.Role.TheVariants as role
use Rattle.core_ir.specs.Outline.{Outline}
use Rattle.core_ir.specs.Flow.{IsAmong, Stands}
use Rattle.core_parts.specs.Outlines.{loading, locking, storing, touching}
use Rattle.core_parts.specs.Pieces.{IsLive, IsOwned, IsPart, end_of}
use Rattle.core_parts.specs.Places.{Behind, FrameFits, IsLinked, NamesUsed, RoleFits}
use Rattle.core_parts.specs.Theorems.{AreAmong}
use Rattle.core_parts.proofs.Extensions.{free_linked}
use Rattle.core_parts.proofs.PiecesCompose.{owned_then}
use Rattle.core_parts.proofs.Tails.{all_two, first_there, last_live, live_serves, no_jump, owned_none, owned_one, tail_part, unreached}
use Rattle.core_parts.proofs.Windows.{in_back}

pub among_one : (live : List ℕ) (p : ℕ) → IsAmong live p → AreAmong (p ∷ []) live
among_one live p is r (inl e) = subst (IsAmong live) e is
among_one live p is r (inr z) = absurd z

pub among_more : (live : List ℕ) (p : ℕ) (others : List ℕ) → IsAmong live p → AreAmong others live → AreAmong (p ∷ others) live
among_more live p others is rest r (inl e) = subst (IsAmong live) e is
among_more live p others is rest r (inr x) = rest r x

module _ (c : List Outline) (start a b e : ℕ) (live : List ℕ) (p : ℕ) (x : Outline) (h : IsPart c start a b live) (is_p : IsAmong live p) (quiet : x.target ≡ None)
    (owned_x : IsOwned (x ∷ []) (end_of c start + 1) b e) (known : AreAmong x.used live) (named : NamesUsed x.used x.role)
    (fits : (w : List Outline) (u : ℕ) → Behind w start u (role.Touch p) → RoleFits w start u x.role) (framed : (frame : Bool) (w : List Outline) (u : ℕ) → FrameFits frame w start u x.role)
    (starts_nothing : (t r : ℕ) → x.role ≡ role.StartFn t r → ⊥) where
  silent : (u : ℕ) (i : Outline) → Stands (touching p ∷ x ∷ []) (end_of c start) u i → i.target ≡ None
  silent = all_two (λ u i. i.target ≡ None) (end_of c start) (touching p) x refl quiet

  owned : IsOwned (touching p ∷ x ∷ []) (end_of c start) b e
  owned = owned_then (touching p ∷ []) (x ∷ []) (end_of c start) b b e (owned_none (touching p) (end_of c start) b refl) owned_x

  linked : (frame : Bool) (u : ℕ) (i : Outline) → Stands (touching p ∷ x ∷ []) (end_of c start) u i → IsLinked frame (c ++ touching p ∷ x ∷ []) start u i
  linked frame = all_two (λ u i. IsLinked frame (c ++ touching p ∷ x ∷ []) start u i) (end_of c start) (touching p) x
      (free_linked frame (c ++ touching p ∷ x ∷ []) start (end_of c start) (touching p) tt
      (λ r uses. live_serves c (touching p ∷ x ∷ []) start a b e live h silent owned r (end_of c start) (among_one live p is_p r uses) (omega arith) (omega arith)))
      (record {
        served = λ r uses. live_serves c (touching p ∷ x ∷ []) start a b e live h silent owned r (end_of c start + 1) (known r uses) (omega arith) (omega arith);
        fits = fits (c ++ touching p ∷ x ∷ []) (end_of c start + 1) (record {
          before = end_of c start;
          next = omega arith;
          there = record {
            instruction = touching p;
            there = in_back c (touching p ∷ x ∷ []) start (end_of c start) (touching p) (first_there (touching p) (x ∷ []) (end_of c start));
            is = refl;
          };
          unreached = unreached c (touching p ∷ x ∷ []) start a b e live h silent owned (end_of c start + 1) (omega arith);
        });
        framed = framed frame (c ++ touching p ∷ x ∷ []) (end_of c start + 1);
        named = named;
      })

  pub access : (new : List ℕ) → ((r : ℕ) → IsAmong new r → IsAmong live r ⊎ IsLive (touching p ∷ x ∷ []) (end_of c start) r) → IsPart (c ++ touching p ∷ x ∷ []) start a e new
  access new from = tail_part c (touching p ∷ x ∷ []) start a b e live h silent owned new linked from
      (λ r k t is has. all_two (λ u i. i.role ≡ role.StartFn t r → ⊥) (end_of c start) (touching p) x (λ is. cc) (starts_nothing t r) k has.instruction has.there has.is)

pub loads : (c : List Outline) (start a b : ℕ) (live : List ℕ) (p : ℕ) → IsPart c start a b live → IsAmong live p → IsPart (c ++ touching p ∷ loading b p ∷ []) start a (b + 1) (b ∷ live)
loads c start a b live p h is_p =
    let silent = all_two (λ u i. i.target ≡ None) (end_of c start) (touching p) (loading b p) refl refl in
    access c start a b (b + 1) live p (loading b p) h is_p refl (owned_one (loading b p) (end_of c start + 1) b refl) (among_one live p is_p) (inl refl)
    (λ w u behind. behind) (λ frame w u. tt) (λ t r is. cc) (b ∷ live)
    (λ r is. ⊎_elim
    (λ (e : b ≡ r). inr (subst (IsLive (touching p ∷ loading b p ∷ []) (end_of c start)) e (last_live (touching p ∷ []) (loading b p) (end_of c start) b (no_jump (touching p ∷ loading b p ∷ []) (end_of c start) silent) refl)))
    (λ (x : IsAmong live r). inl x)
    is)

pub stores : (c : List Outline) (start a b : ℕ) (live : List ℕ) (p x : ℕ) → IsPart c start a b live → IsAmong live p → IsAmong live x → IsPart (c ++ touching p ∷ storing p x ∷ []) start a b live
stores c start a b live p x h is_p is_x =
    access c start a b b live p (storing p x) h is_p refl (owned_none (storing p x) (end_of c start + 1) b refl) (among_more live p (x ∷ []) is_p (among_one live x is_x)) tt
    (λ w u behind. behind) (λ frame w u. tt) (λ t r is. cc) live (λ r is. inl is)

pub locks : (c : List Outline) (start a b : ℕ) (live : List ℕ) (p : ℕ) → IsPart c start a b live → IsAmong live p → IsPart (c ++ touching p ∷ locking p ∷ []) start a b live
locks c start a b live p h is_p =
    access c start a b b live p (locking p) h is_p refl (owned_none (locking p) (end_of c start + 1) b refl) (among_one live p is_p) tt
    (λ w u behind. behind) (λ frame w u. tt) (λ t r is. cc) live (λ r is. inl is)

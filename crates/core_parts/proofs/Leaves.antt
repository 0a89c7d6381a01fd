-- A part, and a jump or a return behind it.
use Rattle.std.proofs.Common.{◌≡◌, ◌≢◌, inl, ℕ, suc, ◌+◌, Bool, true, false, List, [], ◌∷◌, ◌++◌, Some, None, refl, sym, subst, ◌∙◌, arith}
use Rattle.core_ir.specs.declared.role.Role.TheVariants as role
use Rattle.core_ir.specs.Outline.{Outline}
use Rattle.core_ir.specs.Flow.{HasRole, IsAmong, Jumps, Stands}
use Rattle.core_parts.specs.Outlines.{branching, jumping, leaving, returning}
use Rattle.core_parts.specs.Pieces.{IsInside, IsOutside, IsOwned, IsPart, IsPiece, IsSection, end_of}
use Rattle.core_parts.specs.Places.{IsLinked}
use Rattle.core_parts.specs.Theorems.{AreAmong, IsFree}
use Rattle.core_parts.proofs.Accesses.{among_one}
use Rattle.core_parts.proofs.Extensions.{free_linked}
use Rattle.core_parts.proofs.PartsCompose.{jumps_inside, same_register}
use Rattle.core_parts.proofs.PiecesCompose.{owned_then}
use Rattle.core_parts.proofs.Tails.{all_one, all_two, first_there, live_serves, nowhere, owned_none, second_there, tail_piece, tail_serves, unreached}
use Rattle.core_parts.proofs.Windows.{in_back}

module _ (c : List Outline) (start a b : ℕ) (live : List ℕ) (i : Outline) (l : ℕ) (h : IsPart c start a b live) (free : IsFree i.role) (none : i.defined ≡ None) (leads : i.target ≡ Some l)
    (known : AreAmong i.used live) (out : IsOutside start (end_of c start + 1) l) where
  leads_out : (q t : ℕ) → Jumps (i ∷ []) (end_of c start) q t → IsAmong (l ∷ []) t
  leads_out q t j = inl (same_register l t (sym leads ∙ all_one (λ q x. x.target ≡ Some t → i.target ≡ Some t) (end_of c start) i (λ is. is) q j.by j.there j.leads))

  inside : (q t : ℕ) → Jumps c start q t → IsInside start (end_of c start) t
  inside = jumps_inside true c start (h.is_section.piece true)

  linked : (frame : Bool) (u : ℕ) (x : Outline) → Stands (i ∷ []) (end_of c start) u x → IsLinked frame (c ++ i ∷ []) start u x
  linked frame = all_one (λ u x. IsLinked frame (c ++ i ∷ []) start u x) (end_of c start) i
      (free_linked frame (c ++ i ∷ []) start (end_of c start) i free
      (λ r uses. tail_serves c (i ∷ []) start (l ∷ []) inside leads_out (out, tt) r (end_of c start)
      (λ k x here. all_one (λ k x. x.defined ≢ Some r) (end_of c start) i (λ is. let z : None ≡ Some r = sym none ∙ is in cc) k x here) (omega arith) (omega arith) (h.lives r (known r uses))))

  pub jumps_off : IsSection (c ++ i ∷ []) start a b (l ∷ [])
  jumps_off = record {
    piece = λ frame. tail_piece c (i ∷ []) start (l ∷ []) inside leads_out (out, tt) frame (h.is_section.piece frame) (linked frame);
    owned = owned_then c (i ∷ []) start a b b h.is_section.owned (owned_none i (end_of c start) b none);
  }

pub branch : (c : List Outline) (start a b : ℕ) (live : List ℕ) (x l : ℕ) → IsPart c start a b live → IsAmong live x → IsOutside start (end_of c start + 1) l → IsSection (c ++ branching x l ∷ []) start a b (l ∷ [])
branch c start a b live x l h is out = jumps_off c start a b live (branching x l) l h tt refl refl (among_one live x is) out

pub jump : (c : List Outline) (start a b : ℕ) (live : List ℕ) (l : ℕ) → IsPart c start a b live → IsOutside start (end_of c start + 1) l → IsSection (c ++ jumping l ∷ []) start a b (l ∷ [])
jump c start a b live l h out = jumps_off c start a b live (jumping l) l h tt refl refl (λ r is. absurd is) out

module _ (c : List Outline) (start a b : ℕ) (live used : List ℕ) (h : IsPart c start a b live) (known : AreAmong used live) where
  pub returns : IsPiece false (c ++ returning used ∷ []) start []
  returns =
      let silent = all_one (λ u i. i.target ≡ None) (end_of c start) (returning used) refl in
      let owned = owned_none (returning used) (end_of c start) b refl in
      tail_piece c (returning used ∷ []) start [] (jumps_inside true c start (h.is_section.piece true)) (nowhere c (returning used ∷ []) start a b b live h silent owned) tt false (h.is_section.piece false)
      (all_one (λ u i. IsLinked false (c ++ returning used ∷ []) start u i) (end_of c start) (returning used) (record {
        served = λ r uses. live_serves c (returning used ∷ []) start a b b live h silent owned r (end_of c start) (known r uses) (omega arith) (omega arith);
        fits = tt;
        framed = tt;
        named = tt;
      }))

  abbrev tail : List Outline
  tail = leaving ∷ returning used ∷ []

  silent : (u : ℕ) (i : Outline) → Stands tail (end_of c start) u i → i.target ≡ None
  silent = all_two (λ u i. i.target ≡ None) (end_of c start) leaving (returning used) refl refl

  owned : IsOwned tail (end_of c start) b b
  owned = owned_then (leaving ∷ []) (returning used ∷ []) (end_of c start) b b b (owned_none leaving (end_of c start) b refl) (owned_none (returning used) (end_of c start + 1) b refl)

  left : HasRole (c ++ tail) start (end_of c start) role.Leave
  left = record { instruction = leaving; there = in_back c tail start (end_of c start) leaving (first_there leaving (returning used ∷ []) (end_of c start)); is = refl }

  returned : HasRole (c ++ tail) start (end_of c start + 1) role.Return
  returned = record { instruction = returning used; there = in_back c tail start (end_of c start + 1) (returning used) (second_there leaving (returning used) [] (end_of c start)); is = refl }

  pub leaves : IsPiece true (c ++ tail) start []
  leaves = tail_piece c tail start [] (jumps_inside true c start (h.is_section.piece true)) (nowhere c tail start a b b live h silent owned) tt true (h.is_section.piece true)
      (all_two (λ u i. IsLinked true (c ++ tail) start u i) (end_of c start) leaving (returning used)
      (record {
        served = λ r is. absurd is;
        fits = tt;
        framed = let e : end_of c start + 1 ≡ suc (end_of c start) = omega arith in subst (λ n. HasRole (c ++ tail) start n role.Return) e returned;
        named = tt;
      })
      (record {
        served = λ r uses. live_serves c tail start a b b live h silent owned r (end_of c start + 1) (known r uses) (omega arith) (omega arith);
        fits = tt;
        framed = record { before = end_of c start; next = omega arith; there = left; unreached = unreached c tail start a b b live h silent owned (end_of c start + 1) (omega arith) };
        named = tt;
      }))

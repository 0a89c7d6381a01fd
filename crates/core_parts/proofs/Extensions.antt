-- A part, and instructions behind it that use what is live.
use Rattle.std.proofs.Common.{◌≡◌, inl, inr, ℕ, ◌+◌, Bool, List, [], ◌∷◌, ◌++◌, Some, None, subst, ⊎_elim, arith}
use Rattle.core_ir.specs.declared.role.Role.{Role}
use Rattle.core_ir.specs.declared.role.Role.TheVariants as role
use Rattle.core_ir.specs.Outline.{Outline}
use Rattle.core_ir.specs.Flow.{HasRole, IsAmong}
use Rattle.core_parts.specs.Pieces.{IsLive, IsPart, end_of}
use Rattle.core_parts.specs.Places.{FrameFits, IsLinked, NamesUsed, RoleFits, Served}
use Rattle.core_parts.specs.Theorems.{AreAmong, IsFree}
use Rattle.core_parts.proofs.Tails.{all_one, last_live, live_serves, no_jump, owned_none, owned_one, tail_part}

-- ---- free instructions

free_fits : (c : List Outline) (start u : ℕ) (r : Role) → IsFree r → RoleFits c start u r
free_fits c start u (role.Indirect x) f = absurd f
free_fits c start u (role.StartArg t) f = absurd f
free_fits c start u (role.StartFn t g) f = absurd f
free_fits c start u (role.Load p) f = absurd f
free_fits c start u (role.Store p) f = absurd f
free_fits c start u (role.Lock p) f = absurd f
free_fits c start u _ f = tt

free_frames : (frame : Bool) (c : List Outline) (start u : ℕ) (r : Role) → IsFree r → FrameFits frame c start u r
free_frames frame c start u role.Enter f = absurd f
free_frames frame c start u role.Leave f = absurd f
free_frames frame c start u role.Return f = absurd f
free_frames frame c start u _ f = tt

free_named : (used : List ℕ) (r : Role) → IsFree r → NamesUsed used r
free_named used (role.Load p) f = absurd f
free_named used (role.StartFn t g) f = absurd f
free_named used _ f = tt

pub free_linked : (frame : Bool) (c : List Outline) (start u : ℕ) (i : Outline) → IsFree i.role → ((r : ℕ) → IsAmong i.used r → Served c start u r) → IsLinked frame c start u i
free_linked frame c start u i free served = record {
  served = served;
  fits = free_fits c start u i.role free;
  framed = free_frames frame c start u i.role free;
  named = free_named i.used i.role free;
}

free_starts_nothing : (c : List Outline) (i : Outline) (base k t r : ℕ) → IsFree i.role → HasRole (i ∷ []) base k (role.StartFn t r) → ⊥
free_starts_nothing c i base k t r free has = all_one (λ u j. j.role ≡ role.StartFn t r → ⊥) base i (λ is. subst IsFree is free) k has.instruction has.there has.is

module _ (c : List Outline) (start a b : ℕ) (live : List ℕ) (i : Outline) (h : IsPart c start a b live) (free : IsFree i.role) (quiet : i.target ≡ None) (known : AreAmong i.used live) where
  pub gives : i.defined ≡ Some b → IsPart (c ++ i ∷ []) start a (b + 1) (b ∷ live)
  gives is_b =
      let silent = all_one (λ u j. j.target ≡ None) (end_of c start) i quiet in
      let owned = owned_one i (end_of c start) b is_b in
      tail_part c (i ∷ []) start a b (b + 1) live h silent owned (b ∷ live)
      (λ frame. all_one (λ u j. IsLinked frame (c ++ i ∷ []) start u j) (end_of c start) i
      (free_linked frame (c ++ i ∷ []) start (end_of c start) i free (λ r uses. live_serves c (i ∷ []) start a b (b + 1) live h silent owned r (end_of c start) (known r uses) (omega arith) (omega arith))))
      (λ r is. ⊎_elim
      (λ (e : b ≡ r). inr (subst (IsLive (i ∷ []) (end_of c start)) e (last_live [] i (end_of c start) b (no_jump (i ∷ []) (end_of c start) silent) is_b)))
      (λ (x : IsAmong live r). inl x)
      is)
      (λ r k t is has. free_starts_nothing c i (end_of c start) k t r free has)

  pub uses : i.defined ≡ None → IsPart (c ++ i ∷ []) start a b live
  uses none =
      let silent = all_one (λ u j. j.target ≡ None) (end_of c start) i quiet in
      let owned = owned_none i (end_of c start) b none in
      tail_part c (i ∷ []) start a b b live h silent owned live
      (λ frame. all_one (λ u j. IsLinked frame (c ++ i ∷ []) start u j) (end_of c start) i
      (free_linked frame (c ++ i ∷ []) start (end_of c start) i free (λ r uses. live_serves c (i ∷ []) start a b b live h silent owned r (end_of c start) (known r uses) (omega arith) (omega arith))))
      (λ r is. inl is)
      (λ r k t is has. free_starts_nothing c i (end_of c start) k t r free has)

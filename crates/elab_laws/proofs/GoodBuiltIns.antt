-- The rows of built-in calls: each is a part where its arguments are.
use Rattle.std.proofs.Common.{◌≡◌, ◌≢◌, inl, ℕ, ◌+◌, [], ◌∷◌, ◌++◌, Some, None, refl, sym, subst}
use Rattle.c_types.specs.declared.ty.Ty.TheVariants as ty
use Rattle.c_typed.specs.declared.entity.BuiltIn.{BuiltIn}
use Rattle.c_typed.specs.declared.entity.BuiltIn.TheVariants as built_in
use Rattle.core_ir.specs.declared.instr.Instr.{Instr}
use Rattle.core_ir.specs.declared.instr.Instr.TheVariants.{Free, Input, Join, Lock, Malloc, Print, Touch, Unlock}
use Rattle.core_ir.specs.Instructions.{defined, role_of, target, used}
use Rattle.core_parts.specs.Pieces.{IsPart}
use Rattle.core_parts.specs.Theorems.{AreAmong, IsFree, PartLaws}
use Rattle.elab_rows.specs.Calls.{Listed, built_in_made, extended_list, first_of, followed_list}
use Rattle.elab_laws.proofs.GoodRows.{first_among}
use Rattle.elab_laws.proofs.Lifted.{fewer, gives, locks, unlocks, uses}
use Rattle.elab_laws.specs.Values.{AreValues, IsValue, outlines}

module _ (laws : PartLaws) (l : Listed) (r place register : ℕ) (is : l.results ≡ r ∷ []) (h : AreValues l place register) where
  part : IsPart (outlines l.code) place register l.register (r ∷ [])
  part = subst (λ rs. IsPart (outlines l.code) place register l.register rs) is h

  one_followed : (i : ℕ → Instr) → IsFree (role_of (i r)) → target (i r) ≡ None → defined (i r) ≡ None → AreAmong (used (i r)) (r ∷ []) → IsValue (followed_list (i (first_of l.results) ∷ []) l) place register []
  one_followed i free quiet none known =
      subst (λ rs. IsPart (outlines (l.code ++ i (first_of rs) ∷ [])) place register l.register (first_of rs ∷ [])) (sym is) (uses laws l.code (i r) place register l.register (r ∷ []) part free quiet none known)

  one_extended : (i : ℕ → ℕ → Instr) → IsFree (role_of (i l.register r)) → target (i l.register r) ≡ None → defined (i l.register r) ≡ Some l.register → AreAmong (used (i l.register r)) (r ∷ []) → IsValue (extended_list i l) place register []
  one_extended i free quiet defines known =
      subst (λ rs. IsPart (outlines (l.code ++ i l.register (first_of rs) ∷ [])) place register (l.register + 1) (l.register ∷ [])) (sym is)
      (fewer laws (l.code ++ i l.register r ∷ []) place register (l.register + 1) (l.register ∷ r ∷ []) (l.register ∷ []) (gives laws l.code (i l.register r) place register l.register (r ∷ []) part free quiet defines known)
      (first_among l.register (r ∷ [])))

  pub built_in_value : (b : BuiltIn) → b ≢ built_in.Spawn → IsValue (built_in_made b l) place register []
  built_in_value built_in.Spawn no_spawn = absurd (no_spawn refl)
  built_in_value built_in.Join no_spawn = one_followed (λ r. Join r) tt refl refl (λ r is. is)
  built_in_value built_in.Lock no_spawn =
      subst (λ rs. IsPart (outlines (l.code ++ Touch (first_of rs) ty.Int ∷ Lock (first_of rs) ∷ [])) place register l.register (first_of rs ∷ [])) (sym is) (locks laws l.code place register l.register (r ∷ []) r ty.Int part (inl refl))
  built_in_value built_in.Unlock no_spawn =
      subst (λ rs. IsPart (outlines (l.code ++ Touch (first_of rs) ty.Int ∷ Unlock (first_of rs) ∷ [])) place register l.register (first_of rs ∷ [])) (sym is) (unlocks laws l.code place register l.register (r ∷ []) r ty.Int part (inl refl))
  built_in_value built_in.Print no_spawn = one_followed (λ r. Print r) tt refl refl (λ r is. is)
  built_in_value built_in.Input no_spawn = one_extended (λ d r. Input d r) tt refl refl (λ r is. is)
  built_in_value built_in.Malloc no_spawn = one_extended (λ d r. Malloc d r) tt refl refl (λ r is. is)
  built_in_value built_in.Free no_spawn = one_followed (λ r. Free r) tt refl refl (λ r is. is)

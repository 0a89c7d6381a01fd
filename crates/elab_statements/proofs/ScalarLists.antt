-- The scalars of types that follow one another.
use Rattle.std.proofs.Common.{◌≡◌, ◌∙◌, ℕ, zero, suc, ◌+◌, List, [], ◌∷◌, ◌++◌, map, ap, sym, arith, append_assoc, append-nil}
use Rattle.c_types.specs.declared.structs.Member.{Member}
use Rattle.c_types.specs.declared.structs.StructDef.{StructDef}
use Rattle.c_types.specs.declared.ty.Ty.{Ty}
use Rattle.elab_rows.specs.Units.{repeated, scalars}
use Rattle.elab_pieces.specs.Initialisers.{all_scalars}

module _ (defs : List StructDef) where
  turned : (n : ℕ) (t : Ty) → all_scalars defs (repeated n (t ∷ [])) ++ scalars defs t ≡ all_scalars defs (repeated (suc n) (t ∷ []))
  turned zero t = sym (append-nil (scalars defs t))
  turned (suc n) t =
      append_assoc (scalars defs t) (all_scalars defs (repeated n (t ∷ []))) (scalars defs t)
      ∙ ap (λ ts. scalars defs t ++ ts) (turned n t)

  -- one element more
  pub elements_more : (n : ℕ) (t : Ty) → all_scalars defs (repeated n (t ∷ [])) ++ scalars defs t ≡ all_scalars defs (repeated (n + 1) (t ∷ []))
  elements_more n t =
      let e : suc n ≡ n + 1 = omega arith in turned n t ∙ ap (λ m. all_scalars defs (repeated m (t ∷ []))) e

  -- one member more
  pub members_more : (ms : List Member) (m : Member)
      → all_scalars defs (map (λ n. n.ty) (ms ++ m ∷ [])) ≡ all_scalars defs (map (λ n. n.ty) ms) ++ scalars defs m.ty
  members_more [] m = append-nil (scalars defs m.ty)
  members_more (n ∷ ms) m =
      ap (λ ts. scalars defs n.ty ++ ts) (members_more ms m)
      ∙ sym (append_assoc (scalars defs n.ty) (all_scalars defs (map (λ o. o.ty) ms)) (scalars defs m.ty))

-- The units of an array, by those of its element.
use Rattle.std.proofs.Common.{◌≡◌, ℕ, ◌*◌, Bool, true, false, if◌then◌else◌, nat_le, List, Option, Some, None, Result, Ok, Err, sym, ap, ◌∙◌}
use Rattle.std.specs.Option.{option_map, ok_or}
use Rattle.c_types.specs.declared.error.LayoutRefusal.{LayoutRefusal}
use Rattle.c_types.specs.declared.error.LayoutRefusal.TheVariants.{Incomplete, TooLarge}
use Rattle.c_types.specs.declared.structs.StructDef.{StructDef}
use Rattle.c_types.specs.declared.ty.Ty.{Ty, fold-roll-Ty}
use Rattle.c_types.specs.declared.ty.Ty.TheOpen.{Ty-F}
use Rattle.c_types.specs.declared.ty.Ty.TheVariants as ty
use Rattle.c_types.specs.Units.{exact_units, limited, most_units, sized, sized_step, units_of}

module _ (of_struct : ℕ → Option ℕ) where
  sized_array : (t : Ty) (bound : ℕ) → sized of_struct (ty.Array t bound) ≡ option_map (λ n. n * bound) (sized of_struct t)
  unfolding sized
  sized_array t bound =
      ap (sized of_struct) (sym (ty.rolls-Array t bound))
      ∙ fold-roll-Ty (Option ℕ) (Option ℕ) (sized_step of_struct) (λ f. None) (Ty-F.Array t bound)

allowed_by : (n u : ℕ) (b : Bool) → ◌≡◌ {A = Result ℕ LayoutRefusal} (if b then Ok n else Err TooLarge) (Ok u) → n ≡ u
allowed_by n u true is = cc
allowed_by n u false is = absurd (cc)

allowed : (o : Option ℕ) (u : ℕ) → limited (ok_or o Incomplete) ≡ Ok u → o ≡ Some u
allowed None u is = absurd (cc)
allowed (Some n) u is = ap Some (allowed_by n u (nat_le n most_units) is)

limited_few : (n : ℕ) → nat_le n most_units ≡ true → limited (Ok n) ≡ Ok n
limited_few n few = ap (λ b. if b then Ok n else Err TooLarge) few

module _ (defs : List StructDef) where
  exact_array : (t : Ty) (bound u : ℕ) → exact_units defs t ≡ Some u → exact_units defs (ty.Array t bound) ≡ Some (u * bound)
  unfolding exact_units
  exact_array t bound u is = sized_array _ t bound ∙ ap (option_map (λ n. n * bound)) is

  pub units_array : (t : Ty) (bound u : ℕ) → units_of defs t ≡ Ok u → nat_le (u * bound) most_units ≡ true → units_of defs (ty.Array t bound) ≡ Ok (u * bound)
  unfolding units_of
  units_array t bound u is few =
      ap (λ o. limited (ok_or o Incomplete)) (exact_array t bound u (allowed (exact_units defs t) u is)) ∙ limited_few (u * bound) few

-- A type whose bounds are at least 1 has a unit at least, where the bodies of structs have members with such types.
use Rattle.std.proofs.Common.{◌≡◌, ◌∙◌, ◌≤◌, ℕ, zero, suc, ◌+◌, ◌*◌, true, false, nat_le, List, [], ◌∷◌, length, map, Option, Some, None, slice_get, leb-true, refl, sym, subst, arith}
use Rattle.std.specs.Option.{option_and_then, option_map}
use Rattle.c_types.specs.declared.structs.Member.{Member}
use Rattle.c_types.specs.declared.structs.StructDef.{StructDef}
use Rattle.c_types.specs.declared.ty.FnTy.{FnTy, fold-FnTy}
use Rattle.c_types.specs.declared.ty.Ty.{Ty, fold-roll-Ty, ind-Ty, map-Ty, roll-Ty}
use Rattle.c_types.specs.declared.ty.Ty.TheOpen.{Ty-F}
use Rattle.c_types.specs.Kinds.{Outer}
use Rattle.c_types.specs.Structs.{body_of}
use Rattle.c_types.specs.Units.{body_units, exact_units, sized, sized_step, struct_units, total}
use Rattle.c_typing_types.specs.Types.{has_bounds}
use Rattle.c_typing_types.proofs.Good.{both}
use Rattle.c_typing_types.proofs.Known.{at-held}
use Rattle.c_typing_types.proofs.Steps.{BodyFine, MembersFine, StructsFine}
use Rattle.c_typing_types.proofs.Tests.{bounds, bounds-made}

-- what is found, if something is, is at least 1
abbrev Positive : Option ℕ → Type 0
Positive o = (n : ℕ) → o ≡ Some n → 1 ≤ n

impossible : (P : Type 0) → false ≡ true → P
impossible P is = cc

none-positive : Positive None
none-positive n is = cc

one-positive : Positive (Some 1)
one-positive n is = let same : 1 ≡ n = cc in omega arith

product-positive : (m n : ℕ) → 1 ≤ m → 1 ≤ n → 1 ≤ m * n
product-positive zero n first second = absurd (zero-positive first)
  where
    zero-positive : 1 ≤ 0 → ⊥
    zero-positive is = omega arith
product-positive (suc m) n first second = let s : 1 ≤ n = second in omega arith

times-positive : (o : Option ℕ) (bound : ℕ) → Positive o → 1 ≤ bound → Positive (option_map (λ n. n * bound) o)
times-positive None bound first second n is = cc
times-positive (Some m) bound first second n is = let same : m * bound ≡ n = cc in subst (λ k. 1 ≤ k) same (product-positive m bound (first m refl) second)

-- ---- types, where structs have a unit at least

module _ (of_struct : ℕ → Option ℕ) (structs : (s : ℕ) → Positive (of_struct s)) where
  abbrev function_units : FnTy → Option ℕ
  function_units = fold-FnTy (Option ℕ) (Option ℕ) (sized_step of_struct) (λ f. None)

  sized-made : (y : Outer) → sized of_struct (roll-Ty y) ≡ sized_step of_struct (map-Ty Ty FnTy (Option ℕ) (Option ℕ) (sized of_struct) function_units y)
  unfolding sized
  sized-made y = fold-roll-Ty (Option ℕ) (Option ℕ) (sized_step of_struct) (λ f. None) y

  abbrev IsPositive : Ty → Type 0
  IsPositive t = has_bounds t ≡ true → Positive (sized of_struct t)

  abbrev Held : Type 0
  Held = Ty-F ((t : Ty) × IsPositive t) ((f : FnTy) × Unit {0})

  abbrev bare : Held → Outer
  bare = map-Ty ((t : Ty) × IsPositive t) ((f : FnTy) × Unit {0}) Ty FnTy (λ e. e.0) (λ e. e.0)

  by : (y : Outer) → Positive (sized_step of_struct (map-Ty Ty FnTy (Option ℕ) (Option ℕ) (sized of_struct) function_units y)) → Positive (sized of_struct (roll-Ty y))
  by y positive = subst Positive (sym (sized-made y)) positive

  made : (y : Held) → IsPositive (roll-Ty (bare y))
  made Ty-F.Int fine = by Ty-F.Int one-positive
  made Ty-F.Char fine = by Ty-F.Char one-positive
  made Ty-F.Void fine = by Ty-F.Void none-positive
  made (Ty-F.Struct s) fine = by (Ty-F.Struct s) (structs s)
  made (Ty-F.Pointer t) fine = by (Ty-F.Pointer t.0) one-positive
  made (Ty-F.Array t bound) fine =
      let h = both (has_bounds t.0) (nat_le 1 bound) (sym (bounds-made (Ty-F.Array t.0 bound)) ∙ fine) in
      by (Ty-F.Array t.0 bound) (times-positive (sized of_struct t.0) bound (t.1 h.0) (leb-true 1 bound h.1))
  made (Ty-F.Function f) fine = by (Ty-F.Function f.0) none-positive

  sized-positive : (t : Ty) → IsPositive t
  sized-positive = ind-Ty IsPositive (λ f. Unit {0}) (λ x y is. subst (λ z. IsPositive (roll-Ty z)) is (made y)) (λ x y is. tt)

-- ---- structs

sum-positive : (o : Option ℕ) (os : List (Option ℕ)) → Positive o → Positive (total (o ∷ os))
sum-positive None os first n is = cc
sum-positive (Some m) os first n is = added (total os) m (first m refl) n is
  where
    added : (o : Option ℕ) (m : ℕ) → 1 ≤ m → (n : ℕ) → option_map (λ n. m + n) o ≡ Some n → 1 ≤ n
    added None m least n is = cc
    added (Some k) m least n is = let same : m + k ≡ n = cc in let l : 1 ≤ m = least in omega arith

module _ (count : ℕ) (defs : List StructDef) (fine : StructsFine (bounds count) defs) where
  members-positive : (of_struct : ℕ → Option ℕ) → ((s : ℕ) → Positive (of_struct s)) → (ms : List Member) → BodyFine (bounds count) (Some ms) → Positive (body_units of_struct ms)
  members-positive of_struct structs [] all = impossible (Positive (body_units of_struct [])) all.1
  members-positive of_struct structs (m ∷ ms) all = sum-positive (sized of_struct m.ty) (map (λ m. sized of_struct m.ty) ms) (sized-positive of_struct structs m.ty all.0.0)

  body-positive : (of_struct : ℕ → Option ℕ) → ((s : ℕ) → Positive (of_struct s)) → (o : Option (List Member)) → BodyFine (bounds count) o → Positive (option_and_then (λ ms. body_units of_struct ms) o)
  body-positive of_struct structs None all = none-positive
  body-positive of_struct structs (Some ms) all = members-positive of_struct structs ms all

  body-fine : (o : Option StructDef) (s : ℕ) → slice_get defs s ≡ o → BodyFine (bounds count) (option_and_then (λ d. d.members) o)
  body-fine None s is = tt
  body-fine (Some d) s is = at-held (λ d. BodyFine (bounds count) d.members) defs s d fine is

  pub members-bounded : (s : ℕ) (ms : List Member) → body_of defs s ≡ Some ms → MembersFine (bounds count) ms
  members-bounded s ms is = let fine : BodyFine (bounds count) (Some ms) = subst (BodyFine (bounds count)) is (body-fine (slice_get defs s) s refl) in fine.0

  struct-positive : (depth s : ℕ) → Positive (struct_units depth defs s)
  unfolding struct_units
  struct-positive zero s = none-positive
  struct-positive (suc depth) s = body-positive (struct_units depth defs) (struct-positive depth) (body_of defs s) (body-fine (slice_get defs s) s refl)

  pub units-positive : (t : Ty) → has_bounds t ≡ true → Positive (exact_units defs t)
  unfolding exact_units
  units-positive t bounded = sized-positive (struct_units (length defs) defs) (struct-positive (length defs)) t bounded

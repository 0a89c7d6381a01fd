-- What operators take and give: scalars, whose types are `int` or those of the operands.
use Rattle.std.proofs.Common.{◌≡◌, Bool, true, false, ◌&&◌, ◌||◌, ◌⊎◌, inl, inr, List, Option, Some, None, option_map, is_some, unwrap_or, refl, subst, ⊎_elim}
use Rattle.std.specs.Option.{option_or}
use Rattle.std.proofs.lemmas.Option.{same_Some}
use Rattle.c_types.specs.declared.structs.StructDef.{StructDef}
use Rattle.c_types.specs.declared.ty.Ty.{Ty}
use Rattle.c_types.specs.declared.ty.Ty.TheVariants as ty
use Rattle.c_types.specs.Kinds.{is_integer, is_pointer, is_scalar, is_void_pointer, passes, target_of}
use Rattle.c_types.specs.Same.{same}
use Rattle.c_types.specs.Theorems.{SameIsEquality}
use Rattle.c_types.specs.Units.{has_units}
use Rattle.c_tree.specs.declared.operator.BinaryOperator.{BinaryOperator}
use Rattle.c_tree.specs.declared.operator.BinaryOperator.TheVariants as op
use Rattle.c_operators.specs.Operators.{added, chosen_type, common_type, compared, if_fits, integers, is_counted, operated_types, ordered, subtracted, tested}
use Rattle.elab_valid.proofs.TypeKinds.{either, first, integer-scalar, pointer-scalar, second, void_pointer-scalar}

-- ---- options

pub alternative : {A : Type 0} (x y : Option A) (t : A) → option_or x y ≡ Some t → (x ≡ Some t) ⊎ (y ≡ Some t)
alternative None y t e = inr e
alternative (Some a) y t e = inl e

pub fitted : (test : Bool) (t u : Ty) → if_fits test t ≡ Some u → (test ≡ true) × (t ≡ u)
fitted true t u e = (refl, same_Some t u e)
fitted false t u e = absurd (cc)

pointed : (test : Ty → Bool) (o : Option Ty) → passes test o ≡ true → is_some o ≡ true
pointed test None h = cc
pointed test (Some t) h = refl

pub counted-pointer : (defs : List StructDef) (t : Ty) → is_counted defs t ≡ true → is_pointer t ≡ true
unfolding is_counted is_pointer
counted-pointer defs t h = pointed (has_units defs) (target_of t) h

counted-scalar : (defs : List StructDef) (t : Ty) → is_counted defs t ≡ true → is_scalar t ≡ true
unfolding is_counted is_pointer
counted-scalar defs t h = pointer-scalar t (pointed (has_units defs) (target_of t) h)

-- ---- what is given has what `int` and both operands' types have

module _ (Q : Ty → Type 0) (int : Q ty.Int) where
  abbrev Only : Option Ty → Type 0
  Only o = (t : Ty) → o ≡ Some t → Q t

  or-only : (x y : Option Ty) → Only x → Only y → Only (option_or x y)
  or-only x y hx hy t e = ⊎_elim (λ h. hx t h) (λ h. hy t h) (alternative x y t e)

  fits-only : (test : Bool) (u : Ty) → Q u → Only (if_fits test u)
  fits-only test u h t e = subst Q (fitted test u t e).1 h

  map-only : (o : Option Ty) → Only (option_map (λ (t : Ty). ty.Int) o)
  map-only None t e = absurd (cc)
  map-only (Some u) t e = subst Q (same_Some ty.Int t e) int

  pub given : (o : Option Ty) → Only o → Q (unwrap_or o ty.Int)
  given None h = int
  given (Some t) h = h t refl

  module _ (defs : List StructDef) (a : Ty) (a_null : Bool) (b : Ty) (b_null : Bool) (at_a : Q a) (at_b : Q b) where
    integers-only : Only (integers a b)
    unfolding integers
    integers-only = fits-only (is_integer a && is_integer b) ty.Int int

    pub common-only : Only (common_type a a_null b b_null)
    unfolding common_type
    common-only =
        or-only (integers a b) _ integers-only
        (or-only (if_fits (is_pointer a && same a b) a) _ (fits-only (is_pointer a && same a b) a at_a)
        (or-only (if_fits (is_pointer a && is_void_pointer b) b) _ (fits-only (is_pointer a && is_void_pointer b) b at_b)
        (or-only (if_fits (is_void_pointer a && is_pointer b) a) _ (fits-only (is_void_pointer a && is_pointer b) a at_a)
        (or-only (if_fits (is_pointer a && b_null) a) _ (fits-only (is_pointer a && b_null) a at_a)
        (fits-only (a_null && is_pointer b) b at_b)))))

    pub chosen-only : Only (chosen_type a a_null b b_null)
    unfolding chosen_type
    chosen-only =
        or-only (integers a b) _ integers-only
        (or-only (if_fits (is_pointer a && same a b) a) _ (fits-only (is_pointer a && same a b) a at_a)
        (or-only (if_fits (is_pointer a && b_null) a) _ (fits-only (is_pointer a && b_null) a at_a)
        (fits-only (a_null && is_pointer b) b at_b)))

    added-only : Only (added defs a b)
    unfolding added
    added-only =
        or-only (integers a b) _ integers-only
        (or-only (if_fits (is_counted defs a && is_integer b) a) _ (fits-only (is_counted defs a && is_integer b) a at_a)
        (fits-only (is_integer a && is_counted defs b) b at_b))

    subtracted-only : Only (subtracted defs a b)
    unfolding subtracted
    subtracted-only =
        or-only (integers a b) _ integers-only
        (or-only (if_fits (is_counted defs a && is_integer b) a) _ (fits-only (is_counted defs a && is_integer b) a at_a)
        (fits-only (is_counted defs a && same a b) ty.Int int))

    ordered-only : Only (ordered a b)
    unfolding ordered
    ordered-only = fits-only ((is_integer a && is_integer b) || (is_pointer a && same a b)) ty.Int int

    compared-only : Only (compared a a_null b b_null)
    unfolding compared
    compared-only = map-only (common_type a a_null b b_null)

    tested-only : Only (tested a b)
    unfolding tested
    tested-only = fits-only (is_scalar a && is_scalar b) ty.Int int

    pub operated-only : (o : BinaryOperator) → Only (operated_types defs o a a_null b b_null)
    operated-only op.LogicalOr = tested-only
    operated-only op.LogicalAnd = tested-only
    operated-only op.Equal = compared-only
    operated-only op.NotEqual = compared-only
    operated-only op.Less = ordered-only
    operated-only op.Greater = ordered-only
    operated-only op.LessEqual = ordered-only
    operated-only op.GreaterEqual = ordered-only
    operated-only op.Add = added-only
    operated-only op.Subtract = subtracted-only
    operated-only op.BitwiseOr = integers-only
    operated-only op.BitwiseExclusiveOr = integers-only
    operated-only op.BitwiseAnd = integers-only
    operated-only op.ShiftLeft = integers-only
    operated-only op.ShiftRight = integers-only
    operated-only op.Multiply = integers-only
    operated-only op.Divide = integers-only
    operated-only op.Remainder = integers-only

-- ---- what is taken are scalars

module _ (equal : SameIsEquality) (defs : List StructDef) (a : Ty) (a_null : Bool) (b : Ty) (b_null : Bool)
    (null_a : a_null ≡ true → is_scalar a ≡ true) (null_b : b_null ≡ true → is_scalar b ≡ true) where
  abbrev pub Scalars : Type 0
  Scalars = (is_scalar a ≡ true) × (is_scalar b ≡ true)

  abbrev Takes : Option Ty → Type 0
  Takes o = (t : Ty) → o ≡ Some t → Scalars

  or-takes : (x y : Option Ty) → Takes x → Takes y → Takes (option_or x y)
  or-takes x y hx hy t e = ⊎_elim (λ h. hx t h) (λ h. hy t h) (alternative x y t e)

  fits-takes : (test : Bool) (u : Ty) → (test ≡ true → Scalars) → Takes (if_fits test u)
  fits-takes test u h t e = h (fitted test u t e).0

  map-takes : (o : Option Ty) → Takes o → Takes (option_map (λ (t : Ty). ty.Int) o)
  map-takes None h t e = absurd (cc)
  map-takes (Some u) h t e = h u refl

  both-integers : (is_integer a && is_integer b) ≡ true → Scalars
  both-integers h = (integer-scalar a (first (is_integer a) (is_integer b) h), integer-scalar b (second (is_integer a) (is_integer b) h))

  same-scalars : (test : Bool) → (test ≡ true → is_scalar a ≡ true) → (test && same a b) ≡ true → Scalars
  same-scalars test scalar h =
      let s = scalar (first test (same a b) h) in
      (s, subst (λ u. is_scalar u ≡ true) ((equal a b).0 (second test (same a b) h)) s)

  integers-take : Takes (integers a b)
  unfolding integers
  integers-take = fits-takes (is_integer a && is_integer b) ty.Int both-integers

  same-take : (u : Ty) → Takes (if_fits (is_pointer a && same a b) u)
  same-take u = fits-takes (is_pointer a && same a b) u (same-scalars (is_pointer a) (pointer-scalar a))

  null-right : Takes (if_fits (is_pointer a && b_null) a)
  null-right = fits-takes (is_pointer a && b_null) a (λ h. (pointer-scalar a (first (is_pointer a) b_null h), null_b (second (is_pointer a) b_null h)))

  null-left : Takes (if_fits (a_null && is_pointer b) b)
  null-left = fits-takes (a_null && is_pointer b) b (λ h. (null_a (first a_null (is_pointer b) h), pointer-scalar b (second a_null (is_pointer b) h)))

  common-take : Takes (common_type a a_null b b_null)
  unfolding common_type
  common-take =
      or-takes (integers a b) _ integers-take
      (or-takes (if_fits (is_pointer a && same a b) a) _ (same-take a)
      (or-takes (if_fits (is_pointer a && is_void_pointer b) b) _
      (fits-takes (is_pointer a && is_void_pointer b) b (λ h. (pointer-scalar a (first (is_pointer a) (is_void_pointer b) h), void_pointer-scalar b (second (is_pointer a) (is_void_pointer b) h))))
      (or-takes (if_fits (is_void_pointer a && is_pointer b) a) _
      (fits-takes (is_void_pointer a && is_pointer b) a (λ h. (void_pointer-scalar a (first (is_void_pointer a) (is_pointer b) h), pointer-scalar b (second (is_void_pointer a) (is_pointer b) h))))
      (or-takes (if_fits (is_pointer a && b_null) a) _ null-right null-left))))

  pub chosen-take : Takes (chosen_type a a_null b b_null)
  unfolding chosen_type
  chosen-take =
      or-takes (integers a b) _ integers-take
      (or-takes (if_fits (is_pointer a && same a b) a) _ (same-take a)
      (or-takes (if_fits (is_pointer a && b_null) a) _ null-right null-left))

  counted-integer : (is_counted defs a && is_integer b) ≡ true → Scalars
  counted-integer h = (counted-scalar defs a (first (is_counted defs a) (is_integer b) h), integer-scalar b (second (is_counted defs a) (is_integer b) h))

  integer-counted : (is_integer a && is_counted defs b) ≡ true → Scalars
  integer-counted h = (integer-scalar a (first (is_integer a) (is_counted defs b) h), counted-scalar defs b (second (is_integer a) (is_counted defs b) h))

  added-take : Takes (added defs a b)
  unfolding added
  added-take =
      or-takes (integers a b) _ integers-take
      (or-takes (if_fits (is_counted defs a && is_integer b) a) _ (fits-takes (is_counted defs a && is_integer b) a counted-integer)
      (fits-takes (is_integer a && is_counted defs b) b integer-counted))

  subtracted-take : Takes (subtracted defs a b)
  unfolding subtracted
  subtracted-take =
      or-takes (integers a b) _ integers-take
      (or-takes (if_fits (is_counted defs a && is_integer b) a) _ (fits-takes (is_counted defs a && is_integer b) a counted-integer)
      (fits-takes (is_counted defs a && same a b) ty.Int (same-scalars (is_counted defs a) (counted-scalar defs a))))

  ordered-take : Takes (ordered a b)
  unfolding ordered
  ordered-take = fits-takes ((is_integer a && is_integer b) || (is_pointer a && same a b)) ty.Int
      (λ h. ⊎_elim both-integers (same-scalars (is_pointer a) (pointer-scalar a)) (either (is_integer a && is_integer b) (is_pointer a && same a b) h))

  compared-take : Takes (compared a a_null b b_null)
  unfolding compared
  compared-take = map-takes (common_type a a_null b b_null) common-take

  tested-take : Takes (tested a b)
  unfolding tested
  tested-take = fits-takes (is_scalar a && is_scalar b) ty.Int (λ h. (first (is_scalar a) (is_scalar b) h, second (is_scalar a) (is_scalar b) h))

  pub operated-take : (o : BinaryOperator) → Takes (operated_types defs o a a_null b b_null)
  operated-take op.LogicalOr = tested-take
  operated-take op.LogicalAnd = tested-take
  operated-take op.Equal = compared-take
  operated-take op.NotEqual = compared-take
  operated-take op.Less = ordered-take
  operated-take op.Greater = ordered-take
  operated-take op.LessEqual = ordered-take
  operated-take op.GreaterEqual = ordered-take
  operated-take op.Add = added-take
  operated-take op.Subtract = subtracted-take
  operated-take op.BitwiseOr = integers-take
  operated-take op.BitwiseExclusiveOr = integers-take
  operated-take op.BitwiseAnd = integers-take
  operated-take op.ShiftLeft = integers-take
  operated-take op.ShiftRight = integers-take
  operated-take op.Multiply = integers-take
  operated-take op.Divide = integers-take
  operated-take op.Remainder = integers-take

-- A row that is met stays met where more is known of structs.
use Rattle.std.proofs.Common.{◌≡◌, ℕ, Bool, true, false, ◌&&◌, ◌||◌, if◌then◌else◌, List, Option, Some, None, slice_get, Ok, refl, ap, sym, subst}
use Rattle.std.specs.Option.{ok_or, option_map, option_and_then, option_or}
use Rattle.std.specs.Result.{is_ok}
use Rattle.tables.specs.Places.{place_of}
use Rattle.c_tree.specs.declared.operator.BinaryOperator.{BinaryOperator}
use Rattle.c_tree.specs.declared.operator.BinaryOperator.TheVariants as op
use Rattle.c_types.specs.declared.error.LayoutRefusal.TheVariants.{Incomplete}
use Rattle.c_types.specs.declared.structs.Member.{Member}
use Rattle.c_types.specs.declared.structs.StructDef.{StructDef}
use Rattle.c_types.specs.declared.ty.Ty.{Ty, out-Ty}
use Rattle.c_types.specs.declared.ty.Ty.TheOpen.{Ty-F}
use Rattle.c_types.specs.declared.ty.Ty.TheVariants as ty
use Rattle.c_types.specs.Kinds.{Outer, is_integer, is_integer_at, passes, struct_of, target_at, target_of}
use Rattle.c_types.specs.Same.{same}
use Rattle.c_types.specs.Structs.{body_of}
use Rattle.c_types.specs.Theorems.{Extends, UnitsStay}
use Rattle.c_types.specs.Units.{exact_units, has_units, limited, units_of}
use Rattle.c_typed.specs.declared.expression.TypedExpr.{TypedExpr}
use Rattle.c_scope.specs.BuiltIns.{Name}
use Rattle.c_operators.specs.Operators.{added, if_fits, integers, is_counted, operated, subtracted, value_type}
use Rattle.c_rules.specs.Rules.{member_behind, member_in, member_of}

-- ---- units

ok_stays : (o p : Option ℕ) (n : ℕ) → ((m : ℕ) → o ≡ Some m → p ≡ Some m) → limited (ok_or o Incomplete) ≡ Ok n → limited (ok_or p Incomplete) ≡ Ok n
ok_stays None p n stays is = cc
ok_stays (Some m) p n stays is = subst (λ q. limited (ok_or q Incomplete) ≡ Ok n) (sym (stays m refl)) is

fine_stays : (o p : Option ℕ) → ((m : ℕ) → o ≡ Some m → p ≡ Some m) → is_ok (limited (ok_or o Incomplete)) ≡ true → is_ok (limited (ok_or p Incomplete)) ≡ true
fine_stays None p stays is = cc
fine_stays (Some m) p stays is = subst (λ q. is_ok (limited (ok_or q Incomplete)) ≡ true) (sym (stays m refl)) is

-- ---- integers are no pointers

integer_outer : (o : Outer) → is_integer_at o ≡ true → target_at o ≡ None
integer_outer Ty-F.Int is = refl
integer_outer Ty-F.Char is = refl
integer_outer _ is = cc

integer-no_target : (t : Ty) → is_integer t ≡ true → target_of t ≡ None
unfolding is_integer target_of
integer-no_target t is = integer_outer (out-Ty t) is

-- ---- sums

chosen_sum : (i : Option Ty) (a b t : Ty) (ca more_a ia cb more_b ib : Bool) → (ca ≡ true → more_a ≡ true) → (cb ≡ true → more_b ≡ true) → (ia ≡ true → more_a ≡ false)
    → option_or i (option_or (if_fits (ca && ib) a) (if_fits (ia && cb) b)) ≡ Some t
    → option_or i (option_or (if_fits (more_a && ib) a) (if_fits (ia && more_b) b)) ≡ Some t
chosen_sum (Some u) a b t ca more_a ia cb more_b ib first second apart is = is
chosen_sum None a b t true more_a ia cb more_b true first second apart is = subst (λ m. option_or (if_fits (m && true) a) (if_fits (ia && more_b) b) ≡ Some t) (sym (first refl)) is
chosen_sum None a b t true more_a true cb more_b false first second apart is = let x : more_a ≡ true = first refl in let y : more_a ≡ false = apart refl in cc
chosen_sum None a b t true more_a false cb more_b false first second apart is = cc
chosen_sum None a b t false more_a false cb more_b ib first second apart is = cc
chosen_sum None a b t false more_a true false more_b ib first second apart is = cc
chosen_sum None a b t false more_a true true more_b ib first second apart is =
    subst (λ m. option_or (if_fits (m && ib) a) (if_fits (true && more_b) b) ≡ Some t) (sym (apart refl))
    (subst (λ m. option_or None (if_fits (true && m) b) ≡ Some t) (sym (second refl)) is)

chosen_difference : (i : Option Ty) (a b t : Ty) (ca more_a ib alike : Bool) → (ca ≡ true → more_a ≡ true)
    → option_or i (option_or (if_fits (ca && ib) a) (if_fits (ca && alike) b)) ≡ Some t
    → option_or i (option_or (if_fits (more_a && ib) a) (if_fits (more_a && alike) b)) ≡ Some t
chosen_difference (Some u) a b t ca more_a ib alike first is = is
chosen_difference None a b t true more_a ib alike first is = subst (λ m. option_or (if_fits (m && ib) a) (if_fits (m && alike) b) ≡ Some t) (sym (first refl)) is
chosen_difference None a b t false more_a ib alike first is = cc

-- ---- members

abbrev in_body : Name → Option (List Member) → Option (ℕ × Ty)
in_body x o = option_and_then (λ n. option_map (λ t. (n, t)) (option_map (λ m. m.ty) (option_and_then (λ ms. slice_get ms n) o))) (option_and_then (λ ms. place_of (λ m. m.name) ms x) o)

body_stays : (x : Name) (r : ℕ × Ty) (o p : Option (List Member)) → ((ms : List Member) → o ≡ Some ms → p ≡ Some ms) → in_body x o ≡ Some r → in_body x p ≡ Some r
body_stays x r None p stays is = cc
body_stays x r (Some ms) p stays is = subst (λ q. in_body x q ≡ Some r) (sym (stays ms refl)) is

guarded : {A : Type 0} (b c : Bool) (o p : Option A) (a : A) → (b ≡ true → c ≡ true) → (o ≡ Some a → p ≡ Some a) → (if b then o else None) ≡ Some a → (if c then p else None) ≡ Some a
guarded true c o p a passes stays is = subst (λ d. (if d then p else None) ≡ Some a) (sym (passes refl)) (stays is)
guarded false c o p a passes stays is = cc

-- ---- in a table that has more

module _ (stay : UnitsStay) (defs more : List StructDef) (grown : Extends defs more) where
  pub units_of-stays : (t : Ty) (n : ℕ) → units_of defs t ≡ Ok n → units_of more t ≡ Ok n
  unfolding units_of
  units_of-stays t n is = ok_stays (exact_units defs t) (exact_units more t) n (stay.units defs more grown t) is

  pub has_units-stays : (t : Ty) → has_units defs t ≡ true → has_units more t ≡ true
  unfolding has_units units_of
  has_units-stays t is = fine_stays (exact_units defs t) (exact_units more t) (stay.units defs more grown t) is

  target_stays : (o : Option Ty) → passes (has_units defs) o ≡ true → passes (has_units more) o ≡ true
  target_stays None is = cc
  target_stays (Some t) is = has_units-stays t is

  counted-stays : (t : Ty) → is_counted defs t ≡ true → is_counted more t ≡ true
  unfolding is_counted
  counted-stays t is = target_stays (target_of t) is

  integer-uncounted : (t : Ty) → is_integer t ≡ true → is_counted more t ≡ false
  unfolding is_counted
  integer-uncounted t is = ap (passes (has_units more)) (integer-no_target t is)

  added-stays : (a b t : Ty) → added defs a b ≡ Some t → added more a b ≡ Some t
  unfolding added
  added-stays a b t is = chosen_sum (integers a b) a b t (is_counted defs a) (is_counted more a) (is_integer a) (is_counted defs b) (is_counted more b) (is_integer b)
      (counted-stays a) (counted-stays b) (integer-uncounted a) is

  subtracted-stays : (a b t : Ty) → subtracted defs a b ≡ Some t → subtracted more a b ≡ Some t
  unfolding subtracted
  subtracted-stays a b t is = chosen_difference (integers a b) a ty.Int t (is_counted defs a) (is_counted more a) (is_integer b) (same a b) (counted-stays a) is

  pub operated-stays : (o : BinaryOperator) (x y : TypedExpr) (t : Ty) → operated defs o x y ≡ Some t → operated more o x y ≡ Some t
  unfolding operated
  operated-stays op.Add x y t is = added-stays (value_type x) (value_type y) t is
  operated-stays op.Subtract x y t is = subtracted-stays (value_type x) (value_type y) t is
  operated-stays op.BitwiseOr x y t is = is
  operated-stays op.BitwiseExclusiveOr x y t is = is
  operated-stays op.BitwiseAnd x y t is = is
  operated-stays op.Equal x y t is = is
  operated-stays op.NotEqual x y t is = is
  operated-stays op.Less x y t is = is
  operated-stays op.Greater x y t is = is
  operated-stays op.LessEqual x y t is = is
  operated-stays op.GreaterEqual x y t is = is
  operated-stays op.ShiftLeft x y t is = is
  operated-stays op.ShiftRight x y t is = is
  operated-stays op.Multiply x y t is = is
  operated-stays op.Divide x y t is = is
  operated-stays op.Remainder x y t is = is
  operated-stays op.LogicalOr x y t is = is
  operated-stays op.LogicalAnd x y t is = is

  member_in-stays : (x : Name) (s : ℕ) (r : ℕ × Ty) → member_in defs x s ≡ Some r → member_in more x s ≡ Some r
  member_in-stays x s r is = body_stays x r (body_of defs s) (body_of more s) (grown.bodies s) is

  of_struct-stays : (x : Name) (o : Option ℕ) (r : ℕ × Ty) → option_and_then (member_in defs x) o ≡ Some r → option_and_then (member_in more x) o ≡ Some r
  of_struct-stays x None r is = is
  of_struct-stays x (Some s) r is = member_in-stays x s r is

  pub member_of-stays : (x : Name) (t : Ty) (r : ℕ × Ty) → member_of defs x t ≡ Some r → member_of more x t ≡ Some r
  unfolding member_of
  member_of-stays x t r is = guarded (has_units defs t) (has_units more t) _ _ r (has_units-stays t) (of_struct-stays x (struct_of t) r) is

  behind-stays : (x : Name) (o : Option Ty) (r : ℕ × Ty) → option_and_then (member_of defs x) o ≡ Some r → option_and_then (member_of more x) o ≡ Some r
  behind-stays x None r is = is
  behind-stays x (Some t) r is = member_of-stays x t r is

  pub member_behind-stays : (e : TypedExpr) (x : Name) (r : ℕ × Ty) → member_behind defs e x ≡ Some r → member_behind more e x ≡ Some r
  unfolding member_behind
  member_behind-stays e x r is = behind-stays x (target_of (value_type e)) r is

  pub known_or_units-stays : (b : Bool) (t : Ty) → (b || has_units defs t) ≡ true → (b || has_units more t) ≡ true
  known_or_units-stays true t is = refl
  known_or_units-stays false t is = has_units-stays t is

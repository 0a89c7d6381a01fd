-- Members whose types have units that aren't refused: their sum is known, and it stays when a table grows.
use Rattle.std.proofs.Common.{◌≡◌, ℕ, zero, suc, ◌+◌, ◌≤◌, ◌<◌, Bool, true, false, ◌&&◌, if◌then◌else◌, nat_le, List, [], ◌∷◌, length, map, take, sum, Option, Some, None, unwrap_or, Result, Ok, Err, refl, sym, ap, ◌∙◌, add-zero, add_assoc, arith}
use Rattle.std.specs.Prelude.{is_ok}
use Rattle.std.specs.Option.{ok_or, option_map, option_and_then}
use Rattle.std.specs.List.{slice_get}
use Rattle.std.proofs.lemmas.List.Sums.{sum_by-cons}
use Rattle.c_types.specs.declared.error.LayoutRefusal.{LayoutRefusal}
use Rattle.c_types.specs.declared.error.LayoutRefusal.TheVariants.{Incomplete, TooLarge}
use Rattle.c_types.specs.declared.ty.Ty.{Ty}
use Rattle.c_types.specs.declared.structs.Member.{Member}
use Rattle.c_types.specs.declared.structs.StructDef.{StructDef}
use Rattle.c_types.specs.Units.{most_units, exact_units, limited, units_of, has_units, total, sum_of, added}
use Rattle.c_types.specs.Sound.{names_below, is_member_type, are_members}
use Rattle.c_types.specs.inner.Layouts.{capped, sums_before, member_units, layout_of}
use Rattle.c_types.proofs.Growing.{Covers}
use Rattle.c_types.proofs.NamesBelow.{names_below_more}

pub sum_cons : (u : ℕ) (us : List ℕ) → sum (u ∷ us) ≡ u + sum us
sum_cons u us = sum_by-cons (λ x. x) u us

pub both : (a b : Bool) → (a && b) ≡ true → (a ≡ true) × (b ≡ true)
both true b is = (refl, is)
both false b is = absurd (cc)

pub together : (a b : Bool) → a ≡ true → b ≡ true → (a && b) ≡ true
together a b is and = ap (λ c. c && b) is ∙ and

-- units that aren't refused
pub record Allowed (o : Option ℕ) : Type 0 where
  pub units : ℕ
  pub is : o ≡ Some units
  pub few : nat_le units most_units ≡ true

allowed_by : (n : ℕ) (b : Bool) → nat_le n most_units ≡ b → is_ok {E = LayoutRefusal} (if b then Ok n else Err TooLarge) ≡ true → Allowed (Some n)
allowed_by n true is ok = record { units = n; is = refl; few = is }
allowed_by n false is ok = absurd (cc)

allowed : (o : Option ℕ) → is_ok (limited (ok_or o Incomplete)) ≡ true → Allowed o
allowed None ok = absurd (cc)
allowed (Some n) ok = allowed_by n (nat_le n most_units) refl ok

limited_few : (n : ℕ) → nat_le n most_units ≡ true → limited (Ok n) ≡ Ok n
limited_few n few = ap (λ b. if b then Ok n else Err TooLarge) few

answer_few : (o : Option ℕ) (a : Allowed o) → limited (ok_or o Incomplete) ≡ Ok a.units
answer_few o a = ap (λ p. limited (ok_or p Incomplete)) a.is ∙ limited_few a.units a.few

module _ (defs : List StructDef) where
  pub units_allowed : (t : Ty) → has_units defs t ≡ true → Allowed (exact_units defs t)
  unfolding has_units units_of
  units_allowed t has = allowed (exact_units defs t) has

  pub units_few : (t : Ty) (a : Allowed (exact_units defs t)) → units_of defs t ≡ Ok a.units
  unfolding units_of
  units_few t a = answer_few (exact_units defs t) a

  pub allowed_has : (t : Ty) → Allowed (exact_units defs t) → has_units defs t ≡ true
  unfolding has_units
  allowed_has t a = ap (λ r. is_ok r) (units_few t a)

  pub member_allowed : (t : Ty) → is_member_type defs t ≡ true → Allowed (exact_units defs t)
  unfolding is_member_type
  member_allowed t is = units_allowed t (both (has_units defs t) _ is).0

  abbrev pub unit_of : Member → ℕ
  unit_of m = unwrap_or (exact_units defs m.ty) 0

  pub head_is : (m : Member) (a : Allowed (exact_units defs m.ty)) → unit_of m ≡ a.units
  head_is m a = ap (λ o. unwrap_or o 0) a.is

  abbrev of_members : List Member → List (Option ℕ)
  of_members ms = map (λ m. exact_units defs m.ty) ms

  abbrev answers : List Member → List (Result ℕ LayoutRefusal)
  answers ms = map (λ m. units_of defs m.ty) ms

  total_step : (m : Member) (ms : List Member) (n : ℕ) → Allowed (exact_units defs m.ty) → total (of_members ms) ≡ Some n → total (of_members (m ∷ ms)) ≡ Some (unit_of m + n)
  total_step m ms n a is =
      ap (λ o. option_and_then (λ k. option_map (λ n. k + n) (total (of_members ms))) o) a.is
      ∙ ap (λ o. option_map (λ n. a.units + n) o) is
      ∙ ap (λ k. Some (k + n)) (sym (head_is m a))

  -- the sum of the members' units is known
  pub total_fit : (ms : List Member) → are_members defs ms ≡ true → total (of_members ms) ≡ Some (sum (member_units defs ms))
  total_fit [] fit = refl
  total_fit (m ∷ ms) fit =
      let parts : (is_member_type defs m.ty ≡ true) × (are_members defs ms ≡ true) = both (is_member_type defs m.ty) (are_members defs ms) fit in
      total_step m ms (sum (member_units defs ms)) (member_allowed m.ty parts.0) (total_fit ms parts.1)
      ∙ ap Some (sym (sum_cons (unit_of m) (member_units defs ms)))

  sum_step : (m : Member) (ms : List Member) (n : ℕ) → Allowed (exact_units defs m.ty) → sum_of (answers ms) ≡ Ok n → sum_of (answers (m ∷ ms)) ≡ Ok (unit_of m + n)
  sum_step m ms n a is =
      ap (λ r. sum_of (r ∷ answers ms)) (units_few m.ty a)
      ∙ ap (added a.units) is
      ∙ ap (λ k. Ok (k + n)) (sym (head_is m a))

  -- and so is that of the first ones
  pub sum_fit : (k : ℕ) (ms : List Member) → are_members defs ms ≡ true → sum_of (answers (take k ms)) ≡ Ok (sum (take k (member_units defs ms)))
  sum_fit zero ms fit = refl
  sum_fit (suc k) [] fit = refl
  sum_fit (suc k) (m ∷ ms) fit =
      let parts : (is_member_type defs m.ty ≡ true) × (are_members defs ms ≡ true) = both (is_member_type defs m.ty) (are_members defs ms) fit in
      sum_step m (take k ms) (sum (take k (member_units defs ms))) (member_allowed m.ty parts.0) (sum_fit k ms parts.1)
      ∙ ap Ok (sym (sum_cons (unit_of m) (take k (member_units defs ms))))

-- the sum of the first numbers stands at their place
pub sums_before_at : (n : ℕ) (us : List ℕ) (k : ℕ) → k < length us → slice_get (sums_before n us) k ≡ Some (n + sum (take k us))
sums_before_at n [] k below = absurd (omega arith)
sums_before_at n (u ∷ us) zero below = ap Some (sym (add-zero n))
sums_before_at n (u ∷ us) (suc k) below =
    sums_before_at (n + u) us k (omega arith) ∙ ap Some (add_assoc n u (sum (take k us)) ∙ ap (λ m. n + m) (sym (sum_cons u (take k us))))

-- ---- a table that knows more

module _ (defs more : List StructDef) (stay : (t : Ty) → Covers (exact_units defs t) (exact_units more t)) where
  allowed_more : (t : Ty) → Allowed (exact_units defs t) → Allowed (exact_units more t)
  allowed_more t a = record { units = a.units; is = stay t a.units a.is; few = a.few }

  pub has_units_more : (t : Ty) → has_units defs t ≡ true → has_units more t ≡ true
  has_units_more t has = allowed_has more t (allowed_more t (units_allowed defs t has))

  unit_more : (m : Member) → Allowed (exact_units defs m.ty) → unit_of more m ≡ unit_of defs m
  unfolding allowed_more
  unit_more m a = head_is more m (allowed_more m.ty a) ∙ sym (head_is defs m a)

  pub member_units_more : (ms : List Member) → are_members defs ms ≡ true → member_units more ms ≡ member_units defs ms
  member_units_more [] fit = refl
  member_units_more (m ∷ ms) fit =
      let parts : (is_member_type defs m.ty ≡ true) × (are_members defs ms ≡ true) = both (is_member_type defs m.ty) (are_members defs ms) fit in
      ap (λ u. u ∷ member_units more ms) (unit_more m (member_allowed defs m.ty parts.0)) ∙ ap (λ us. unit_of defs m ∷ us) (member_units_more ms parts.1)

  -- what is stored of a body stays
  pub layout_of_more : (ms : List Member) → are_members defs ms ≡ true → layout_of more ms ≡ layout_of defs ms
  layout_of_more ms fit = ap (λ us. record { units = capped (sum us); offsets = map capped (sums_before 0 us); names = map (λ m. m.name) ms }) (member_units_more ms fit)

  module _ (longer : length defs ≤ length more) where
    pub is_member_type_more : (t : Ty) → is_member_type defs t ≡ true → is_member_type more t ≡ true
    unfolding is_member_type
    is_member_type_more t is =
        let parts : (has_units defs t ≡ true) × (names_below (length defs) t ≡ true) = both (has_units defs t) (names_below (length defs) t) is in
        together (has_units more t) (names_below (length more) t) (has_units_more t parts.0) (names_below_more (length defs) (length more) longer t parts.1)

    pub are_members_more : (ms : List Member) → are_members defs ms ≡ true → are_members more ms ≡ true
    are_members_more [] fit = refl
    are_members_more (m ∷ ms) fit =
        let parts : (is_member_type defs m.ty ≡ true) × (are_members defs ms ≡ true) = both (is_member_type defs m.ty) (are_members defs ms) fit in
        together (is_member_type more m.ty) (are_members more ms) (is_member_type_more m.ty parts.0) (are_members_more ms parts.1)

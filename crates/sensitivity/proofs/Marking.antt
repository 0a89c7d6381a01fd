-- Marking a struct.
use Rattle.std.proofs.Common.{◌≡◌, ◌≢◌, ◌∙◌, ◌⊎◌, inl, inr, ℕ, zero, suc, ◌+◌, ◌<◌, Bool, true, false, cond, List, [], ◌∷◌, ◌++◌, Option, Some, None, count_by, get_or, is_none, is_some, length, map, slice_get, slice_set, refl, sym, ap, subst, arith}
use Rattle.std.specs.List.{Contains}
use Rattle.std.specs.Option.{option_and_then}
use Rattle.std.proofs.lemmas.Bool.{both_ways, cases_eq, cases_lt}
use Rattle.std.proofs.lemmas.List.{get_or_past, get_or-set_other, get_or-set_same, length-append, length-map, length-set}
use Rattle.std.proofs.lemmas.List.Elements.{Contains-append_left}
use Rattle.std.proofs.lemmas.List.Sums.{sum_by-cons, sum_by-set}
use Rattle.std.proofs.lemmas.Option.{same_Some}
use Rattle.c_types.specs.declared.structs.Member.{Member}
use Rattle.c_types.specs.declared.structs.StructDef.{StructDef}
use Rattle.c_types.specs.declared.ty.Ty.TheVariants as ty
use Rattle.sensitivity.specs.declared.class.Class.{Class}
use Rattle.sensitivity.specs.declared.class.Class.TheVariants as class
use Rattle.sensitivity.specs.declared.marks.Marks.{Marks}
use Rattle.sensitivity.specs.Holds.{Holds, has_no_body}
use Rattle.sensitivity.specs.Classes.{class_at}
use Rattle.sensitivity.specs.inner.Marks.{AreMarked, CanMark, Extends, Includes, IsMarked, class_by, first_class, is_regular_class, is_sensitive_class, is_universal_class}

-- ---- lists with one more at the end

pub got_kept : {A : Type 0} (xs : List A) (x : A) (k : ℕ) (y : A) → slice_get xs k ≡ Some y → slice_get (xs ++ x ∷ []) k ≡ Some y
got_kept [] x k y is = absurd (cc)
got_kept (z ∷ zs) x zero y is = is
got_kept (z ∷ zs) x (suc k) y is = got_kept zs x k y is

pub got_last : {A : Type 0} (xs : List A) (x : A) → slice_get (xs ++ x ∷ []) (length xs) ≡ Some x
got_last [] x = refl
got_last (z ∷ zs) x = got_last zs x

pub got_more : {A : Type 0} (xs : List A) (x : A) (k : ℕ) (y : A) → slice_get (xs ++ x ∷ []) k ≡ Some y → (slice_get xs k ≡ Some y) ⊎ (y ≡ x)
got_more [] x zero y is = inr (sym (same_Some x y is))
got_more [] x (suc k) y is = absurd (cc)
got_more (z ∷ zs) x zero y is = inl is
got_more (z ∷ zs) x (suc k) y is = got_more zs x k y is

-- ---- nothing is known at first

first_cases : (d : StructDef) → (first_class d ≡ class.Regular) ⊎ (first_class d ≡ class.Universal)
first_cases d = by (is_some d.members)
  where
    by : (b : Bool) → (class_by b ≡ class.Regular) ⊎ (class_by b ≡ class.Universal)
    by true = inl refl
    by false = inr refl

first_at : (defs : List StructDef) (s : ℕ) → (class_at (map first_class defs) s ≡ class.Regular) ⊎ (class_at (map first_class defs) s ≡ class.Universal)
first_at [] s = inr refl
first_at (d ∷ ds) zero = first_cases d
first_at (d ∷ ds) (suc s) = first_at ds s

first_not : (defs : List StructDef) (s : ℕ) (a : Class) → class_at (map first_class defs) s ≡ a → a ≢ class.Regular → a ≢ class.Universal → ⊥
first_not defs s a is nr nu = elim (first_at defs s) [
  | inl e ↦ nr (sym is ∙ e)
  | inr e ↦ nu (sym is ∙ e)
]

body_class : (o : Option (List Member)) → is_universal_class (class_by (is_some o)) ≡ is_none o
body_class None = refl
body_class (Some ms) = refl

first_bodies : (defs : List StructDef) (s : ℕ) → is_universal_class (class_at (map first_class defs) s) ≡ is_none (option_and_then (λ (d : StructDef). d.members) (slice_get defs s))
first_bodies [] s = refl
first_bodies (d ∷ ds) zero = body_class d.members
first_bodies (d ∷ ds) (suc s) = first_bodies ds s

class_unmarked : (b : Bool) → ◌≡◌ {A = ℕ} (cond (is_sensitive_class (class_by b)) 1 0) 0
class_unmarked true = refl
class_unmarked false = refl

zero_sum : (n : ℕ) → n ≡ 0 → 0 + n ≡ 0
zero_sum n is = omega (arith, is)

first_count : (defs : List StructDef) → count_by is_sensitive_class (map first_class defs) ≡ 0
first_count [] = refl
first_count (d ∷ ds) =
    let rest = count_by is_sensitive_class (map first_class ds) in
    sum_by-cons (λ (a : Class). cond {A = ℕ} (is_sensitive_class a) 1 0) (first_class d) (map first_class ds)
    ∙ ap (λ n. n + rest) (class_unmarked (is_some d.members)) ∙ zero_sum rest (first_count ds)

pub marked_first : (defs : List StructDef) → AreMarked defs (record { of_structs = map first_class defs; found = [] })
marked_first defs = record {
  many = length-map defs first_class;
  bodies = first_bodies defs;
  no_code = λ s is. first_not defs s class.Code is (λ e. absurd (cc)) (λ e. absurd (cc));
  counted = sym (first_count defs);
  listed = λ k s is. absurd (cc);
  at = λ s is. absurd (first_not defs s class.Sensitive is (λ e. absurd (cc)) (λ e. absurd (cc)));
  holds = λ s is. absurd (first_not defs s class.Sensitive is (λ e. absurd (cc)) (λ e. absurd (cc)));
}

pub marked_new : (defs : List StructDef) (classes : List Class) (found : List ℕ) → classes ≡ map first_class defs → found ≡ [] → AreMarked defs (record { of_structs = classes; found = found })
marked_new defs classes found is none =
    subst (λ x. AreMarked defs (record { of_structs = x; found = found })) (sym is) (subst (λ y. AreMarked defs (record { of_structs = map first_class defs; found = y })) (sym none) (marked_first defs))

-- ---- one more

pub class_low : (classes : List Class) (s : ℕ) (a : Class) → class_at classes s ≡ a → a ≢ class.Universal → s < length classes
class_low classes s a is ne = elim (cases_lt s (length classes)) [
  | inl low ↦ low
  | inr high ↦ absurd (ne (sym is ∙ get_or_past classes s class.Universal (omega arith)))
]

counted_more : (classes : List Class) (s : ℕ) → s < length classes → class_at classes s ≡ class.Regular → count_by is_sensitive_class (slice_set classes s class.Sensitive) ≡ count_by is_sensitive_class classes + 1
counted_more classes s low is =
    let test : Class → ℕ = λ a. cond (is_sensitive_class a) 1 0 in
    let e = sum_by-set test classes s class.Sensitive class.Universal low in
    let z : test (get_or classes s class.Universal) ≡ test class.Regular = ap test is in
    omega (arith, e, z)

module _ (old : Marks) (s : ℕ) (regular : class_at old.of_structs s ≡ class.Regular) where
  low : s < length old.of_structs
  low = class_low old.of_structs s class.Regular regular (λ e. absurd (cc))

  abbrev now : Marks
  now = record { of_structs = slice_set old.of_structs s class.Sensitive; found = old.found ++ s ∷ [] }

  class_now : class_at now.of_structs s ≡ class.Sensitive
  class_now = get_or-set_same old.of_structs s class.Sensitive class.Universal low

  class_other : (t : ℕ) → (t ≡ s → ⊥) → class_at now.of_structs t ≡ class_at old.of_structs t
  class_other t ne = get_or-set_other old.of_structs s t class.Sensitive class.Universal ne

  -- the class of each is as it was, or the struct is this one
  class_each : (t : ℕ) (a : Class) → class_at now.of_structs t ≡ a → (t ≡ s) ⊎ (class_at old.of_structs t ≡ a)
  class_each t a is = elim (cases_eq t s) [
    | inl e ↦ inl e
    | inr ne ↦ inr (sym (class_other t ne) ∙ is)
  ]

  kept : (t : ℕ) → IsMarked old t → IsMarked now t
  kept t is = elim (cases_eq t s) [
    | inl e ↦ subst (λ x. class_at now.of_structs x ≡ class.Sensitive) (sym e) class_now
    | inr ne ↦ class_other t ne ∙ is
  ]

  pub extends_more : Extends old (record { of_structs = slice_set old.of_structs s class.Sensitive; found = old.found ++ s ∷ [] })
  extends_more = record { kept = kept; same = λ k t is. got_kept old.found s k t is }

  pub marked_now : IsMarked (record { of_structs = slice_set old.of_structs s class.Sensitive; found = old.found ++ s ∷ [] }) s
  marked_now = class_now

  module _ (defs : List StructDef) (are : AreMarked defs old) (can : CanMark defs s) where
    pub marked_more : AreMarked defs (record { of_structs = slice_set old.of_structs s class.Sensitive; found = old.found ++ s ∷ [] })
    marked_more = record {
      many = length-set old.of_structs s class.Sensitive ∙ are.many;
      bodies = λ t. elim (cases_eq t s) [
        | inl e ↦ ap (λ x. is_universal_class (class_at now.of_structs x)) e ∙ ap is_universal_class class_now ∙ sym can.body ∙ sym (ap (has_no_body defs) e)
        | inr ne ↦ ap is_universal_class (class_other t ne) ∙ are.bodies t
      ];
      no_code = λ t is. elim (class_each t class.Code is) [
        | inl e ↦ absurd (let f = sym (ap (λ x. class_at now.of_structs x) e ∙ class_now) ∙ is in cc)
        | inr o ↦ are.no_code t o
      ];
      counted = omega (arith, length-append old.found (s ∷ []), counted_more old.of_structs s low regular, are.counted);
      listed = λ k t is. elim (got_more old.found s k t is) [
        | inl o ↦ kept t (are.listed k t o)
        | inr e ↦ subst (λ x. class_at now.of_structs x ≡ class.Sensitive) (sym e) class_now
      ];
      at = λ t is. elim (class_each t class.Sensitive is) [
        | inl e ↦ (length old.found, got_last old.found s ∙ ap Some (sym e))
        | inr o ↦ let k = are.at t o in (k.0, got_kept old.found s k.0 t k.1)
      ];
      holds = λ t is. elim (class_each t class.Sensitive is) [
        | inl e ↦ subst (λ x. Holds defs (ty.Struct x)) (sym e) can.holds
        | inr o ↦ are.holds t o
      ];
    }

module _ (old : Marks) (s : ℕ) (classes : List Class) (found : List ℕ) (regular : class_at old.of_structs s ≡ class.Regular) (is : classes ≡ slice_set old.of_structs s class.Sensitive) (more : found ≡ old.found ++ s ∷ []) where
  same_marks : ◌≡◌ {A = Marks} (record { of_structs = slice_set old.of_structs s class.Sensitive; found = old.found ++ s ∷ [] }) (record { of_structs = classes; found = found })
  same_marks = λ i. record { of_structs = sym is i; found = sym more i }

  pub mark_extends : Extends old (record { of_structs = classes; found = found })
  mark_extends = subst (λ x. Extends old x) same_marks (extends_more old s regular)

  pub mark_marks : (defs : List StructDef) → AreMarked defs old → CanMark defs s → AreMarked defs (record { of_structs = classes; found = found }) × (class_at classes s ≡ class.Sensitive)
  mark_marks defs are can = (subst (λ x. AreMarked defs x) same_marks (marked_more old s regular defs are can), subst (λ x. IsMarked x s) same_marks (marked_now old s regular))

pub regular_is : (a : Class) → is_regular_class a ≡ true → a ≡ class.Regular
regular_is class.Regular is = refl
regular_is class.Code is = absurd (cc)
regular_is class.Universal is = absurd (cc)
regular_is class.Sensitive is = absurd (cc)

pub not_regular : (a : Class) → is_regular_class a ≡ false → a ≡ class.Regular → ⊥
not_regular a is e = let f = ap is_regular_class e in both_ways _ is f

-- what has a body, and isn't regular, is marked
pub marked_before : (defs : List StructDef) (marks : Marks) (s : ℕ) → AreMarked defs marks → CanMark defs s → (class_at marks.of_structs s ≡ class.Regular → ⊥) → IsMarked marks s
marked_before defs marks s are can ne = by (class_at marks.of_structs s) refl
  where
    by : (a : Class) → class_at marks.of_structs s ≡ a → IsMarked marks s
    by class.Code is = absurd (are.no_code s is)
    by class.Sensitive is = is
    by class.Universal is = absurd (both_ways _ can.body (sym (are.bodies s) ∙ ap is_universal_class is))
    by class.Regular is = absurd (ne is)

pub extends_same : (marks : Marks) → Extends marks marks
extends_same marks = record { kept = λ s is. is; same = λ k s is. is }

pub extends_then : (a b c : Marks) → Extends a b → Extends b c → Extends a c
extends_then a b c ab bc = record { kept = λ s is. bc.kept s (ab.kept s is); same = λ k s is. bc.same k s (ab.same k s is) }

-- ---- lists of those that ask

pub included_more : (lists : List (List ℕ)) (n s : ℕ) (list : List ℕ) → n < length lists → list ≡ get_or lists n [] ++ s ∷ []
    → (m t : ℕ) → Includes lists m t → Includes (slice_set lists n list) m t
included_more lists n s list low is m t there = elim (cases_eq m n) [
  | inl e ↦
      let now : get_or (slice_set lists n list) m [] ≡ get_or lists m [] ++ s ∷ [] =
      ap (λ x. get_or (slice_set lists n list) x []) e ∙ get_or-set_same lists n list [] low ∙ is ∙ ap (λ x. get_or lists x [] ++ s ∷ []) (sym e) in
      subst (λ xs. Contains xs t) (sym now) (Contains-append_left (get_or lists m []) (s ∷ []) t there)
  | inr ne ↦ subst (λ xs. Contains xs t) (sym (get_or-set_other lists n m list [] ne)) there
]

-- an empty list more
empty_at : (lists : List (List ℕ)) (n : ℕ) → get_or (lists ++ [] ∷ []) n [] ≡ get_or lists n []
empty_at [] zero = refl
empty_at [] (suc n) = refl
empty_at (xs ∷ lists) zero = refl
empty_at (xs ∷ lists) (suc n) = empty_at lists n

pub included_none : (lists : List (List ℕ)) → ((n s : ℕ) → Includes lists n s → ⊥) → (n s : ℕ) → Includes (lists ++ [] ∷ []) n s → ⊥
included_none lists none n s there = none n s (subst (λ xs. Contains xs s) (empty_at lists n) there)

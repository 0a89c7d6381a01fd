-- The search is sound and complete.
use Rattle.std.proofs.Common.{◌≡◌, ◌∙◌, ℕ, ◌<◌, false, List, Option, Some, None, is_none, length, slice_get, refl, sym, ap, subst, arith}
use Rattle.std.specs.Option.{option_and_then}
use Rattle.std.proofs.lemmas.Bool.{both_ways}
use Rattle.std.proofs.lemmas.Option.{slice_get_within}
use Rattle.c_types.specs.declared.structs.Member.{Member}
use Rattle.c_types.specs.declared.structs.StructDef.{StructDef}
use Rattle.c_types.specs.declared.ty.Ty.{Ty}
use Rattle.c_types.specs.declared.ty.Ty.TheVariants as ty
use Rattle.sensitivity.specs.declared.holding.Holding.{Holding}
use Rattle.sensitivity.specs.declared.holding.Holding.TheVariants as holding
use Rattle.sensitivity.specs.declared.class.Class.{Class}
use Rattle.sensitivity.specs.declared.class.Class.TheVariants as class
use Rattle.sensitivity.specs.declared.search.Search.{Search}
use Rattle.sensitivity.specs.Holds.{Holds, array, code, has_no_body, member, pointer, universal}
use Rattle.sensitivity.specs.Classes.{AreClasses, HasClass, class_at}
use Rattle.sensitivity.specs.inner.Marks.{Grows, IsFollowed, IsHolding, IsMarked, IsMember, IsNoted, IsRead, IsSearch, IsStructRead, Reaches, behind, here, inside, is_universal_class}
use Rattle.sensitivity.proofs.Forms.{code_points, no_code_struct, no_element, no_struct, no_struct_in, same_element, same_struct, same_target, struct_of_struct, target_of_pointer, universal_points, universal_struct}
use Rattle.sensitivity.proofs.Marking.{class_low, extends_then}

body_there : (o : Option (List Member)) (ms : List Member) → o ≡ Some ms → is_none o ≡ false
body_there o ms is = ap is_none is

pub member_body : (defs : List StructDef) (s : ℕ) (m : Member) → IsMember defs s m → has_no_body defs s ≡ false
member_body defs s m is = ap is_none is.are

pub member_holds : (defs : List StructDef) (s : ℕ) (m : Member) → IsMember defs s m → Holds defs m.ty → Holds defs (ty.Struct s)
member_holds defs s m is h = member (ty.Struct s) s is.members m (struct_of_struct s) is.are is.contain h

-- ---- what grows

pub grows_then : (a b c : Search) → Grows a b → Grows b c → Grows a c
grows_then a b c ab bc = record {
  marks = extends_then a.marks b.marks c.marks ab.marks bc.marks;
  many = bc.many ∙ ab.many;
  askers = λ n s is. bc.askers n s (ab.askers n s is);
}

pub grows_same : (a : Search) → Grows a a
grows_same a = record { marks = record { kept = λ s is. is; same = λ k s is. is }; many = refl; askers = λ n s is. is }

noted_kept : (a b : Search) (s : ℕ) (x : Holding) → Grows a b → IsNoted a s x → IsNoted b s x
noted_kept a b s holding.Always g n = g.marks.kept s n
noted_kept a b s holding.Never g n = n
noted_kept a b s (holding.AsStruct k) g n = λ low. g.askers k s (n (subst (λ c. k < c) g.many low))

pub read_kept : (defs : List StructDef) (a b : Search) (s : ℕ) (m : Member) → Grows a b → IsRead defs a s m → IsRead defs b s m
read_kept defs a b s m g r = record { comes_to = r.comes_to; answers = r.answers; noted = noted_kept a b s r.comes_to g r.noted }

pub struct_read_kept : (defs : List StructDef) (a b : Search) (s : ℕ) → Grows a b → IsStructRead defs a s → IsStructRead defs b s
struct_read_kept defs a b s g r m is = read_kept defs a b s m g (r m is)

-- ---- at the end

module _ (defs : List StructDef) (search : Search) (are : IsSearch defs search) where
  module _ (read : (s : ℕ) → s < length defs → IsStructRead defs search s) (followed : (n : ℕ) → IsMarked search.marks n → IsFollowed search n) where
    marked_low : (s : ℕ) → IsMarked search.marks s → s < length search.askers.lists.items
    marked_low s is = omega (arith, class_low search.marks.of_structs s class.Sensitive is (λ e. absurd (cc)), are.marked.many, are.many)

    body_within : (o : Option StructDef) (ms : List Member) → option_and_then (λ (d : StructDef). d.members) o ≡ Some ms → (d : StructDef) × (o ≡ Some d)
    body_within None ms is = absurd (cc)
    body_within (Some d) ms is = (d, refl)

    mark_member : (s : ℕ) (m : Member) → IsMember defs s m → ((n : ℕ) → Reaches defs m.ty n → IsMarked search.marks n) → Holds defs m.ty → IsMarked search.marks s
    mark_member s m is rest h = by r.comes_to r.answers r.noted
      where
        r : IsRead defs search s m
        r = let d = body_within (slice_get defs s) is.members is.are in read s (slice_get_within defs s d.0 d.1) m is

        by : (x : Holding) → IsHolding defs m.ty x → IsNoted search s x → IsMarked search.marks s
        by holding.Always answers noted = noted
        by holding.Never answers noted = absurd (answers h)
        by (holding.AsStruct k) answers noted = let marked = rest k answers in followed k marked s (noted (marked_low k marked))

    pub complete : {t : Ty} → Holds defs t → (n : ℕ) → Reaches defs t n → IsMarked search.marks n
    complete (code t is) n (here _ _ e) = let p = code_points t is in absurd (no_struct t p.0 n p.1 e)
    complete (code t is) n (behind _ u _ e nc nu r) = absurd (both_ways _ nc is)
    complete (code t is) n (inside _ u _ e r) = let p = code_points t is in absurd (no_element t p.0 u p.1 e)
    complete (universal t is) n (here _ _ e) = let p = universal_points defs t is in absurd (no_struct t p.0 n p.1 e)
    complete (universal t is) n (behind _ u _ e nc nu r) = absurd (both_ways _ nu is)
    complete (universal t is) n (inside _ u _ e r) = let p = universal_points defs t is in absurd (no_element t p.0 u p.1 e)
    complete (pointer t v is h) n (here _ _ e) = absurd (no_struct t v n is e)
    complete (pointer t v is h) n (behind _ u _ e nc nu r) = complete h n (subst (λ x. Reaches defs x n) (same_target t u v e is) r)
    complete (pointer t v is h) n (inside _ u _ e r) = absurd (no_element t v u is e)
    complete (array t v is h) n (here _ _ e) = absurd (no_struct_in t v n is e)
    complete (array t v is h) n (behind _ u _ e nc nu r) = absurd (no_element t u v e is)
    complete (array t v is h) n (inside _ u _ e r) = complete h n (subst (λ x. Reaches defs x n) (same_element t u v e is) r)
    complete (member t s ms m is body there h) n (here _ _ e) =
        subst (IsMarked search.marks) (same_struct t s n is e) (mark_member s m (record { members = ms; are = body; contain = there }) (complete h) h)
    complete (member t s ms m is body there h) n (behind _ u _ e nc nu r) = absurd (no_struct t u s e is)
    complete (member t s ms m is body there h) n (inside _ u _ e r) = absurd (no_struct_in t u s e is)

    -- ---- the classes of pointers to structs

    class_is : (s : ℕ) (a : Class) → class_at search.marks.of_structs s ≡ a → HasClass defs (ty.Pointer (ty.Struct s)) a
    class_is s class.Code is = absurd (are.marked.no_code s is)
    class_is s class.Universal is = (no_code_struct s, universal_struct defs s ∙ sym (are.marked.bodies s) ∙ ap is_universal_class is)
    class_is s class.Sensitive is = (
      record { no_code = no_code_struct s; no_universal = universal_struct defs s ∙ sym (are.marked.bodies s) ∙ ap is_universal_class is },
      record { target = ty.Struct s; is = target_of_pointer (ty.Struct s); holds = are.marked.holds s is },
    )
    class_is s class.Regular is = (
      record { no_code = no_code_struct s; no_universal = universal_struct defs s ∙ sym (are.marked.bodies s) ∙ ap is_universal_class is },
      λ p. let h = subst (Holds defs) (same_target (ty.Pointer (ty.Struct s)) p.target (ty.Struct s) p.is (target_of_pointer (ty.Struct s))) p.holds in
          let marked = complete h s (here (ty.Struct s) s (struct_of_struct s)) in absurd (let e = sym is ∙ marked in cc),
    )

    pub classes_are : AreClasses defs search.marks.of_structs
    classes_are s = class_is s (class_at search.marks.of_structs s) refl

-- The search for structs that hold, step by step.
use Rattle.std.proofs.Common.{◌≡◌, ◌∙◌, ◌⊎◌, inl, inr, ℕ, zero, suc, ◌+◌, ◌<◌, ◌≤◌, List, [], ◌∷◌, Option, None, Some, get_or, length, slice_get, slice_index_or, refl, sym, ap, subst, arith}
use Rattle.std.specs.List.{All, Contains}
use Rattle.std.specs.Option.{option_and_then}
use Rattle.std.proofs.lemmas.Bool.{cases_eq}
use Rattle.std.proofs.lemmas.List.Elements.{All-contains, Contains-get_or}
use Rattle.std.proofs.lemmas.List.Sums.{count_by-le-length}
use Rattle.std.proofs.lemmas.Option.{same_Some, slice_get-get_or, slice_get_within}
use Rattle.c_types.specs.declared.structs.Member.{Member}
use Rattle.c_types.specs.declared.structs.StructDef.{StructDef}
use Rattle.c_types.specs.Structs.{body_of}
use Rattle.sensitivity.specs.declared.askers.Askers.{Askers}
use Rattle.sensitivity.specs.declared.holding.Holding.{Holding}
use Rattle.sensitivity.specs.declared.holding.Holding.TheVariants as holding
use Rattle.sensitivity.specs.declared.marks.Marks.{Marks}
use Rattle.sensitivity.specs.declared.search.Search.{Search}
use Rattle.sensitivity.specs.inner.Marks.{AreMarked, CanMark, Extends, Follows, Grows, Includes, IsFollowed, IsHolding, IsMarked, IsMember, IsRead, IsSearch, IsStructRead, is_sensitive_class}
use Rattle.sensitivity.proofs.HoldingByForm.{reached_holds}
use Rattle.sensitivity.proofs.Marking.{extends_same}
use Rattle.sensitivity.proofs.Complete.{member_body, member_holds, struct_read_kept}

module _ (defs : List StructDef) (old : Search) (are : IsSearch defs old) where
  pub search_marks : (marks : Marks) → AreMarked defs marks → IsSearch defs (record { marks = marks; askers = old.askers })
  search_marks marks marked = record { marked = marked; many = are.many; askers = are.askers }

  pub search_add : (askers : Askers) (n s : ℕ) → Follows defs n s → length askers.lists.items ≡ length old.askers.lists.items
      → ((k t : ℕ) → Includes askers.lists.items k t → Includes old.askers.lists.items k t ⊎ ((k ≡ n) × (t ≡ s)))
      → IsSearch defs (record { marks = old.marks; askers = askers })
  search_add askers n s follows many others = record {
    marked = are.marked;
    many = many ∙ are.many;
    askers = λ k t there. elim (others k t there) [
      | inl before ↦ are.askers k t before
      | inr now ↦ subst (λ x. Follows defs x t) (sym now.0) (subst (λ x. Follows defs n x) (sym now.1) follows)
    ];
  }

pub grows_marks : (old : Search) (marks : Marks) → Extends old.marks marks → Grows old (record { marks = marks; askers = old.askers })
grows_marks old marks extends = record { marks = extends; many = refl; askers = λ n s there. there }

pub grows_add : (old : Search) (askers : Askers) → length askers.lists.items ≡ length old.askers.lists.items
    → ((k t : ℕ) → Includes old.askers.lists.items k t → Includes askers.lists.items k t) → Grows old (record { marks = old.marks; askers = askers })
grows_add old askers many kept = record { marks = extends_same old.marks; many = many; askers = kept }

module _ (defs : List StructDef) (s : ℕ) (m : Member) (is : IsMember defs s m) where
  pub can_mark : IsHolding defs m.ty holding.Always → CanMark defs s
  can_mark h = record { body = member_body defs s m is; holds = member_holds defs s m is h }

  pub follows : (n : ℕ) → IsHolding defs m.ty (holding.AsStruct n) → Follows defs n s
  follows n r = record { body = member_body defs s m is; holds = λ h. member_holds defs s m is (reached_holds defs r h) }

-- what the question comes to, in the case that it is
pub holding_in : (defs : List StructDef) (m : Member) (x y : Holding) → x ≡ y → IsHolding defs m.ty x → IsHolding defs m.ty y
holding_in defs m x y e h = subst (IsHolding defs m.ty) e h

-- ---- following what was found

module _ (defs : List StructDef) (search : Search) (are : IsSearch defs search) where
  -- each that asks for a marked struct can be marked
  pub askers_can : (n : ℕ) → IsMarked search.marks n → (list : List ℕ) → list ≡ slice_index_or search.askers.lists.items n [] → All (CanMark defs) list
  askers_can n marked list is k d low =
      let there : Includes search.askers.lists.items n (slice_index_or list k d) =
      subst (λ xs. Contains xs (slice_index_or list k d)) is (Contains-get_or list k d low) in
      let f = are.askers n (slice_index_or list k d) there in
      record { body = f.body; holds = f.holds (are.marked.holds n marked) }

  -- the first so many that were found are followed
  pub count_few : length search.marks.found ≤ length defs
  count_few = let most = count_by-le-length is_sensitive_class search.marks.of_structs in omega (arith, most, are.marked.counted, are.marked.many)

-- ---- the loops

module _ (defs : List StructDef) (s : ℕ) where
  -- each member of this body is read
  pub struct_read : (search : Search) (ms : List Member) → body_of defs s ≡ Some ms → All (IsRead defs search s) ms → IsStructRead defs search s
  struct_read search ms is all m member =
      All-contains (IsRead defs search s) ms m all (subst (λ xs. Contains xs m) (same_Some member.members ms (sym member.are ∙ is)) member.contain)

  pub member_at : (ms : List Member) → body_of defs s ≡ Some ms → (k : ℕ) (m : Member) → k < length ms → m ≡ get_or ms k m → IsMember defs s m
  member_at ms is k m low e = record { members = ms; are = is; contain = subst (Contains ms) (sym e) (Contains-get_or ms k m low) }

-- what is followed stays followed, while more is marked
pub followed_kept : (old new : Search) (n : ℕ) → Extends old.marks new.marks → new.askers ≡ old.askers → IsFollowed old n → IsFollowed new n
followed_kept old new n extends same followed s there = extends.kept s (followed s (subst (λ x. Includes x.lists.items n s) same there))

-- at the end each that is marked is followed
pub followed_all : (defs : List StructDef) (search : Search) (next : ℕ) → IsSearch defs search
    → ((k n : ℕ) → k < next → slice_get search.marks.found k ≡ Some n → IsFollowed search n)
    → length search.marks.found ≤ next → (n : ℕ) → IsMarked search.marks n → IsFollowed search n
followed_all defs search next are all few n marked =
    let k = are.marked.at n marked in
    let low = slice_get_within search.marks.found k.0 n k.1 in
    all k.0 n (omega (arith, low, few)) k.1

-- one more that was found is followed
pub spread_more : (old new : Search) (next n : ℕ) → Grows old new → new.askers ≡ old.askers → slice_get old.marks.found next ≡ Some n → IsFollowed new n
    → ((k m : ℕ) → k < next → slice_get old.marks.found k ≡ Some m → IsFollowed old m)
    → (k m : ℕ) → k < next + 1 → slice_get new.marks.found k ≡ Some m → IsFollowed new m
spread_more old new next n grows same at now before k m low is =
    let within : next < length old.marks.found = slice_get_within old.marks.found next n at in
    let o : slice_get old.marks.found k ≡ Some (get_or old.marks.found k 0) = slice_get-get_or old.marks.found k 0 (omega (arith, within)) in
    let e : get_or old.marks.found k 0 ≡ m = same_Some (get_or old.marks.found k 0) m (sym (grows.marks.same k (get_or old.marks.found k 0) o) ∙ is) in
    elim (cases_eq k next) [
      | inl eq ↦ let en : m ≡ n = same_Some m n (sym is ∙ ap (λ x. slice_get new.marks.found x) eq ∙ grows.marks.same next n at) in subst (IsFollowed new) (sym en) now
      | inr ne ↦ followed_kept old new m grows.marks same (before k m (omega arith) (o ∙ ap Some e))
    ]

pub none_past : {A : Type 0} (xs : List A) (k : ℕ) → slice_get xs k ≡ None → length xs ≤ k
none_past [] k is = omega arith
none_past (x ∷ xs) zero is = absurd (cc)
none_past (x ∷ xs) (suc k) is = omega (arith, none_past xs k is)

-- a struct without a body has no members
pub no_body_read : (defs : List StructDef) (search : Search) (s : ℕ) → body_of defs s ≡ None → IsStructRead defs search s
no_body_read defs search s none m member = let e = member.are in absurd (cc)

pub body_none : (defs : List StructDef) (s : ℕ) → slice_get defs s ≡ None → body_of defs s ≡ None
body_none defs s none = ap (λ o. option_and_then (λ (d : StructDef). d.members) o) none

pub body_some : (defs : List StructDef) (s : ℕ) (d : StructDef) (o : Option (List Member)) → slice_get defs s ≡ Some d → d.members ≡ o → body_of defs s ≡ o
body_some defs s d o is members = ap (λ o. option_and_then (λ (d : StructDef). d.members) o) is ∙ members

-- one more struct is read
pub read_more : (defs : List StructDef) (old new : Search) (s : ℕ) → Grows old new → IsStructRead defs new s
    → ((t : ℕ) → t < s → IsStructRead defs old t) → (t : ℕ) → t < s + 1 → IsStructRead defs new t
read_more defs old new s grows now before t low = elim (cases_eq t s) [
  | inl e ↦ subst (IsStructRead defs new) (sym e) now
  | inr ne ↦ struct_read_kept defs old new t grows (before t (omega arith))
]

-- The search for structs that hold code pointers: what is known of each, and which structs ask for which.
use Rattle.std.specs.Prelude.{◌≡◌, ◌<◌, ℕ, Bool, true, false, is_some, List, [], Some, Contains, count_by, length, slice_get, slice_index_or}
use Rattle.c_types.specs.declared.structs.Member.{Member}
use Rattle.c_types.specs.declared.structs.StructDef.{StructDef}
use Rattle.c_types.specs.declared.ty.Ty.{Ty}
use Rattle.c_types.specs.declared.ty.Ty.TheVariants as ty
use Rattle.c_types.specs.Kinds.{element_of, struct_of, target_of}
use Rattle.c_types.specs.Structs.{body_of}
use Rattle.sensitivity.specs.declared.holding.Holding.{Holding}
use Rattle.sensitivity.specs.declared.holding.Holding.TheVariants as holding
use Rattle.sensitivity.specs.declared.class.Class.{Class}
use Rattle.sensitivity.specs.declared.class.Class.TheVariants as class
use Rattle.sensitivity.specs.declared.marks.Marks.{Marks}
use Rattle.sensitivity.specs.declared.search.Search.{Search}
use Rattle.sensitivity.specs.Holds.{Holds, has_no_body, is_code_pointer, is_universal}
use Rattle.sensitivity.specs.Classes.{class_at}

-- ---- what the question whether a type holds comes to

-- the struct stands in the arrays of the type and behind its pointers, none of which is code or universal
pub data Reaches (defs : List StructDef) : Ty → ℕ → Type 0 where
  here : (t : Ty) (s : ℕ) → struct_of t ≡ Some s → Reaches defs t s
  behind :
      (t target : Ty) (s : ℕ)
      → target_of t ≡ Some target
      → is_code_pointer t ≡ false
      → is_universal defs t ≡ false
      → Reaches defs target s
      → Reaches defs t s
  inside : (t element : Ty) (s : ℕ) → element_of t ≡ Some element → Reaches defs element s → Reaches defs t s

abbrev pub IsHolding : List StructDef → Ty → Holding → Type 0
IsHolding defs t holding.Always = Holds defs t
IsHolding defs t holding.Never = Holds defs t → ⊥
IsHolding defs t (holding.AsStruct s) = Reaches defs t s

-- ---- structs

abbrev pub is_universal_class : Class → Bool
is_universal_class class.Universal = true
is_universal_class _ = false

abbrev pub is_sensitive_class : Class → Bool
is_sensitive_class class.Sensitive = true
is_sensitive_class _ = false

abbrev pub is_regular_class : Class → Bool
is_regular_class class.Regular = true
is_regular_class _ = false

-- the table tells which structs have no body
abbrev pub TellsBodies : List StructDef → List Class → Type 0
TellsBodies defs classes = (s : ℕ) → is_universal_class (class_at classes s) ≡ has_no_body defs s

abbrev pub class_by : Bool → Class
class_by true = class.Regular
class_by false = class.Universal

-- the class of a pointer to a struct of which nothing is known but whether it has a body
abbrev pub first_class : StructDef → Class
first_class d = class_by (is_some d.members)

-- this struct is known to hold
abbrev pub IsMarked : Marks → ℕ → Type 0
IsMarked marks s = class_at marks.of_structs s ≡ class.Sensitive

-- what is marked holds, and is listed
pub record AreMarked (defs : List StructDef) (marks : Marks) : Type 0 where
  pub many : length marks.of_structs ≡ length defs
  pub bodies : TellsBodies defs marks.of_structs
  pub no_code : (s : ℕ) → class_at marks.of_structs s ≡ class.Code → ⊥
  pub counted : length marks.found ≡ count_by is_sensitive_class marks.of_structs
  pub listed : (k s : ℕ) → slice_get marks.found k ≡ Some s → IsMarked marks s
  pub at : (s : ℕ) → IsMarked marks s → (k : ℕ) × (slice_get marks.found k ≡ Some s)
  pub holds : (s : ℕ) → IsMarked marks s → Holds defs (ty.Struct s)

-- what is marked stays so, and what is listed stays where it is
pub record Extends (old new : Marks) : Type 0 where
  pub kept : (s : ℕ) → IsMarked old s → IsMarked new s
  pub same : (k s : ℕ) → slice_get old.found k ≡ Some s → slice_get new.found k ≡ Some s

-- the struct has a body, and holds
pub record CanMark (defs : List StructDef) (s : ℕ) : Type 0 where
  pub body : has_no_body defs s ≡ false
  pub holds : Holds defs (ty.Struct s)

-- ---- which structs ask for which

-- s is listed among those that ask for n
abbrev pub Includes : List (List ℕ) → ℕ → ℕ → Type 0
Includes lists n s = Contains (slice_index_or lists n []) s

-- s has a body, and holds where n does
pub record Follows (defs : List StructDef) (n s : ℕ) : Type 0 where
  pub body : has_no_body defs s ≡ false
  pub holds : Holds defs (ty.Struct n) → Holds defs (ty.Struct s)

-- ---- the search

-- what is marked holds, and what is listed follows
pub record IsSearch (defs : List StructDef) (search : Search) : Type 0 where
  pub marked : AreMarked defs search.marks
  pub many : length search.askers.lists.items ≡ length defs
  pub askers : (n s : ℕ) → Includes search.askers.lists.items n s → Follows defs n s

-- what is known stays known
pub record Grows (old new : Search) : Type 0 where
  pub marks : Extends old.marks new.marks
  pub many : length new.askers.lists.items ≡ length old.askers.lists.items
  pub askers : (n s : ℕ) → Includes old.askers.lists.items n s → Includes new.askers.lists.items n s

-- what a member of this struct comes to is marked or listed
abbrev pub IsNoted : Search → ℕ → Holding → Type 0
IsNoted search s holding.Always = IsMarked search.marks s
IsNoted search s holding.Never = Unit {0}
IsNoted search s (holding.AsStruct n) = n < length search.askers.lists.items → Includes search.askers.lists.items n s

pub record IsRead (defs : List StructDef) (search : Search) (s : ℕ) (m : Member) : Type 0 where
  pub comes_to : Holding
  pub answers : IsHolding defs m.ty comes_to
  pub noted : IsNoted search s comes_to

-- the struct has this member
pub record IsMember (defs : List StructDef) (s : ℕ) (m : Member) : Type 0 where
  pub members : List Member
  pub are : body_of defs s ≡ Some members
  pub contain : Contains members m

-- each member of the struct is read
abbrev pub IsStructRead : List StructDef → Search → ℕ → Type 0
IsStructRead defs search s = (m : Member) → IsMember defs s m → IsRead defs search s m

-- those that ask for the struct are marked
abbrev pub IsFollowed : Search → ℕ → Type 0
IsFollowed search n = (s : ℕ) → Includes search.askers.lists.items n s → IsMarked search.marks s

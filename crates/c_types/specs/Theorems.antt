-- What holds of types and of each table of structs, in the language's own words.
use Rattle.std.specs.Prelude.{◌≡◌, ◌↔◌, ◌≤◌, ◌<◌, ℕ, ◌*◌, IsTrue, List, length, map, Some, None}
use Rattle.std.specs.Option.{option_map}
use Rattle.c_types.specs.declared.ty.Ty.{Ty}
use Rattle.c_types.specs.declared.ty.Ty.TheVariants as ty
use Rattle.c_types.specs.declared.ty.FnTy.{FnTy}
use Rattle.c_types.specs.declared.structs.Member.{Member}
use Rattle.c_types.specs.declared.structs.StructDef.{StructDef}
use Rattle.c_types.specs.Structs.{body_of, with_tag, with_body}
use Rattle.c_types.specs.Same.{same}
use Rattle.c_types.specs.Units.{exact_units, total}
use Rattle.c_types.specs.Sound.{is_member_type}

-- two types are the same exactly where they are equal
abbrev pub SameIsEquality : Type 0
SameIsEquality = (a b : Ty) → IsTrue (same a b) ↔ (a ≡ b)

-- the units of each form of type, by those of its parts; none of an incomplete one
pub record UnitsAreSums (defs : List StructDef) : Type 0 where
  pub int : exact_units defs ty.Int ≡ Some 1
  pub char : exact_units defs ty.Char ≡ Some 1
  pub pointer : (t : Ty) → exact_units defs (ty.Pointer t) ≡ Some 1
  pub array :
      (t : Ty) (bound : ℕ)
      → exact_units defs (ty.Array t bound) ≡ option_map (λ n. n * bound) (exact_units defs t)
  pub body :
      (s : ℕ) (ms : List Member)
      → body_of defs s ≡ Some ms
      → exact_units defs (ty.Struct s) ≡ total (map (λ m. exact_units defs m.ty) ms)
  pub no_body : (s : ℕ) → body_of defs s ≡ None → exact_units defs (ty.Struct s) ≡ None
  pub void : exact_units defs ty.Void ≡ None
  pub function : (f : FnTy) → exact_units defs (ty.Function f) ≡ None

-- ---- tables that grow

-- the second table has each body of the first
pub record Extends (defs more : List StructDef) : Type 0 where
  pub longer : length defs ≤ length more
  pub bodies : (s : ℕ) (ms : List Member) → body_of defs s ≡ Some ms → body_of more s ≡ Some ms

-- a declaration and a first body leave each body as it is
pub record TablesGrow : Type 0 where
  pub declared : (defs : List StructDef) (tag : List ℕ) → Extends defs (with_tag defs tag)
  pub defined :
      (defs : List StructDef) (s : ℕ) (ms : List Member)
      → s < length defs
      → body_of defs s ≡ None
      → Extends defs (with_body defs s ms)

-- what is known of a type stays known in each table that has more
pub record UnitsStay : Type 0 where
  pub units :
      (defs more : List StructDef)
      → Extends defs more
      → (t : Ty) (n : ℕ)
      → exact_units defs t ≡ Some n
      → exact_units more t ≡ Some n
  pub member_types :
      (defs more : List StructDef)
      → Extends defs more
      → (t : Ty)
      → IsTrue (is_member_type defs t)
      → IsTrue (is_member_type more t)

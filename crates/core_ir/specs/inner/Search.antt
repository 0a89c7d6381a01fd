-- The search for a type among the parts of another: its layers, and the structs that were found.
use Rattle.std.specs.Prelude.{◌≡◌, ◌<◌, ◌≤◌, ℕ, true, false, List, Some, Contains, count_by, length, slice_index, slice_index_or}
use Rattle.c_types.specs.declared.structs.Member.{Member}
use Rattle.c_types.specs.declared.structs.StructDef.{StructDef}
use Rattle.c_types.specs.declared.ty.Ty.{Ty}
use Rattle.c_types.specs.declared.ty.Ty.TheVariants as ty
use Rattle.c_types.specs.Structs.{body_of}
use Rattle.core_ir.specs.declared.found.Found.{Found}
use Rattle.core_ir.specs.Parts.{HasPart}

-- ---- layers

-- the second type is the first, or an element of it, or of its element ..
pub data HasLayer : Ty → Ty → Type 0 where
  outermost : (t : Ty) → HasLayer t t
  inside : (t x : Ty) (n : ℕ) → HasLayer t x → HasLayer (ty.Array t n) x

-- ---- structs that were found

-- this one was found
pub record Includes (found : Found) (s : ℕ) : Type 0 where
  pub low : s < 1024
  pub is : slice_index_or found.is_found s false ≡ true

pub record AreFound (found : Found) : Type 0 where
  pub marks : length found.is_found ≡ 1024
  pub room : length found.numbers ≡ 1024
  pub counted : found.count ≡ count_by (λ b. b) found.is_found
  pub listed : (k : ℕ) → k < found.count → Includes found (slice_index found.numbers k)
  pub at : (s : ℕ) → Includes found s → (k : ℕ) × (k < found.count) × (slice_index found.numbers k ≡ s)

-- what was found stays where it was
pub record Extends (old new : Found) : Type 0 where
  pub more : old.count ≤ new.count
  pub same : (k : ℕ) → k < old.count → slice_index new.numbers k ≡ slice_index old.numbers k
  pub kept : (s : ℕ) → Includes old s → Includes new s

-- ---- the search

-- the type isn't looked for in vain: it has no such layer, and the struct in its arrays was found
pub record IsClean (found : Found) (part t : Ty) : Type 0 where
  pub no_layer : HasLayer t part → ⊥
  pub structs : (s : ℕ) → HasLayer t (ty.Struct s) → s < 1024 → Includes found s

-- so is each member of the struct
abbrev pub IsScanned : List StructDef → Found → Ty → ℕ → Type 0
IsScanned defs found part s =
    (ms : List Member) (m : Member) → body_of defs s ≡ Some ms → Contains ms m → IsClean found part m.ty

-- the first so many structs were looked into for a part of the whole
pub record AreSearched (defs : List StructDef) (whole part : Ty) (found : Found) (next : ℕ) : Type 0 where
  pub are : AreFound found
  pub parts : (s : ℕ) → Includes found s → (x : Ty) → HasPart defs (ty.Struct s) x → HasPart defs whole x
  pub scanned : (k : ℕ) → k < next → IsScanned defs found part (slice_index found.numbers k)
  pub start : IsClean found part whole

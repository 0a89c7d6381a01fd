-- Tables of structs, as lists: what a declaration and a body add, and where names stand.
use Rattle.std.specs.Prelude.{ℕ, zero, suc, List, [], ◌∷◌, ◌++◌, Option, Some, None, unwrap_or, slice_get}
use Rattle.std.specs.Option.{option_and_then}
use Rattle.c_types.specs.declared.structs.Member.{Member}
use Rattle.c_types.specs.declared.structs.StructDef.{StructDef}
use Rattle.tables.specs.Places.{place_of}

-- the members of a struct that has a body
abbrev pub body_of : List StructDef → ℕ → Option (List Member)
body_of defs s = option_and_then (λ d. d.members) (slice_get defs s)

-- its members, and none of a struct without a body
abbrev pub members_of : List StructDef → ℕ → List Member
members_of defs s = unwrap_or (body_of defs s) []

-- one more struct, without a body
abbrev pub with_tag : List StructDef → List ℕ → List StructDef
with_tag defs tag = defs ++ record { name = tag; members = None } ∷ []

-- the struct gets this body
abbrev pub with_body : List StructDef → ℕ → List Member → List StructDef
with_body [] s ms = []
with_body (d ∷ ds) zero ms = record { name = d.name; members = Some ms } ∷ ds
with_body (d ∷ ds) (suc s) ms = d ∷ with_body ds s ms

-- the number of the first struct with this tag
abbrev pub struct_named : List StructDef → List ℕ → Option ℕ
struct_named defs tag = place_of (λ d. d.name) defs tag

-- the number of the first member with this name in a struct that has a body
abbrev pub member_named : List StructDef → ℕ → List ℕ → Option ℕ
member_named defs s name = option_and_then (λ ms. place_of (λ m. m.name) ms name) (body_of defs s)

-- Which types hold code pointers: the least relation with the rules below.
use Rattle.std.specs.Prelude.{◌≡◌, ℕ, Bool, true, false, IsTrue, List, Some, Contains, is_none}
use Rattle.c_types.specs.declared.structs.Member.{Member}
use Rattle.c_types.specs.declared.structs.StructDef.{StructDef}
use Rattle.c_types.specs.declared.ty.Ty.{Ty, fold-Ty}
use Rattle.c_types.specs.declared.ty.Ty.TheOpen.{Ty-F}
use Rattle.c_types.specs.Kinds.{element_of, passes, struct_of, target_of}
use Rattle.c_types.specs.Structs.{body_of}

-- ---- functions, and arrays of such

abbrev pub code_step : Ty-F Bool Bool → Bool
code_step (Ty-F.Function f) = true
code_step (Ty-F.Array element bound) = element
code_step _ = false

unfoldable pub is_code : Ty → Bool
is_code = fold-Ty Bool Bool code_step (λ f. false)

-- a pointer to a function
unfoldable pub is_code_pointer : Ty → Bool
is_code_pointer t = passes is_code (target_of t)

-- ---- `void`, `char`, structs without a body, and arrays of such

-- where this says which structs have no body
abbrev pub open_step : (ℕ → Bool) → Ty-F Bool Bool → Bool
open_step has_no_body Ty-F.Void = true
open_step has_no_body Ty-F.Char = true
open_step has_no_body (Ty-F.Struct s) = has_no_body s
open_step has_no_body (Ty-F.Array element bound) = element
open_step has_no_body _ = false

unfoldable pub is_open : (ℕ → Bool) → Ty → Bool
is_open has_no_body = fold-Ty Bool Bool (open_step has_no_body) (λ f. false)

abbrev pub has_no_body : List StructDef → ℕ → Bool
has_no_body defs s = is_none (body_of defs s)

-- a pointer that may point to anything
unfoldable pub is_universal : List StructDef → Ty → Bool
is_universal defs t = passes (is_open (has_no_body defs)) (target_of t)

-- ---- types that hold code pointers

pub data Holds (defs : List StructDef) : Ty → Type 0 where
  code : (t : Ty) → IsTrue (is_code_pointer t) → Holds defs t
  universal : (t : Ty) → IsTrue (is_universal defs t) → Holds defs t
  pointer : (t target : Ty) → target_of t ≡ Some target → Holds defs target → Holds defs t
  array : (t element : Ty) → element_of t ≡ Some element → Holds defs element → Holds defs t
  member :
      (t : Ty) (s : ℕ) (ms : List Member) (m : Member)
      → struct_of t ≡ Some s
      → body_of defs s ≡ Some ms
      → Contains ms m
      → Holds defs m.ty
      → Holds defs t

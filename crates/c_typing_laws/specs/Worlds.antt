-- What is known at a place of a source, beside a context: what names in scope stand for, and that the context has all that
-- is known.
use Rattle.std.specs.Prelude.{◌≡◌, ℕ, true, if◌then◌else◌, IsTrue, List, [], length, map, Option, Some, None, slice_get}
use Rattle.std.specs.List.{AllByRecursion}
use Rattle.c_types.specs.declared.ty.FnTy.{FnTy}
use Rattle.c_types.specs.declared.ty.Ty.{Ty}
use Rattle.c_types.specs.Theorems.{Extends}
use Rattle.c_typed.specs.declared.entity.Entity.{Entity}
use Rattle.c_typed.specs.declared.entity.Entity.TheVariants as entity
use Rattle.c_typed.specs.declared.unit.Local.{Local}
use Rattle.c_scope.specs.declared.scopes.Binding.{Binding}
use Rattle.c_scope.specs.declared.scopes.Meaning.{Meaning}
use Rattle.c_scope.specs.declared.scopes.Meaning.TheVariants as means
use Rattle.c_scope.specs.declared.world.KnownFunction.{KnownFunction}
use Rattle.c_scope.specs.declared.world.World.{World}
use Rattle.c_scope.specs.Scopes.{known_function}
use Rattle.c_typed_rows.specs.Contexts.{Context, Name, Signature, defined_as, global_type}
use Rattle.c_typed_rows.specs.Sources.{are_distinct}

-- ---- scopes

-- what a variable's name stands for, of globals and locals of these types
abbrev pub EntityFits : List Ty → List Ty → Entity → Ty → Type 0
EntityFits gs ls (entity.Global n) t = slice_get gs n ≡ Some t
EntityFits gs ls (entity.Local n) t = slice_get ls n ≡ Some t
EntityFits gs ls entity.Parameter t = Unit {0}
EntityFits gs ls entity.Function t = ⊥
EntityFits gs ls (entity.BuiltIn b) t = ⊥

abbrev pub MeaningFits : List Ty → List Ty → Meaning → Type 0
MeaningFits gs ls (means.Variable e t) = EntityFits gs ls e t
MeaningFits gs ls _ = Unit {0}

abbrev pub ScopesFit : List Ty → List Ty → List (List Binding) → Type 0
ScopesFit gs ls ss = AllByRecursion (AllByRecursion (λ b. MeaningFits gs ls b.meaning)) ss

abbrev pub MeansNoParameter : Meaning → Type 0
MeansNoParameter (means.Variable entity.Parameter t) = ⊥
MeansNoParameter _ = Unit {0}

-- no name stands for a parameter of a declarator
abbrev pub HaveNoParameter : List (List Binding) → Type 0
HaveNoParameter ss = AllByRecursion (AllByRecursion (λ b. MeansNoParameter b.meaning)) ss

-- ---- worlds of a context

-- a local of the context, at least as much known of it
abbrev pub LocalStands : Local → Option Local → Type 0
LocalStands l None = ⊥
LocalStands l (Some m) = (m.ty ≡ l.ty) × (l.is_addressed ≡ true → m.is_addressed ≡ true)

-- the context has all that is known here: each body of a struct, the type of each function that is used, each string, and of
-- each local its type and whether its address is taken
pub record Below (k : Context) (w : World) : Type 0 where
  pub structs : Extends w.structs k.structs
  pub functions :
      (x : Name) (f : KnownFunction)
      → known_function w.functions x ≡ Some f
      → f.is_used ≡ true
      → defined_as k.functions x ≡ Some f.ty
  pub strings :
      (n : ℕ) (bytes : List ℕ)
      → slice_get w.strings n ≡ Some bytes
      → slice_get k.strings n ≡ Some bytes
  pub locals : (n : ℕ) (l : Local) → slice_get w.locals n ≡ Some l → LocalStands l (slice_get k.locals n)

-- the types of the locals
abbrev pub local_types : World → List Ty
local_types w = map (λ l. l.ty) w.locals

-- the type of a function that is defined
abbrev pub defined_by : Option KnownFunction → Option FnTy
defined_by None = None
defined_by (Some f) = if f.is_defined then Some f.ty else None

abbrev pub defined_in : List KnownFunction → Name → Option FnTy
defined_in fs x = defined_by (known_function fs x)

-- what is known outside functions, behind global variables of these types and the definitions of these functions
pub record IsFile (gs : List Ty) (fs : List Signature) (w : World) : Type 0 where
  pub scopes : ScopesFit gs (local_types w) w.scopes
  pub no_parameter : HaveNoParameter w.scopes
  pub no_local : local_types w ≡ []
  pub count : w.globals ≡ length gs
  pub defined : (x : Name) → defined_in w.functions x ≡ defined_as fs x
  pub distinct : IsTrue (are_distinct fs)

-- these are the types of the context's first global variables
abbrev pub AreFirst : Context → List Ty → Type 0
AreFirst k gs = (n : ℕ) (t : Ty) → slice_get gs n ≡ Some t → global_type k n ≡ Some t
